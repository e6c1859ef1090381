use Rattle.std.proofs.Common.{refl}
use Rattle.acap_machine.proofs.ReadyLemmas.{ready_for}
use Rattle.acap_machine.proofs.state.State.ready_words.Goals as goal

pub returns-clause-answer : goal.returns-clause-answer
returns-clause-answer c =
    let s = c.args.self.now in
    ready_for s s c.args.seat _ c.in_ok-user.field-0.now c.saying.result _ _ c.in_ok-user.ensures.ok c.saying.ensures refl refl refl tt
    (c.kept_law.ensures.kept)
