use Rattle.acap_machine.proofs.ReadyLemmas.{begins}
use Rattle.acap_machine.proofs.state.State.new.Goals as goal

pub invariant_of-result : goal.invariant_of-result
invariant_of-result c =
    begins c.current_law.ensures c.sound_law.ensures c.args.realm c.new.result.store c.new-3.result c.new-2.result.0
    c.new.ensures c.new-3.ensures c.new-2.ensures
