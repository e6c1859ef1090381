use Rattle.std.proofs.Common.{◌∙◌, subst}
use Rattle.std.specs.Result.{IfOk}
use Rattle.acap_inherit.specs.Leaving.{AreTouchedAt}
use Rattle.acap_inherit.proofs.ReachLemmas.{none_touched}
use Rattle.acap_inherit.proofs.reach.Reach.touched_in.Goals as goal

pub returns-then-may_have : goal.returns-then-may_have
returns-then-may_have c =
    subst (λ reach. IfOk c.touched_at.result (AreTouchedAt reach.change reach.old c.args.dataset.now)) c.self.view_is c.touched_at.ensures

pub returns : goal.returns
returns c = λ new h.
    c.new.ensures
    ∙ none_touched c.args.self.now.change.writes c.args.self.now.old.records new.records c.args.dataset.now (c.may_have.ensures c.if-may_have.false new h)
