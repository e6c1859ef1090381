use Rattle.std.proofs.Common.{ℕ, List, ap, ◌∙◌, subst}
use Rattle.std.specs.Result.{IfOk}
use Rattle.std.proofs.lemmas.Result.{IfOk-weaker}
use Rattle.acap_inherit.specs.Reaching.{AreAllReached}
use Rattle.acap_inherit.specs.Touching.{datasets_reached}
use Rattle.acap_inherit.specs.declared.link.Link.{Link}
use Rattle.acap_inherit.proofs.ReachLemmas.{all_reached}
use Rattle.acap_inherit.proofs.reach.Reach.datasets.Goals as goal

pub returns : goal.returns
returns c =
    let change = c.self.inside.change.now in
    let old = c.self.inside.tree.now.store in
    subst (λ reach. IfOk c.datasets_reached.result (λ made. AreAllReached reach made.0)) c.self.view_is
    (IfOk-weaker c.datasets_reached.result _ _ (λ made e new h.
    all_reached change old new c.self.inside.index.now.0 made.0 c.self.invariant.index h
    (e ∙ ap (λ (links : List Link × ℕ). datasets_reached change.writes old.records links.0) c.index.view_is)) c.datasets_reached.ensures)
