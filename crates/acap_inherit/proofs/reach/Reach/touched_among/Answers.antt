use Rattle.std.proofs.Common.{◌≡◌, ◌++◌, map as each, ap, ◌∙◌, subst}
use Rattle.std.specs.List.{flat_map}
use Rattle.std.specs.Result.{IfOk}
use Rattle.std.proofs.lemmas.Result.{IfOk-weaker}
use Rattle.acap_entries.specs.Leaving.{records_ahead}
use Rattle.acap_inherit.specs.Reaching.{AreTouchedAmong}
use Rattle.acap_inherit.specs.Touched.{in_order}
use Rattle.acap_inherit.specs.Touching.{paths_in}
use Rattle.acap_inherit.proofs.ReachLemmas.{found_among}
use Rattle.acap_inherit.proofs.reach.Reach.touched_among.Goals as goal

pub returns : goal.returns
returns c =
    let change = c.self.inside.change.now in
    let old = c.self.inside.tree.now.store in
    let left = records_ahead c.of-after.result in
    let datasets = each (λ d. d.now) c.args.datasets.now in
    let found : c.add_each.new.to.items ≡ flat_map (paths_in change.writes old.records left) datasets =
    c.in_ok-add_each.ensures
    ∙ (λ i. c.new-found.ensures.items i ++ flat_map (paths_in (c.of-after.ensures.writes i) (c.of-after.ensures.tree i).store.records left) datasets) in
    subst (λ reach. IfOk c.in_order.result (AreTouchedAmong reach datasets)) c.self.view_is
    (IfOk-weaker c.in_order.result _ _ (λ paths e new h.
    found_among change old new left datasets paths h (c.of-after.ensures.store.records new h) (e ∙ ap in_order found)) c.in_order.ensures)
