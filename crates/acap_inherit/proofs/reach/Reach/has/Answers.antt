use Rattle.std.proofs.Common.{◌≡◌, true, false, ◌&&◌, refl, ap, sym, ◌∙◌, subst}
use Rattle.acap_entries.specs.Datasets.{dataset_exists}
use Rattle.acap_entries.specs.Leaving.{records_ahead}
use Rattle.acap_inherit.specs.Reaching.{is_reached, SaysWhether}
use Rattle.acap_inherit.proofs.ReachLemmas.{has_touched}
use Rattle.acap_inherit.proofs.reach.Reach.has.Goals as goal

pub returns-then-is_reached : goal.returns-then-is_reached
returns-then-is_reached c =
    let change = c.self.inside.change.now in
    let old = c.self.inside.tree.now.store in
    let left = records_ahead c.of.result in
    let reached : is_reached (record { change = change; old = old }) c.args.dataset.now ≡ true =
    ap (λ reach. is_reached reach c.args.dataset.now) c.self.view_is ∙ (sym c.is_reached.ensures ∙ c.if-is_reached.true) in
    subst (λ reach. SaysWhether reach c.args.dataset.now c.dataset_exists.result) c.self.view_is (λ new h.
    c.dataset_exists.ensures
    ∙ (ap (dataset_exists left) c.as_slice.ensures.value
    ∙ (ap (λ b. b && dataset_exists left c.args.dataset.now) (sym reached)
    ∙ has_touched change old new c.self.inside.index.now.0 left c.args.dataset.now c.self.invariant.index h (c.of.ensures.store.records new h))))

pub returns-else-is_reached : goal.returns-else-is_reached
returns-else-is_reached c =
    let change = c.self.inside.change.now in
    let old = c.self.inside.tree.now.store in
    let reached : is_reached (record { change = change; old = old }) c.args.dataset.now ≡ false =
    ap (λ reach. is_reached reach c.args.dataset.now) c.self.view_is ∙ (sym c.is_reached.ensures ∙ c.if-is_reached.false) in
    subst (λ reach. SaysWhether reach c.args.dataset.now c.is_reached.result) c.self.view_is (λ new h.
    c.if-is_reached.false
    ∙ (ap (λ b. b && dataset_exists new.records c.args.dataset.now) (sym reached)
    ∙ has_touched change old new c.self.inside.index.now.0 new.records c.args.dataset.now c.self.invariant.index h refl))
