use Rattle.std.proofs.Common.{◌≡◌, true, false, sym, ◌∙◌, subst}
use Rattle.acap_inherit.specs.Reaching.{is_known, is_reached}
use Rattle.acap_inherit.proofs.ReachLemmas.{reached_itself, not_reached}
use Rattle.acap_inherit.proofs.reach.Reach.is_reached.Goals as goal

pub returns-then-is_known : goal.returns-then-is_known
returns-then-is_known c =
    let change = c.self.inside.change.now in
    let old = c.self.inside.tree.now.store in
    let known : is_known c.self.inside.written.items c.args.dataset.now ≡ true =
    (λ i. is_known (sym c.as_slice.ensures.value i) (sym c.as_slice-2.ensures.value i)) ∙ (sym c.is_known.ensures ∙ c.if-is_known.true) in
    subst (λ reach. true ≡ is_reached reach c.args.dataset.now) c.self.view_is
    (reached_itself change.writes old.records c.self.inside.written.items c.self.invariant.written c.args.dataset.now known)

pub returns-else-self : goal.returns-else-self
returns-else-self c =
    let change = c.self.inside.change.now in
    let old = c.self.inside.tree.now.store in
    let known : is_known c.self.inside.written.items c.args.dataset.now ≡ false =
    (λ i. is_known (sym c.as_slice.ensures.value i) (sym c.as_slice-2.ensures.value i)) ∙ (sym c.is_known.ensures ∙ c.if-is_known.false) in
    c.if-self.false
    ∙ subst (λ reach. false ≡ is_reached reach c.args.dataset.now) c.self.view_is
    (not_reached change.writes old.records c.self.inside.index.now.0 c.self.inside.written.items c.self.invariant.index c.self.invariant.written (sym c.self.invariant.heirs ∙ c.if-self.false) c.args.dataset.now known)
