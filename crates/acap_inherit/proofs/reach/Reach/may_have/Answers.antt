use Rattle.std.proofs.Common.{◌≡◌, false, sym, ◌∙◌, subst}
use Rattle.acap_inherit.specs.Reaching.{is_known, SaysWhether}
use Rattle.acap_inherit.proofs.ReachLemmas.{touches_none}
use Rattle.acap_inherit.proofs.reach.Reach.may_have.Goals as goal

pub returns : goal.returns
returns c = λ none.
    let known : is_known c.self.inside.written.items c.args.dataset.now ≡ false =
    (λ i. is_known (sym c.as_slice.ensures.value i) (sym c.as_slice-2.ensures.value i)) ∙ (sym c.is_known.ensures ∙ c.if-is_known.false) in
    subst (λ reach. SaysWhether reach c.args.dataset.now false) c.self.view_is (λ new h.
    touches_none c.self.inside.change.now c.self.inside.tree.now.store new c.self.inside.index.now.0 c.self.inside.written.items c.args.dataset.now
    c.self.invariant.index c.self.invariant.written (sym c.self.invariant.heirs ∙ none) known h)
