use Rattle.std.proofs.Common.{◌≡◌, false, sym, ◌∙◌, ap, subst}
use Rattle.acap_inherit.specs.Reaching.{is_known, SaysWhether}
use Rattle.acap_inherit.proofs.ReachLemmas.{touches_none, alone_known}
use Rattle.acap_inherit.proofs.reach.Reach.only.Goals as goal

pub returns-in-len1 : goal.returns-in-len1
returns-in-len1 c = λ dataset not.
    let known : is_known c.self.inside.written.items dataset ≡ false =
    ap (λ known. is_known known dataset) (sym c.as_slice.ensures.value) ∙ alone_known c.as_slice.result.now _ dataset c.in-len1.len_below not in
    subst (λ reach. SaysWhether reach dataset false) c.self.view_is (λ new h.
    touches_none c.self.inside.change.now c.self.inside.tree.now.store new c.self.inside.index.now.0 c.self.inside.written.items dataset
    c.self.invariant.index c.self.invariant.written (sym c.self.invariant.heirs ∙ c.if-self.false) known h)
