use Rattle.std.proofs.Common.{ap, sym, ◌∙◌, ◌++◌, arith}
use Rattle.std.specs.Option.{option_copied}
use Rattle.acap_inherit.proofs.HeirLemmas.{from_first, none_left, no_more_heirs, one_heir, unlike, like}
use Rattle.acap_inherit.specs.declared.link.Link.{Link}
use Rattle.acap_inherit.proofs.heirs.add_heirs.Goals as goal

pub loop-index-init : goal.loop-index-init
loop-index-init c = record {
  place = omega (arith, c.rank-index.ensures.value);
  heirs = ap (λ rest. c.args.heirs.now.items ++ rest) (from_first c.args.base.now c.args.links.now.0 c.rank-index.result c.ascends.ensures c.rank-index.ensures.value);
}

pub returns-in_default : goal.returns-in_default
returns-in_default c =
    none_left c.args.base.now c.args.links.now.0 c.loop-index.index c.loop-index.heirs.items (sym c.get.ensures ∙ ap option_copied c.in_default.is) c.loop-index.invariant.heirs

pub returns-then-ne : goal.returns-then-ne
returns-then-ne c =
    no_more_heirs c.args.base.now c.in-Some.link.now c.args.links.now.0 c.loop-index.index c.loop-index.heirs.items c.ascends.ensures (sym c.get.ensures ∙ ap option_copied c.in-Some.is) c.loop-index.invariant.place
    (unlike c.args.base.now _ _ _ (c.as_slice.ensures ∙ ap (λ (l : Link). l.base) c.get-link.ensures) c.ne.ensures c.if-ne.true) c.loop-index.invariant.heirs

pub loop-index-preserved : goal.loop-index-preserved
loop-index-preserved c = record {
  place = omega (arith, c.loop-index.invariant.place);
  heirs = one_heir c.args.base.now c.in-Some.link.now c.args.links.now.0 c.loop-index.index c.loop-index.heirs.items c.push.new.self.items _ (sym c.get.ensures ∙ ap option_copied c.in-Some.is) (like c.args.base.now _ _ _ (c.as_slice.ensures ∙ ap (λ (l : Link). l.base) c.get-link.ensures) c.ne.ensures c.if-ne.false)
      c.in_ok-push.ensures.items (c.in_ok-box_copy.ensures ∙ ap (λ (l : Link). l.heir) c.get-link.ensures) c.loop-index.invariant.heirs;
}
