use Rattle.std.proofs.Common.{ap, sym, ◌∙◌}
use Rattle.std.specs.Option.{option_copied}
use Rattle.acap_entries.specs.Orders.{octets_eq}
use Rattle.acap_inherit.specs.declared.link.Link.{Link}
use Rattle.acap_inherit.proofs.ReachLemmas.{none_first, first_link}
use Rattle.acap_inherit.proofs.heirs.has_heir.Goals as goal

pub returns-in-Some : goal.returns-in-Some
returns-in-Some c =
    c.eq.ensures
    ∙ (ap (octets_eq c.args.base.now) (c.as_slice.ensures ∙ ap (λ (l : Link). l.base) c.get-in-Some.ensures)
    ∙ first_link c.args.base.now c.args.links.now.0 c.rank-first.result c.ascends.ensures c.rank-first.ensures.value c.in-Some.link.now (sym c.get.ensures ∙ ap option_copied c.in-Some.is))

pub returns-in-None : goal.returns-in-None
returns-in-None c =
    none_first c.args.base.now c.args.links.now.0 c.rank-first.result c.ascends.ensures c.rank-first.ensures.value (sym c.get.ensures ∙ ap option_copied c.in-None.is)
