use Rattle.std.proofs.Common.{sym, ap, ◌∙◌}
use Rattle.std.specs.Cmp.Lexicographic.{nat_list_cmp_total}
use Rattle.std.specs.FinMap as table
use Rattle.acap_entries.specs.Orders.{octets_cmp}
use Rattle.acap_ordmap.proofs.MapLemmas.{remove_kept, without_in_order}
use Rattle.acap_entries.proofs.StoreLemmas.{octets_same}
use Rattle.acap_views.proofs.KeepingLemmas.{has_tied}
use Rattle.acap_views.proofs.seat_contexts.SeatContexts.free.Goals as goal

pub invariant_of-self : goal.invariant_of-self
invariant_of-self c = rw c.take_out.ensures.items (without_in_order octets_cmp nat_list_cmp_total _ _ c.self.invariant)

pub returns-clause-freed : goal.returns-clause-freed
returns-clause-freed c =
    c.is_some.ensures ∙ c.take_out.ensures.tied
    ∙ (sym (has_tied octets_cmp nat_list_cmp_total c.args.name.now c.self.inside.contexts.items c.self.invariant)
    ∙ ap (λ v. table.contains_key v.contexts c.args.name.now) c.self.view_is)

pub returns-clause-contexts : goal.returns-clause-contexts
returns-clause-contexts c =
    ap (λ es. table.from_sorted es) c.take_out.ensures.items
    ∙ (remove_kept octets_cmp nat_list_cmp_total octets_same c.self.inside.contexts.items c.args.name.now c.self.invariant
    ∙ ap (λ v. table.remove v.contexts c.args.name.now) c.self.view_is)
