use Rattle.std.proofs.Common.{ap, ◌∙◌}
use Rattle.std.specs.Cmp.Lexicographic.{nat_list_cmp_total}
use Rattle.std.specs.FinMap as table
use Rattle.acap_entries.specs.Orders.{octets_cmp}
use Rattle.acap_ordmap.proofs.MapLemmas.{insert_kept, put_in_order}
use Rattle.acap_views.proofs.seat_contexts.SeatContexts.put.Goals as goal

pub invariant_of-self : goal.invariant_of-self
invariant_of-self c = rw c.put_in_room.ensures.items (put_in_order octets_cmp nat_list_cmp_total _ _ _ c.self.invariant)

pub returns-clause-contexts : goal.returns-clause-contexts
returns-clause-contexts c =
    ap (λ es. table.from_sorted es) c.put_in_room.ensures.items
    ∙ (insert_kept octets_cmp nat_list_cmp_total c.self.inside.contexts.items c.args.name c.args.context c.self.invariant
    ∙ ap (λ v. table.insert v.contexts c.args.name c.args.context) c.self.view_is)
