use Rattle.acap_ordmap.proofs.MapLemmas.{remove_kept, without_in_order}
use Rattle.acap_entries.proofs.StoreLemmas.{octets_same}
use Rattle.acap_entries.specs.Orders.{octets_cmp}
use Rattle.std.specs.Cmp.Lexicographic.{nat_list_cmp_total}
use Rattle.acap_entries.proofs.table.Table.remove.Goals as goal

pub invariant_of-self : goal.invariant_of-self
invariant_of-self g c = rw c.take_out.ensures.items (without_in_order octets_cmp nat_list_cmp_total _ _ c.self.invariant)

pub returns : goal.returns
returns g c = rw (c.take_out.ensures.items, ← c.self.view_is) (remove_kept octets_cmp nat_list_cmp_total octets_same _ _ c.self.invariant)
