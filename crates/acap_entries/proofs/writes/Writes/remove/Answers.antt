use Rattle.acap_entries.proofs.Formed.{without_in_form}
use Rattle.acap_ordmap.proofs.MapLemmas.{remove_kept}
use Rattle.acap_entries.proofs.StoreLemmas.{path_cmp_total, path_same}
use Rattle.acap_entries.specs.Store.{path_cmp}
use Rattle.acap_entries.proofs.writes.Writes.remove.Goals as goal

pub invariant_of-self : goal.invariant_of-self
invariant_of-self c = rw c.take_out.ensures.items (without_in_form _ _ c.self.invariant)

pub returns : goal.returns
returns c = rw (c.take_out.ensures.items, ← c.self.view_is) (remove_kept path_cmp path_cmp_total path_same _ _ c.self.invariant.sorted)
