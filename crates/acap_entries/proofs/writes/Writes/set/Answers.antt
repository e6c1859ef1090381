use Rattle.acap_entries.proofs.Formed.{put_in_form}
use Rattle.acap_ordmap.proofs.MapLemmas.{insert_kept}
use Rattle.acap_entries.proofs.StoreLemmas.{path_cmp_total}
use Rattle.acap_entries.specs.Store.{path_cmp}
use Rattle.acap_entries.proofs.writes.Writes.set.Goals as goal

pub invariant_of-self-2 : goal.invariant_of-self-2
invariant_of-self-2 c = rw (c.in_ok-set_in.ensures.ok) (put_in_form _ _ _ c.self.invariant c.form_law.ensures)

pub returns-clause-ok : goal.returns-clause-ok
returns-clause-ok c = rw (c.in_ok-set_in.ensures.ok, ← c.self.view_is) (insert_kept path_cmp path_cmp_total _ _ _ c.self.invariant.sorted)
