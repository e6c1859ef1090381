use Rattle.std.proofs.Common.{◌≡◌, take, map}
use Rattle.acap_inherit.specs.EntryNames.{names_in}
use Rattle.arrayvec.specs.ArrayVec.{array_vec_len}
use Rattle.acap_inherit.proofs.entry_names.names_on.Given as goal

abbrev pub invariant-loop-dataset : goal.invariant-loop-dataset
invariant-loop-dataset l = record {
  room : array_vec_len l.ranges ≡ l.dataset-index;
  names : l.ranges.items ≡ map (λ d. names_in l.tree.store.records d.now) (take l.dataset-index l.dataset-items);
}
