-- What is read of a store as a change will leave it.
use Rattle.std.proofs.Common.{◌≡◌, ap, sym}
use Rattle.std.specs.FinMap as map
use Rattle.acap_entries.specs.Ahead.{IsReadAhead}
use Rattle.acap_entries.specs.Changes.{left_by}
use Rattle.acap_entries.specs.Store.{Store, Stored, Written, after_edit, after_writes}
use Rattle.acap_entries.specs.declared.change.Change.{Change}
use Rattle.acap_entries.specs.declared.path.Path.{Path}
use Rattle.acap_entries.proofs.StoreLemmas.{entries-IsPathByPath}
use Rattle.acap_entries.proofs.StoreLaws.{is_value_after}

-- what is afterwards at a path
pub get_after : (written : Written) (records : Stored) (p : Path) → map.get (after_writes (map.entries written) records) p ≡ after_edit (map.get written p) (map.get records p)
get_after written records p = (entries-IsPathByPath written records).at_path p

-- the records and the last moment are those of the store that the change leaves
pub read_ahead : (change : Change) (old : Store) → IsReadAhead change old (left_by change.writes change.moment old)
read_ahead change old = record {
  records = λ new h. ap (λ (s : Store). s.records) (sym (is_value_after change old new h));
  last = λ new h. sym h.last;
}
