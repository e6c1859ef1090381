-- The step from one store to the next [RFC 2244 section 3.1].
use Rattle.std.specs.Prelude.{◌≡◌, ℤ, ◌+◌, min, ◌≤◌, length, ◌++◌}
use Rattle.std.specs.FinMap as map
use Rattle.acap_entries.specs.Deletions.{deletions_kept, newest_of, forgotten_of, deletions_at}
use Rattle.acap_entries.specs.Store.{Store, Roomy, Written, IsPathByPath, after_writes}
use Rattle.acap_entries.specs.declared.change.Change.{Change}

-- the store that a change makes of an old one, path by path
pub record IsStoreAfter (change : Change) (old new : Store) : Type 0 where
  pub paths : IsPathByPath change.writes old.records new.records
  pub last : new.last ≡ change.moment
  pub deletions : new.deletions ≡ newest_of (old.deletions ++ deletions_at change.deleted change.moment)
  pub forgotten : new.forgotten
      ≡ forgotten_of old.forgotten (old.deletions ++ deletions_at change.deleted change.moment)

-- the same store as a value
abbrev pub store_after : Change → Store → Store
store_after change old = record {
  records = after_writes (map.entries change.writes) old.records;
  last = change.moment;
  deletions = newest_of (old.deletions ++ deletions_at change.deleted change.moment);
  forgotten = forgotten_of old.forgotten (old.deletions ++ deletions_at change.deleted change.moment);
}

-- the records and the last moment that writes leave; what is known of deletions stays
abbrev pub left_by : Written → ℤ → Store → Store
left_by written moment old = record {
  records = after_writes (map.entries written) old.records;
  last = moment;
  deletions = old.deletions;
  forgotten = old.forgotten;
}

-- there is room for a change
pub record HasRoom (change : Change) (tree : Roomy) : Type 0 where
  pub records : map.len change.writes ≤ tree.spare
  pub deletions : min deletions_kept (length tree.store.deletions + length change.deleted) ≤ tree.slots
