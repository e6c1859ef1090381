-- A store that is read before the change is committed that leaves it.
use Rattle.std.specs.Prelude.{◌≡◌}
use Rattle.acap_entries.specs.Changes.{IsStoreAfter}
use Rattle.acap_entries.specs.Store.{Store}
use Rattle.acap_entries.specs.declared.change.Change.{Change}

-- what is read has the records and the last moment of the store that the change makes of the old one
pub record IsReadAhead (change : Change) (old read : Store) : Type 0 where
  pub records : (new : Store) → IsStoreAfter change old new → read.records ≡ new.records
  pub last : (new : Store) → IsStoreAfter change old new → read.last ≡ new.last
