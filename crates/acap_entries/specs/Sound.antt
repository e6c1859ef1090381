-- What is so of the records that commands leave, beginning with none [RFC 2244 sections 3.1 and 3.1.1].
use Rattle.std.specs.Prelude.{◌≡◌, true, false, Some, None, codes}
use Rattle.std.specs.FinMap as map
use Rattle.acap_entries.specs.Datasets.{dataset_exists}
use Rattle.acap_entries.specs.FullPaths.{AreWellFormed}
use Rattle.acap_entries.specs.Store.{Stored}
use Rattle.acap_entries.specs.declared.path.Path.{Path}
use Rattle.acap_entries.specs.declared.record.Record.{Record}

-- the dataset of each record exists, and a record of an entry that is not present has no `subdataset`
pub record IsHoused (records : Stored) : Type 0 where
  pub homes : (p : Path) (entry : Record) → map.get records p ≡ Some entry
      → dataset_exists records p.dataset ≡ true
  pub absent : (p : Path) (entry : Record) → map.get records p ≡ Some entry → entry.present ≡ false
      → map.get entry.cells (codes "subdataset") ≡ None

-- besides, the path of each record is well formed, as in each tree and in each list of writes
pub record IsSoundStore (records : Stored) : Type 0 where
  pub formed : AreWellFormed records
  pub housed : IsHoused records
