-- The store: a finite map from paths to records, the last
-- moment, and the newest deletions [RFC 2244 section 3.1].
use Rattle.std.specs.Prelude.{◌≡◌, ℕ, ℤ, List, [], ◌∷◌, Option, Some, None, refl}
use Rattle.std.specs.declared.cmp.Ordering.{Ordering}
use Rattle.std.specs.Ordering.{ordering_then}
use Rattle.std.specs.Coded.{Coded, code_by, coded×, coded_ℕ, coded_ℤ, coded_list, coded_option}
use Rattle.std.specs.FinMap as map
use Rattle.acap_entries.specs.Moments.{first_moment}
use Rattle.acap_entries.specs.Orders.{octets_cmp}
use Rattle.acap_entries.specs.declared.deletions.Deletion.{Deletion}
use Rattle.acap_entries.specs.declared.change.RecordEdit.{RecordEdit}
use Rattle.acap_entries.specs.declared.change.RecordEdit.TheVariants.{Put, Remove}
use Rattle.acap_entries.specs.declared.path.Path.{Path}
use Rattle.acap_entries.specs.declared.record.Record.{Record}
use Rattle.acap_entries.specs.contracts.deletions.Deletion as deletion
use Rattle.acap_entries.specs.contracts.change.RecordEdit as edit
use Rattle.acap_entries.specs.contracts.path.Path as path
use Rattle.acap_entries.specs.contracts.record.Record as row

-- the order of paths: by dataset, and then by name
abbrev pub path_cmp : Path → Path → Ordering
path_cmp a b = ordering_then (octets_cmp a.dataset b.dataset) (octets_cmp a.name b.name)

-- the records by their paths
abbrev pub Stored : Type 0
Stored = map.FinMap path_cmp Record

pub record Store : Type 0 where
  pub records : Stored
  pub last : ℤ
  -- the newest deletions, in the order in which they came
  pub deletions : List Deletion
  -- the moment of the newest one that is not among them, if one is not
  pub forgotten : Option ℤ

-- a store, how many records there is room for beside those that it has, and for how many deletions in all
pub record Roomy : Type 0 where
  pub store : Store
  pub spare : ℕ
  pub slots : ℕ

-- what a change writes: at each of some paths a record, or the removal of the one that is there
abbrev pub Written : Type 0
Written = map.FinMap path_cmp RecordEdit

-- what a path has after a write of it, or after none
abbrev pub after_edit : Option RecordEdit → Option Record → Option Record
after_edit None old = old
after_edit (Some (Put entry)) old = Some entry
after_edit (Some Remove) old = None

-- each written path has what is written there, and every other path its old record
pub record IsPathByPath (written : Written) (old new : Stored) : Type 0 where
  pub at_path : (p : Path) → map.get new p ≡ after_edit (map.get written p) (map.get old p)

-- the records after writes: each written record is put at its path, and each removed one taken out
abbrev pub after_write : Path → RecordEdit → Stored → Stored
after_write p (Put entry) records = map.insert records p entry
after_write p Remove records = map.remove records p

abbrev pub after_writes : List (Path × RecordEdit) → Stored → Stored
after_writes [] records = records
after_writes (w ∷ ws) records = after_write w.0 w.1 (after_writes ws records)

-- the empty store: no record, the first of all moments, no deletion
abbrev pub empty_store : Store
empty_store = record { records = map.empty; last = first_moment; deletions = []; forgotten = None }

-- how stores and writes are told apart in proofs
abbrev pub store_code : Coded Store
store_code =
    code_by ((Stored × ℤ) × (List Deletion × Option ℤ))
    (coded× (coded× (map.code path.the_row.coded row.the_row.coded) coded_ℤ)
    (coded× (coded_list deletion.the_row.coded) (coded_option coded_ℤ)))
    (λ s. ((s.records, s.last), (s.deletions, s.forgotten)))
    (λ p. record { records = p.0.0; last = p.0.1; deletions = p.1.0; forgotten = p.1.1 }) (λ _. refl)

abbrev pub roomy_code : Coded Roomy
roomy_code =
    code_by (Store × (ℕ × ℕ)) (coded× store_code (coded× coded_ℕ coded_ℕ))
    (λ s. (s.store, (s.spare, s.slots))) (λ p. record { store = p.0; spare = p.1.0; slots = p.1.1 })
    (λ _. refl)

abbrev pub written_code : Coded Written
written_code = map.code path.the_row.coded edit.the_row.coded
