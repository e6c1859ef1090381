-- The records of a dataset that are sought one after the other: words of contracts.
use Rattle.std.specs.Prelude.{ℕ, List, ◌∷◌, Option, Some, None, refl}
use Rattle.std.specs.Borrow.{Bor}
use Rattle.std.specs.Coded.{Coded, code_by, coded×, coded_list, coded_ℕ}
use Rattle.std.specs.FinMap as map
use Rattle.acap_entries.specs.Store.{Stored}
use Rattle.acap_entries.specs.contracts.path.Path as path
use Rattle.acap_entries.specs.contracts.record.Record as row
use Rattle.acap_entries.specs.declared.path.Path.{Path}
use Rattle.acap_entries.specs.declared.record.Record.{Record}

-- in which store they are, and in which dataset
pub record RecordCursor : Type 0 where
  pub records : Stored
  pub dataset : List ℕ

-- records with their paths, the first of them apart
abbrev pub all_records : Option (Bor Path × Bor Record) → List (Path × Record) → List (Path × Record)
all_records None others = others
all_records (Some e) others = (e.0.now, e.1.now) ∷ others

-- how they are told apart in proofs
abbrev pub shelf_code : Coded RecordCursor
shelf_code =
    code_by (Stored × List ℕ) (coded× (map.code path.the_row.coded row.the_row.coded) (coded_list coded_ℕ))
    (λ s. (s.records, s.dataset)) (λ p. record { records = p.0; dataset = p.1 }) (λ _. refl)
