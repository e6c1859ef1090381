-- The newest deletions of a store, which DELETEDSINCE sends [RFC 2244 section 6.6.2].
use Rattle.std.specs.Prelude.{◌≡◌, ℕ, ◌+◌, ◌-◌, min, ◌≤◌, ℤ, List, ◌++◌, length, take, drop, map, slice_get}
use Rattle.std.specs.Prelude.{Option, refl}
use Rattle.std.specs.Option.{option_map, option_or}
use Rattle.std.specs.Coded.{Coded, code_by, coded×, coded_ℕ, coded_ℤ, coded_list, coded_option}
use Rattle.acap_entries.specs.declared.deletions.Deletion.{Deletion}
use Rattle.acap_entries.specs.declared.path.Path.{Path}
use Rattle.acap_entries.specs.contracts.deletions.Deletion as deletion

-- how many are kept
abbrev pub deletions_kept : ℕ
deletions_kept = 4_096

-- the newest of all deletions, and those before them
unfoldable pub newest_of : List Deletion → List Deletion
newest_of all = drop (length all - deletions_kept) all

unfoldable pub others_of : List Deletion → List Deletion
others_of all = take (length all - deletions_kept) all

-- the last moment of those that are not kept, or the one that was the last before
unfoldable pub forgotten_of : Option ℤ → List Deletion → Option ℤ
forgotten_of before all =
    option_or (option_map (λ d. d.moment) (slice_get (others_of all) (length (others_of all) - 1))) before

-- the deletions of some paths at a moment
abbrev pub deletions_at : List Path → ℤ → List Deletion
deletions_at paths moment = map (λ path. record { path = path; moment = moment }) paths

-- the deletions that are kept, the moment of the newest other one, and how many there is room for in all
pub record Remembered : Type 0 where
  pub kept : List Deletion
  pub forgotten : Option ℤ
  pub slots : ℕ

-- there is room for `more` deletions
pub record HasSlots (more : ℕ) (d : Remembered) : Type 0 where
  pub slots : min deletions_kept (length d.kept + more) ≤ d.slots

-- what is kept once more have come
pub record IsAdded (added : List Deletion) (old new : Remembered) : Type 0 where
  pub kept : new.kept ≡ newest_of (old.kept ++ added)
  pub forgotten : new.forgotten ≡ forgotten_of old.forgotten (old.kept ++ added)

abbrev pub remembered_code : Coded Remembered
remembered_code =
    code_by (List Deletion × (Option ℤ × ℕ))
    (coded× (coded_list deletion.the_row.coded) (coded× (coded_option coded_ℤ) coded_ℕ))
    (λ d. (d.kept, (d.forgotten, d.slots))) (λ p. record { kept = p.0; forgotten = p.1.0; slots = p.1.1 })
    (λ _. refl)
