-- Notices of one change, computed from the definitions alone.
use Rattle.std.specs.Prelude.{◌≡◌, ℕ, Bool, true, false, if◌then◌else◌, List, [], ◌∷◌, Option, Some, None}
use Rattle.std.specs.Prelude.{codes}
use Rattle.std.specs.Ordering.{nat_cmp, ordering_then}
use Rattle.acap_entries.specs.Orders.{octets_cmp, octets_eq}
use Rattle.acap_entries.specs.declared.row.Row.{Row}
use Rattle.acap_notices.specs.declared.notice.Notice.{Notice}
use Rattle.acap_notices.specs.declared.notice.Notice.TheVariants.{AddTo, RemoveFrom, Change}
use Rattle.acap_moves.specs.Hits.{Name, Shape}
use Rattle.acap_moves.specs.Notices.{notices}

-- a hit with a rank, and the row that shows nothing but the name
pub record Ranked : Type 0 where
  pub rank : ℕ
  pub name : Name

abbrev pub bare_row : Name → Row
bare_row name = record { name = name; items = [] }

abbrev pub by_rank : Shape Ranked
by_rank = record {
  order = λ a b. ordering_then (nat_cmp a.rank b.rank) (octets_cmp a.name b.name);
  name = λ h. h.name;
  row = λ h. bare_row h.name;
}

-- the hit of a name, by its rank
abbrev pub hits : List (Name × ℕ) → Name → Option Ranked
hits [] name = None
hits (pair ∷ pairs) name = if octets_eq pair.0 name then Some (record { rank = pair.1; name = name })
    else hits pairs name

abbrev pub abcd : List (Name × ℕ)
abcd = (codes "a", 1) ∷ (codes "b", 2) ∷ (codes "c", 3) ∷ (codes "d", 4) ∷ []

abbrev pub all_names : List Name
all_names = codes "a" ∷ codes "b" ∷ codes "bb" ∷ codes "c" ∷ codes "d" ∷ []

-- from ranks 1, 2, 3, 4 of a, b, c, d to these ranks, by these changed names
abbrev pub notices_after : Bool → List (Name × ℕ) → List Name → List Notice
notices_after enumerated after changed = notices by_rank enumerated (hits abcd) (hits after) all_names changed

-- a has 9, bb comes with 3, c is gone, d has 0
abbrev pub one_store : List (Name × ℕ)
one_store = (codes "a", 9) ∷ (codes "b", 2) ∷ (codes "bb", 3) ∷ (codes "d", 0) ∷ []

abbrev pub four_names : List Name
four_names = codes "a" ∷ codes "bb" ∷ codes "c" ∷ codes "d" ∷ []

-- b has 3 in place of 2, and still stands between a and c
abbrev pub other_rank : List (Name × ℕ)
other_rank = (codes "a", 1) ∷ (codes "b", 3) ∷ (codes "c", 3) ∷ (codes "d", 4) ∷ []

-- d has 0, and stands first
abbrev pub other_place : List (Name × ℕ)
other_place = (codes "a", 1) ∷ (codes "b", 2) ∷ (codes "c", 3) ∷ (codes "d", 0) ∷ []

pub record MoveExamples : Type 0 where
  pub with_positions : notices_after true one_store four_names
      ≡ Change 1 4 (bare_row (codes "a")) ∷ AddTo 2 (bare_row (codes "bb")) ∷ RemoveFrom (codes "c") 3
      ∷ Change 3 1 (bare_row (codes "d")) ∷ []
  pub without_positions : notices_after false one_store four_names
      ≡ AddTo 0 (bare_row (codes "bb")) ∷ RemoveFrom (codes "c") 0 ∷ []
  pub rank_alone : (enumerated : Bool) → notices_after enumerated other_rank (codes "b" ∷ []) ≡ []
  pub place_told : notices_after true other_place (codes "d" ∷ []) ≡ Change 4 1 (bare_row (codes "d")) ∷ []
  pub place_alone : notices_after false other_place (codes "d" ∷ []) ≡ []
