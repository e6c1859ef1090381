-- Notices applied to rows, computed from the client's rule alone.
use Rattle.std.specs.Prelude.{◌≡◌, ℕ, List, [], ◌∷◌, Option, Some, None, codes}
use Rattle.acap_entries.specs.declared.record.Cell.TheVariants.{Single}
use Rattle.acap_entries.specs.declared.row.Item.TheVariants.{One}
use Rattle.acap_entries.specs.declared.row.Row.{Row}
use Rattle.acap_notices.specs.Rows.{by_name}
use Rattle.acap_notices.specs.Holding.{Holding, Listed, Mapped, holding_after_all}
use Rattle.acap_notices.specs.declared.notice.Notice.{Notice}
use Rattle.acap_notices.specs.declared.notice.Notice.TheVariants.{AddTo, RemoveFrom, Change}

-- an entry with one string
abbrev pub with_value : List ℕ → List ℕ → Row
with_value name value = record { name = name; items = One (Single value) ∷ [] }

-- the rows of three entries
abbrev pub abc : List Row
abc = with_value (codes "a") (codes "1") ∷ with_value (codes "b") (codes "2")
    ∷ with_value (codes "c") (codes "3") ∷ []

abbrev pub bdf : List Row
bdf = with_value (codes "b") (codes "2") ∷ with_value (codes "d") (codes "4")
    ∷ with_value (codes "f") (codes "6") ∷ []

-- a comes, b goes, and f has another value, at these positions
abbrev pub a_comes : ℕ → Notice
a_comes position = AddTo position (with_value (codes "a") (codes "1"))

abbrev pub b_goes : ℕ → Notice
b_goes position = RemoveFrom (codes "b") position

abbrev pub f_changes : ℕ → ℕ → Notice
f_changes from to = Change from to (with_value (codes "f") (codes "9"))

abbrev pub adf : List Row
adf = with_value (codes "a") (codes "1") ∷ with_value (codes "d") (codes "4")
    ∷ with_value (codes "f") (codes "9") ∷ []

-- what is held of a list, and of a map, after notices
abbrev pub listed_all : List Row → List Notice → Option Holding
listed_all rows notices = holding_after_all (Listed rows) notices

abbrev pub mapped_all : List Row → List Notice → Option Holding
mapped_all rows notices = holding_after_all (Mapped (by_name rows)) notices

pub record RowExamples : Type 0 where
  pub moved_down : listed_all abc (Change 1 3 (with_value (codes "a") (codes "9")) ∷ [])
      ≡ Some (Listed (with_value (codes "b") (codes "2") ∷ with_value (codes "c") (codes "3")
      ∷ with_value (codes "a") (codes "9") ∷ []))
  pub moved_up : listed_all abc (Change 3 1 (with_value (codes "c") (codes "0")) ∷ [])
      ≡ Some (Listed (with_value (codes "c") (codes "0") ∷ with_value (codes "a") (codes "1")
      ∷ with_value (codes "b") (codes "2") ∷ []))
  pub mixed : listed_all bdf (a_comes 1 ∷ b_goes 2 ∷ f_changes 3 3 ∷ []) ≡ Some (Listed adf)
  pub mixed_at_any_positions : (i j k l : ℕ)
      → mapped_all bdf (a_comes i ∷ b_goes j ∷ f_changes k l ∷ []) ≡ Some (Mapped (by_name adf))
  pub at_the_end : listed_all bdf (a_comes 4 ∷ [])
      ≡ Some (Listed (with_value (codes "b") (codes "2") ∷ with_value (codes "d") (codes "4")
      ∷ with_value (codes "f") (codes "6") ∷ with_value (codes "a") (codes "1") ∷ []))
  pub gone_again : listed_all bdf (a_comes 2 ∷ RemoveFrom (codes "a") 2 ∷ []) ≡ Some (Listed bdf)
  pub first_of_all : listed_all [] (a_comes 1 ∷ []) ≡ Some (Listed (with_value (codes "a") (codes "1") ∷ []))
  pub nothing_told : listed_all bdf [] ≡ Some (Listed bdf)

pub record MisfitExamples : Type 0 where
  pub added_at_zero : listed_all bdf (a_comes 0 ∷ []) ≡ None
  pub added_past_the_end : listed_all bdf (a_comes 5 ∷ []) ≡ None
  pub added_again : listed_all bdf (AddTo 1 (with_value (codes "b") (codes "2")) ∷ []) ≡ None
  pub removed_at_zero : listed_all bdf (b_goes 0 ∷ []) ≡ None
  pub removed_past_the_end : listed_all bdf (b_goes 4 ∷ []) ≡ None
  pub removed_from_another : listed_all bdf (b_goes 2 ∷ []) ≡ None
  pub removed_unknown : listed_all bdf (RemoveFrom (codes "a") 1 ∷ []) ≡ None
  pub changed_at_zero : listed_all bdf (f_changes 0 3 ∷ []) ≡ None
  pub changed_past_the_end : listed_all bdf (f_changes 4 3 ∷ []) ≡ None
  pub changed_another : listed_all bdf (f_changes 2 3 ∷ []) ≡ None
  pub changed_to_zero : listed_all bdf (f_changes 3 0 ∷ []) ≡ None
  pub changed_to_past_the_end : listed_all bdf (f_changes 3 4 ∷ []) ≡ None
  pub changed_unknown : listed_all bdf (Change 1 1 (with_value (codes "a") (codes "1")) ∷ []) ≡ None
  pub later_misfit : listed_all bdf (b_goes 1 ∷ b_goes 1 ∷ a_comes 1 ∷ []) ≡ None
  pub mapped_added_again : mapped_all bdf (AddTo 0 (with_value (codes "b") (codes "2")) ∷ []) ≡ None
  pub mapped_removed_unknown : mapped_all bdf (RemoveFrom (codes "a") 0 ∷ []) ≡ None
  pub mapped_changed_unknown : mapped_all bdf (Change 0 0 (with_value (codes "a") (codes "1")) ∷ []) ≡ None
