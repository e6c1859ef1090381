-- A list of hits kept by moving one name's hit after the other, and taking that back.
use Rattle.std.specs.Prelude.{◌≡◌, ℕ, Bool, true, false, if◌then◌else◌, Option, Some, None, List, [], ◌∷◌}
use Rattle.std.specs.Prelude.{◌++◌}
use Rattle.std.specs.List.{insert, remove}
use Rattle.std.specs.Option.{option_map}
use Rattle.acap_entries.specs.Orders.{octets_eq}
use Rattle.acap_notices.specs.declared.notice.Notice.{Notice}
use Rattle.acap_moves.specs.Hits.{Name, Shape, IsLawful, is_among, IsDistinct, IsAscending, put_some, fresh}
use Rattle.acap_moves.specs.Hits.{rank, found, IsOfNames, Supports}
use Rattle.acap_moves.specs.Notices.{notice_at, notices}

-- a name, and the hit that it has then
abbrev pub Move : Type 0 → Type 0
Move H = Name × Option H

-- what stood where, and where the new hit was put: both by how many stood before
pub record Undo (H : Type 0) : Type 0 where
  pub gone : Option (ℕ × H)
  pub come : Option ℕ

abbrev pub without : {H : Type 0} → Option ℕ → List H → List H
without None hits = hits
without (Some place) hits = remove hits place

abbrev pub put_back : {H : Type 0} → Option (ℕ × H) → List H → List H
put_back None hits = hits
put_back (Some s) hits = insert hits s.0 s.1

abbrev pub undone : {H : Type 0} → Undo H → List H → List H
undone undo hits = put_back undo.gone (without undo.come hits)

-- the last one first
abbrev pub all_undone : {H : Type 0} → List (Undo H) → List H → List H
all_undone [] hits = hits
all_undone (undo ∷ undos) hits = undone undo (all_undone undos hits)

-- each name with its new hit
abbrev pub moves_to : {H : Type 0} → (Name → Option H) → List Name → List (Move H)
moves_to new [] = []
moves_to new (name ∷ names) = (name, new name) ∷ moves_to new names

module _ {H : Type 0} (v : Shape H) where
  -- the list without a name's hit
  unfoldable pub taken : Name → List H → List H
  taken name [] = []
  taken name (h ∷ hs) = if octets_eq name (v.name h) then hs else h ∷ taken name hs

  -- the name's old hit taken out, and then the new one put in
  unfoldable pub after_move : Move H → List H → List H
  after_move move hits = put_some v move.1 (taken move.0 hits)

  abbrev pub after_moves : List (Move H) → List H → List H
  after_moves [] hits = hits
  after_moves (move ∷ moves) hits = after_moves moves (after_move move hits)

  abbrev pub moves_notices : Bool → List (Move H) → List H → List Notice
  moves_notices enumerated [] hits = []
  moves_notices enumerated (move ∷ moves) hits =
      notice_at v enumerated move.0 hits (after_move move hits)
      ++ moves_notices enumerated moves (after_move move hits)

  abbrev pub undo_of : Move H → List H → Undo H
  undo_of move hits = record {
    gone = found v move.0 hits;
    come = option_map (λ h. rank v h (taken move.0 hits)) move.1;
  }

  abbrev pub undos : List (Move H) → List H → List (Undo H)
  undos [] hits = []
  undos (move ∷ moves) hits = undo_of move hits ∷ undos moves (after_move move hits)

-- moving the hits of the touched names gives the new list and
-- the notices of the changed ones, whatever else is touched
abbrev pub MovesLaw : (H : Type 0) → Type 0
MovesLaw H =
    (v : Shape H) → IsLawful v → (enumerated : Bool) (old new : Name → Option H)
    (names changed touched : List Name)
    → IsDistinct names → IsOfNames v old → IsOfNames v new → Supports new names
    → ((name : Name) → is_among name changed ≡ false → old name ≡ new name)
    → IsAscending changed → IsAscending touched
    → ((name : Name) → is_among name changed ≡ true → is_among name touched ≡ true)
    → (after_moves v (moves_to new touched) (fresh v old names) ≡ fresh v new names)
    × (moves_notices v enumerated (moves_to new touched) (fresh v old names)
    ≡ notices v enumerated old new names changed)

-- undoing moves from the last to the first gives the list that was, whatever the list and the moves
abbrev pub UndoLaw : (H : Type 0) → Type 0
UndoLaw H =
    (v : Shape H) (moves : List (Move H)) (hits : List H)
    → all_undone (undos v moves hits) (after_moves v moves hits) ≡ hits
