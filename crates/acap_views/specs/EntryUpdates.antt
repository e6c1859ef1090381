-- A live list is brought up to date entry by entry: what stood where, and what is put where.
use Rattle.std.specs.Prelude.{◌≡◌, ℕ, ◌+◌, ◌<◌, Bool, true, false, List, [], ◌∷◌, ◌++◌, length, Option, Some}
use Rattle.std.specs.Prelude.{None, is_some, not, nat_lt, refl, if◌then◌else◌}
use Rattle.std.specs.Coded.{Coded, code_by, coded×, coded_list, coded_option, coded_ℕ}
use Rattle.std.specs.List.{cons_option, filter}
use Rattle.std.specs.Option.{option_map, option_and_then}
use Rattle.acap_entries.specs.declared.path.Path.{Path}
use Rattle.acap_ordmap.specs.Ranks.{rank_of, item_at, with_item, without_item}
use Rattle.acap_notices.specs.Waiting.{notices_pending}
use Rattle.acap_notices.specs.declared.notice.Notice.{Notice}
use Rattle.acap_moves.specs.Moves.{Move, Undo}
use Rattle.acap_moves.specs.Notices.{notice_between, same_row}
use Rattle.acap_search.specs.Matches.{Match, match_cmp, match_code}
use Rattle.acap_search.specs.declared.boxed_hit.HitKey.{HitKey}
use Rattle.acap_search.specs.declared.sort_term.SortTerm.{SortTerm}
use Rattle.acap_views.specs.Notices.{told_shape, same_tuple}
use Rattle.acap_views.specs.Room.{Watched}

-- of one entry: its name as it is sent; its places and its path as
-- they were, by which a match is found that it had; and its match now
pub record EntryUpdate : Type 0 where
  pub name : List ℕ
  pub old : Match
  pub come : Option Match

-- a match at some places and a path, whatever is sent of it
abbrev pub standing : Path → List SortTerm → Match
standing path places = record { path = path; places = places; row = record { name = []; items = [] } }

abbrev pub match_by : HitKey → Match
match_by old = standing old.path.now old.places.now

abbrev pub with_match : Option Match → List Match → List Match
with_match None matches = matches
with_match (Some found) matches = with_item match_cmp found matches

-- the list without what stood there, and then with what is put in
abbrev pub without_old : Match → List Match → List Match
without_old old matches = without_item match_cmp old matches

abbrev pub with_exchange : Match → Option Match → List Match → List Match
with_exchange old come matches = with_match come (without_old old matches)

-- what stood there and how many stood before it; and how many stand before what is put in, which is put
-- nowhere where another one stands: in the lists of contexts none ever does
abbrev pub old_place : Match → List Match → Option (ℕ × Match)
old_place old matches =
    option_map (λ found. (rank_of match_cmp old matches, found)) (item_at match_cmp old matches)

abbrev pub placed_among : Match → List Match → Option (ℕ × Match)
placed_among found others = if is_some (item_at match_cmp found others) then None
    else Some (rank_of match_cmp found others, found)

abbrev pub stands : Match → Option Match → List Match → Option (ℕ × Match)
stands old come matches = option_and_then (λ found. placed_among found (without_old old matches)) come

abbrev pub comes_to : Match → Option Match → List Match → Option ℕ
comes_to old come matches = option_map (λ s. s.0) (stands old come matches)

abbrev pub undo_by : Match → Option Match → List Match → Undo Match
undo_by old come matches = record { gone = old_place old matches; come = comes_to old come matches }

-- positions are counted from 1
abbrev pub from_one : Option (ℕ × Match) → Option (ℕ × Match)
from_one place = option_map (λ s. (s.0 + 1, s.1)) place

-- what is sent of it
abbrev pub swap_notices : Bool → List ℕ → Match → Option Match → List Match → List Notice
swap_notices enumerated name old come matches =
    notice_between told_shape enumerated name (from_one (old_place old matches))
    (from_one (stands old come matches))

abbrev pub IsSwapNotice : Bool → List ℕ → Match → Option Match → List Match → Option Notice → Type 0
IsSwapNotice enumerated name old come matches told =
    cons_option told [] ≡ swap_notices enumerated name old come matches

abbrev pub shift_notices : Bool → EntryUpdate → List Match → List Notice
shift_notices enumerated shift matches = swap_notices enumerated shift.name shift.old shift.come matches

-- one entry after the other
abbrev pub after_shift : EntryUpdate → List Match → List Match
after_shift shift matches = with_exchange shift.old shift.come matches

abbrev pub after_shifts : List EntryUpdate → List Match → List Match
after_shifts [] matches = matches
after_shifts (shift ∷ shifts) matches = after_shifts shifts (after_shift shift matches)

abbrev pub shifts_notices : Bool → List EntryUpdate → List Match → List Notice
shifts_notices enumerated [] matches = []
shifts_notices enumerated (shift ∷ shifts) matches =
    shift_notices enumerated shift matches ++ shifts_notices enumerated shifts (after_shift shift matches)

-- what is sent of one entry, and of some, waits after the rest; or more notices would wait than may
abbrev pub IsTold : Bool → EntryUpdate → Watched → Watched → Type 0
IsTold enumerated shift old new = new.pending ≡ old.pending ++ shift_notices enumerated shift old.present

abbrev pub AreTold : Bool → List EntryUpdate → Watched → Watched → Type 0
AreTold enumerated shifts old new = new.pending ≡ old.pending ++ shifts_notices enumerated shifts old.present

abbrev pub IsTooMuch : Bool → EntryUpdate → Watched → Type 0
IsTooMuch enumerated shift old =
    notices_pending < length old.pending + length (shift_notices enumerated shift old.present)

abbrev pub AreTooMany : Bool → List EntryUpdate → Watched → Type 0
AreTooMany enumerated shifts old =
    notices_pending < length old.pending + length (shifts_notices enumerated shifts old.present)

-- something is sent for certain of a match that goes, of one that comes, and of one whose row is another
abbrev pub tells_between : Option Match → Option Match → Bool
tells_between None None = false
tells_between None (Some found) = true
tells_between (Some gone) None = true
tells_between (Some gone) (Some found) = not (same_row gone.row found.row)

abbrev pub surely_tells : List Match → EntryUpdate → Bool
surely_tells matches shift = tells_between (item_at match_cmp shift.old matches) shift.come

-- how many notices wait or will for certain, with one entry more
abbrev pub count_with : List Match → EntryUpdate → ℕ → ℕ
count_with matches shift count = if surely_tells matches shift then count + 1 else count

-- of what becomes of entries as much as is needed: where more notices than may are certain to wait, the
-- context is freed whatever becomes of the rest
abbrev pub until_full : List Match → ℕ → List EntryUpdate → List EntryUpdate
until_full matches count [] = []
until_full matches count (shift ∷ shifts) =
    if nat_lt notices_pending count then []
    else shift ∷ until_full matches (count_with matches shift count) shifts

-- whether the match of an entry has changed: it isn't the one that stood there
abbrev pub has_changed : List Match → EntryUpdate → Bool
has_changed matches shift = not (same_tuple (item_at match_cmp shift.old matches) shift.come)

-- up to this many are taken as they are; of more than these, those whose match has changed
abbrev pub few : ℕ
few = 256

abbrev pub changed_if_many : List Match → List EntryUpdate → List EntryUpdate
changed_if_many matches shifts =
    if nat_lt few (length shifts) then filter (has_changed matches) shifts else shifts

-- what is due: of these as much as is needed
abbrev pub due_among : List Match → ℕ → List EntryUpdate → List EntryUpdate
due_among matches count shifts = until_full matches count (changed_if_many matches shifts)

abbrev pub due_shifts : Watched → List EntryUpdate → List EntryUpdate
due_shifts watched shifts = due_among watched.present (length watched.pending) shifts

abbrev pub move_by : EntryUpdate → Move Match
move_by shift = (shift.name, shift.come)

-- how they are told apart in proofs
abbrev pub shift_code : Coded EntryUpdate
shift_code =
    code_by (List ℕ × (Match × Option Match))
    (coded× (coded_list coded_ℕ) (coded× match_code (coded_option match_code)))
    (λ s. (s.name, (s.old, s.come))) (λ p. record { name = p.0; old = p.1.0; come = p.1.1 }) (λ _. refl)
