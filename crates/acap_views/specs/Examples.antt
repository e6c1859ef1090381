-- Contexts and their notices, computed from the definitions alone.
use Rattle.std.specs.Prelude.{◌≡◌, ℕ, ℤ, true, false, List, [], ◌∷◌, ◌++◌, length, Some, None, codes, pos}
use Rattle.std.specs.FinMap as table
use Rattle.std.specs.List.{flat_map}
use Rattle.acap_notices.specs.Examples.{with_value}
use Rattle.acap_notices.specs.declared.notice.Notice.{Notice}
use Rattle.acap_notices.specs.declared.notice.Notice.TheVariants.{AddTo, RemoveFrom, Change}
use Rattle.acap_notices.specs.declared.told.Told.TheVariants as told
use Rattle.acap_moves.specs.Hits.{Name}
use Rattle.acap_search.specs.Matches.{Match}
use Rattle.acap_search.specs.declared.query.SearchSpec.{SearchSpec}
use Rattle.acap_search.specs.declared.sort_term.SortTerm.TheVariants.{Rising}
use Rattle.acap_search.specs.declared.sort_term.Rank.TheVariants.{Octets}
use Rattle.acap_views.specs.Changing.{follows}
use Rattle.acap_views.specs.Contexts.{Kept, Snapshot, Live, Freed, Context, Contexts, kept_of}
use Rattle.acap_views.specs.Notices.{list_notices, same_tuple}
use Rattle.acap_views.specs.Opening.{is_full}
use Rattle.acap_views.specs.Telling.{shown_now, fault_of, told_in_turn, drain_told}
use Rattle.acap_views.specs.Waiting.{waits}
use Rattle.acap_views.specs.declared.refusal.ViewRefusal.TheVariants as refusal

-- ---- one context

pub record KeptExamples : Type 0 where
  -- with NOTIFY it follows, and without it is a snapshot
  pub notify : (found : List Match) → kept_of true found ≡ Live found found []
  pub snapshot : (found : List Match) → kept_of false found ≡ Snapshot found
  -- notices wait after the others, and the list that was sent stays: up to 4,096
  pub first : (shown before after : List Match) (notice : Notice)
      → follows (notice ∷ []) after (Live shown before []) ≡ Live shown after (notice ∷ [])
  pub last : (shown before after : List Match) (pending : List Notice) (notice : Notice)
      → length pending ≡ 4_095
      → follows (notice ∷ []) after (Live shown before pending) ≡ Live shown after (pending ++ notice ∷ [])
  pub full : (shown before after : List Match) (pending : List Notice) → length pending ≡ 4_096
      → follows [] after (Live shown before pending) ≡ Live shown after (pending ++ [])
  -- with one more the context is freed, and so it is where two of one change are one too many
  pub one_more : (shown before after : List Match) (pending : List Notice) (notice : Notice)
      → length pending ≡ 4_096
      → follows (notice ∷ []) after (Live shown before pending) ≡ Freed
  pub two_more : (shown before after : List Match) (pending : List Notice) (one two : Notice)
      → length pending ≡ 4_095
      → follows (one ∷ two ∷ []) after (Live shown before pending) ≡ Freed
  -- a snapshot and a freed one stay so
  pub still : (shown after : List Match) (notices : List Notice)
      → follows notices after (Snapshot shown) ≡ Snapshot shown
  pub gone : (after : List Match) (notices : List Notice) → follows notices after Freed ≡ Freed
  -- what has been sent is the present list, also where nothing was pending
  pub told : (shown now : List Match) (pending : List Notice)
      → shown_now (Live shown now pending) ≡ Live now now []
  pub told_snapshot : (shown : List Match) → shown_now (Snapshot shown) ≡ Snapshot shown
  -- a drain has something to send of notices and of what was
  -- freed; a change of place alone that gives no notice is nothing
  pub waiting : (shown now : List Match) (notice : Notice) (pending : List Notice)
      → waits (Live shown now (notice ∷ pending)) ≡ true
  pub moved_alone : (shown now : List Match) → waits (Live shown now []) ≡ false
  pub freed : waits Freed ≡ true
  pub kept : (shown : List Match) → waits (Snapshot shown) ≡ false

-- ---- contexts by name

abbrev pub context : SearchSpec → Kept → Context
context sought kept = record { sought = sought; enumerated = true; told = pos 0; kept = kept }

-- a snapshot s, a freed one f, and two live ones of which one notice each waits
abbrev pub four : SearchSpec → List Match → Notice → Notice → List (List ℕ × Context)
four sought list one two =
    (codes "a", context sought (Live list list (one ∷ [])))
    ∷ (codes "b", context sought (Live list list (two ∷ [])))
    ∷ (codes "f", context sought Freed) ∷ (codes "s", context sought (Snapshot list)) ∷ []

abbrev pub by_name : SearchSpec → List Match → Notice → Notice → Contexts
by_name sought list one two = table.from_entries (four sought list one two)

pub record NamedExamples : Type 0 where
  -- each name in turn, all that waits and then the moment; for a name that is said again the moment alone
  pub updates : (sought : SearchSpec) (list : List Match) (one two : Notice) (last : ℤ)
      → told_in_turn (by_name sought list one two) (codes "b" ∷ codes "a" ∷ codes "b" ∷ []) last
      ≡ told.Note (codes "b") two ∷ told.Upto (codes "b") last ∷ told.Note (codes "a") one
      ∷ told.Upto (codes "a") last ∷ told.Upto (codes "b") last ∷ []
  -- the first faulty name refuses all
  pub unknown : (sought : SearchSpec) (list : List Match) (one two : Notice)
      → fault_of (by_name sought list one two) (codes "a" ∷ codes "x" ∷ codes "f" ∷ [])
      ≡ Some refusal.NoContext
  pub freed : (sought : SearchSpec) (list : List Match) (one two : Notice)
      → fault_of (by_name sought list one two) (codes "a" ∷ codes "f" ∷ codes "s" ∷ [])
      ≡ Some refusal.FreedContext
  pub snapshot : (sought : SearchSpec) (list : List Match) (one two : Notice)
      → fault_of (by_name sought list one two) (codes "s" ∷ codes "f" ∷ []) ≡ Some refusal.NotNotify
  pub right : (sought : SearchSpec) (list : List Match) (one two : Notice)
      → fault_of (by_name sought list one two) (codes "b" ∷ codes "a" ∷ codes "b" ∷ []) ≡ None
  -- a drain sends in the order of the names
  pub drained : (sought : SearchSpec) (list : List Match) (one two : Notice)
      → flat_map (λ e. drain_told e.0 e.1.kept) (four sought list one two)
      ≡ told.Note (codes "a") one ∷ told.Note (codes "b") two ∷ told.Freed (codes "f") ∷ []
  -- 200 contexts are all that there may be, freed ones among them, but one may be replaced
  pub full : (contexts : Contexts) (name : List ℕ) → table.len contexts ≡ 200
      → table.contains_key contexts name ≡ false → is_full contexts name ≡ true
  pub replaced : (contexts : Contexts) (name : List ℕ) → table.contains_key contexts name ≡ true
      → is_full contexts name ≡ false
  pub place : (contexts : Contexts) (name : List ℕ) → table.len contexts ≡ 199 → is_full contexts name ≡ false

-- ---- one change

-- an entry by a name that begins its value, in order by that value
abbrev pub entry : Name → List ℕ → Match
entry name value = record {
  path = record { dataset = codes "/"; name = name };
  places = Rising (Octets value) ∷ [];
  row = with_value name value;
}

abbrev pub abc : List Match
abc = entry (codes "a") (codes "1") ∷ entry (codes "b") (codes "2") ∷ entry (codes "c") (codes "3") ∷ []

-- a has 9 in place of 1, and stands last
abbrev pub bca : List Match
bca = entry (codes "b") (codes "2") ∷ entry (codes "c") (codes "3") ∷ entry (codes "a") (codes "9") ∷ []

-- a comes, b goes, and f has 9 in place of 6
abbrev pub bdf : List Match
bdf = entry (codes "b") (codes "2") ∷ entry (codes "d") (codes "4") ∷ entry (codes "f") (codes "6") ∷ []

abbrev pub adf : List Match
adf = entry (codes "a") (codes "1") ∷ entry (codes "d") (codes "4") ∷ entry (codes "f") (codes "9") ∷ []

-- the same entry with the same row at another place
abbrev pub ranked_match : Name → List ℕ → List ℕ → Match
ranked_match name value rank =
    record {
      path = record { dataset = codes "/"; name = name };
      places = Rising (Octets rank) ∷ [];
      row = with_value name value;
    }

pub record NoticeExamples : Type 0 where
  -- the new position is counted when the entry has been taken out
  pub to_the_end : list_notices true abc bca (codes "a" ∷ [])
      ≡ Change 1 3 (with_value (codes "a") (codes "9")) ∷ []
  pub unplaced : list_notices false abc bca (codes "a" ∷ [])
      ≡ Change 0 0 (with_value (codes "a") (codes "9")) ∷ []
  -- one entry after the other
  pub mixed : list_notices true bdf adf (codes "a" ∷ codes "b" ∷ codes "f" ∷ [])
      ≡ AddTo 1 (with_value (codes "a") (codes "1")) ∷ RemoveFrom (codes "b") 2
      ∷ Change 3 3 (with_value (codes "f") (codes "9")) ∷ []
  -- a place that gives no other position is no notice, and a position alone is one with ENUMERATE
  pub rank_alone : list_notices true (entry (codes "a") (codes "1") ∷ [])
      (ranked_match (codes "a") (codes "1") (codes "2") ∷ []) (codes "a" ∷ []) ≡ []
  pub position : list_notices true (entry (codes "a") (codes "1") ∷ entry (codes "b") (codes "2") ∷ [])
      (entry (codes "b") (codes "2") ∷ ranked_match (codes "a") (codes "1") (codes "3") ∷ []) (codes "a" ∷ [])
      ≡ Change 1 2 (with_value (codes "a") (codes "1")) ∷ []
  pub position_alone : list_notices false (entry (codes "a") (codes "1") ∷ entry (codes "b") (codes "2") ∷ [])
      (entry (codes "b") (codes "2") ∷ ranked_match (codes "a") (codes "1") (codes "3") ∷ []) (codes "a" ∷ [])
      ≡ []
  -- what counts as a change: that it comes, goes, has another row or another place
  pub comes : same_tuple None (Some (entry (codes "a") (codes "1"))) ≡ false
  pub goes : same_tuple (Some (entry (codes "a") (codes "1"))) None ≡ false
  pub row : same_tuple (Some (entry (codes "a") (codes "1")))
      (Some (ranked_match (codes "a") (codes "2") (codes "1"))) ≡ false
  pub place : same_tuple (Some (entry (codes "a") (codes "1")))
      (Some (ranked_match (codes "a") (codes "1") (codes "2"))) ≡ false
  pub same : same_tuple (Some (entry (codes "a") (codes "1"))) (Some (entry (codes "a") (codes "1"))) ≡ true
  pub neither : same_tuple None None ≡ true
