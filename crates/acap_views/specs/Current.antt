-- What is so of all contexts between two events [RFC 2244 section 3.3].
use Rattle.std.specs.Prelude.{[], ◌≡◌, ℕ, ◌≤◌, Bool, true, List, length, Some, map}
use Rattle.std.specs.FinMap as table
use Rattle.acap_entries.specs.Datasets.{dataset_exists}
use Rattle.acap_entries.specs.Store.{Store}
use Rattle.acap_entries.specs.declared.row.Row.{Row}
use Rattle.acap_rights.specs.declared.realm.Realm.{Realm}
use Rattle.acap_notices.specs.Holding.{holding, holding_after_all}
use Rattle.acap_notices.specs.Rows.{IsEachOnce}
use Rattle.acap_notices.specs.Waiting.{notices_pending}
use Rattle.acap_notices.specs.declared.notice.Notice.{Notice}
use Rattle.acap_search.specs.Fresh.{matches_of}
use Rattle.acap_search.specs.Matches.{Match}
use Rattle.acap_views.specs.Contexts.{Kept, Snapshot, Live, Freed, Context}
use Rattle.acap_views.specs.Seats.{Occupant, Seated}

abbrev pub rows : List Match → List Row
rows matches = map (λ found. found.row) matches

-- of a live context: the present list is the one that a search finds now, and the notices that wait lead a
-- client from the list that it was told to that one
pub record IsFollowing (fresh : List Match) (enumerated : Bool) (shown now : List Match)
    (pending : List Notice) : Type 0 where
  pub fresh_now : now ≡ fresh
  pub leads : holding_after_all (holding enumerated (rows shown)) pending
      ≡ Some (holding enumerated (rows now))
  pub once : IsEachOnce (rows shown)
  pub once_now : IsEachOnce (rows now)
  pub few : length pending ≤ notices_pending

abbrev pub IsCurrentKept : List Match → Bool → Kept → Type 0
IsCurrentKept fresh enumerated (Snapshot shown) = Unit {0}
IsCurrentKept fresh enumerated (Live shown now pending) = IsFollowing fresh enumerated shown now pending
IsCurrentKept fresh enumerated Freed = Unit {0}

-- the client of a live context was sent the list that a search finds now, and nothing waits
abbrev pub IsToldAll : List Match → Kept → Type 0
IsToldAll fresh (Snapshot shown) = Unit {0}
IsToldAll fresh (Live shown now pending) = (shown ≡ fresh) × (pending ≡ [])
IsToldAll fresh Freed = Unit {0}

-- its dataset exists, as it did when the context was made
pub record IsCurrentContext (store : Store) (realm : Realm) (user : List ℕ) (context : Context) : Type 0 where
  pub exists : dataset_exists store.records context.sought.dataset ≡ true
  pub kept : IsCurrentKept (matches_of store.records realm user context.sought) context.enumerated
      context.kept

pub record IsCurrentOccupant (store : Store) (realm : Realm) (occupant : Occupant) : Type 0 where
  pub each : (name : List ℕ) (context : Context) → table.get occupant.contexts name ≡ Some context
      → IsCurrentContext store realm occupant.user context

pub record IsCurrent (store : Store) (realm : Realm) (seats : Seated) : Type 0 where
  pub all : (seat : ℕ) (occupant : Occupant) → table.get seats seat ≡ Some occupant
      → IsCurrentOccupant store realm occupant
