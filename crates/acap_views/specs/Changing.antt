-- What a change of the store makes of the contexts of all seats [RFC 2244 sections 3.3, 3.5 and 6.5].
use Rattle.std.specs.Prelude.{◌≡◌, ℕ, ◌+◌, true, nat_lt, if◌then◌else◌, List, ◌++◌, length}
use Rattle.acap_entries.specs.Datasets.{dataset_exists}
use Rattle.acap_entries.specs.Sound.{IsSoundStore}
use Rattle.acap_entries.specs.Store.{Store}
use Rattle.acap_rights.specs.declared.realm.Realm.{Realm}
use Rattle.acap_notices.specs.Waiting.{notices_pending}
use Rattle.acap_notices.specs.declared.notice.Notice.{Notice}
use Rattle.acap_search.specs.Fresh.{Sight, sight_of, matches_of}
use Rattle.acap_search.specs.Matches.{Match}
use Rattle.acap_search.specs.Scopes.{scope_of}
use Rattle.acap_search.specs.declared.query.SearchSpec.{SearchSpec}
use Rattle.acap_views.specs.Contexts.{Kept, Snapshot, Live, Freed, Context}
use Rattle.acap_views.specs.Maps.{each_value}
use Rattle.acap_views.specs.Notices.{event_notices}
use Rattle.acap_views.specs.Seats.{Occupant, Seated}

-- a change leads from a sound store to a sound store, and takes no dataset away
pub record IsSoundStep (old new : Store) : Type 0 where
  pub old_sound : IsSoundStore old.records
  pub new_sound : IsSoundStore new.records
  pub kept : (dataset : List ℕ) → dataset_exists old.records dataset ≡ true
      → dataset_exists new.records dataset ≡ true

-- all notices of a change wait after the others; with more
-- than 4,096 together the context is freed, and they are lost
abbrev pub follows : List Notice → List Match → Kept → Kept
follows notices after (Snapshot shown) = Snapshot shown
follows notices after (Live shown before pending) =
    if nat_lt notices_pending (length pending + length notices) then Freed
    else Live shown after (pending ++ notices)
follows notices after Freed = Freed

-- what a user sees for a search
abbrev pub sight_for : Realm → Store → List ℕ → SearchSpec → Sight
sight_for realm store user sought = sight_of store.records realm user (scope_of sought)

-- a context in the eyes of its user
abbrev pub changed_context : Realm → Store → Store → List ℕ → Context → Context
changed_context realm old new user context = record context {
  kept = follows
      (event_notices context.enumerated context.sought (sight_for realm old user context.sought)
      (sight_for realm new user context.sought))
      (matches_of new.records realm user context.sought) context.kept;
}

abbrev pub changed_occupant : Realm → Store → Store → Occupant → Occupant
changed_occupant realm old new occupant =
    record occupant { contexts = each_value (changed_context realm old new occupant.user) occupant.contexts }

abbrev pub changed_seats : Realm → Store → Store → Seated → Seated
changed_seats realm old new seats = each_value (changed_occupant realm old new) seats
