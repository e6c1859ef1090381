-- What follows from the definitions alone [RFC 2244 sections 3.3, 3.5 and 6.5].
use Rattle.std.specs.Prelude.{◌≡◌, ◌≢◌, ◌↔◌, ℕ, ◌==◌, ℤ, Bool, true, false, List, [], Some, None, Ok}
use Rattle.std.specs.FinMap as table
use Rattle.std.specs.List.{Contains}
use Rattle.std.specs.Option.{option_map}
use Rattle.acap_entries.specs.Datasets.{dataset_exists}
use Rattle.acap_entries.specs.Sound.{IsSoundStore}
use Rattle.acap_entries.specs.Store.{Store}
use Rattle.acap_entries.specs.declared.path.Path.{Path}
use Rattle.acap_rights.specs.declared.realm.Realm.{Realm}
use Rattle.acap_commands.specs.declared.search_modifiers.MakeContext.{MakeContext}
use Rattle.acap_notices.specs.Holding.{holding, holding_after_all}
use Rattle.acap_notices.specs.declared.notice.Notice.{Notice}
use Rattle.acap_notices.specs.declared.told.Told.{Told}
use Rattle.acap_moves.specs.Hits.{Name, IsAscending, is_among}
use Rattle.acap_moves.specs.Moves.{moves_to, after_moves, moves_notices}
use Rattle.acap_search.specs.Fresh.{Sight, tuple_of, IsSameSight, matches_of}
use Rattle.acap_search.specs.Matches.{Match}
use Rattle.acap_search.specs.Tuples.{name_told}
use Rattle.acap_search.specs.declared.query.SearchSpec.{SearchSpec}
use Rattle.acap_views.specs.Changing.{IsSoundStep, sight_for, changed_context, changed_occupant}
use Rattle.acap_views.specs.Changing.{changed_seats}
use Rattle.acap_views.specs.Contexts.{Snapshot, Live, Freed, Context, Contexts}
use Rattle.acap_views.specs.Current.{IsCurrent, IsCurrentOccupant, IsToldAll, rows}
use Rattle.acap_views.specs.Maps.{each_kept}
use Rattle.acap_views.specs.Notices.{told_shape, match_told, event_notices, changed_paths, changed_names}
use Rattle.acap_views.specs.Opening.{with_context, freed_by}
use Rattle.acap_views.specs.Seats.{Occupant, Seated, IsAt, with_user, without_user, with_contexts}
use Rattle.acap_views.specs.Telling.{after_updates, after_drain, told_of, drain_of}

-- two changes come to the same notices where what is seen before is the same, and
-- what is seen after; and a client that holds the rows of the old list, in order
-- or by name, and applies the notices of a change, holds those of the new one
pub record NoticeLaw : Type 0 where
  pub same : (old new first second : Store) (realm other : Realm) (user one : List ℕ) (enumerated : Bool)
      (sought : SearchSpec)
      → IsSameSight (sight_for realm old user sought) (sight_for other first one sought)
      → IsSameSight (sight_for realm new user sought) (sight_for other second one sought)
      → event_notices enumerated sought (sight_for realm old user sought) (sight_for realm new user sought)
      ≡ event_notices enumerated sought (sight_for other first one sought) (sight_for other second one sought)
  pub leads : (old new : Store) (realm : Realm) (user : List ℕ) (enumerated : Bool) (sought : SearchSpec)
      → IsSoundStep old new → dataset_exists old.records sought.dataset ≡ true
      → holding_after_all (holding enumerated (rows (matches_of old.records realm user sought)))
      (event_notices enumerated sought (sight_for realm old user sought) (sight_for realm new user sought))
      ≡ Some (holding enumerated (rows (matches_of new.records realm user sought)))

-- whatever happens to the contexts, live ones stay current
pub record CurrentLaw : Type 0 where
  pub nobody : (store : Store) (realm : Realm) → IsCurrent store realm table.empty
  pub entered : (store : Store) (realm : Realm) (seats : Seated) (seat : ℕ) (user : List ℕ)
      → IsCurrent store realm seats → IsCurrent store realm (with_user seats seat user)
  pub left : (store : Store) (realm : Realm) (seats : Seated) (seat : ℕ)
      → IsCurrent store realm seats → IsCurrent store realm (without_user seats seat)
  pub opened : (store : Store) (realm : Realm) (seats new : Seated) (seat : ℕ) (make : MakeContext)
      (sought : SearchSpec) (user : List ℕ) (last : ℤ)
      → IsSoundStore store.records → dataset_exists store.records sought.dataset ≡ true → IsAt seats seat user
      → with_context seats seat make sought (matches_of store.records realm user sought) last ≡ Ok new
      → IsCurrent store realm seats → IsCurrent store realm new
  pub freed : (store : Store) (realm : Realm) (seats new : Seated) (seat : ℕ) (name : List ℕ)
      → freed_by seats seat name ≡ Ok new → IsCurrent store realm seats → IsCurrent store realm new
  pub told : (store : Store) (realm : Realm) (seats new : Seated) (seat : ℕ) (names : List (List ℕ))
      (last : ℤ) (told : List Told)
      → told_of seats seat names last ≡ Ok (told, new) → IsCurrent store realm seats
      → IsCurrent store realm new
  pub drained : (store : Store) (realm : Realm) (seats : Seated) (seat : ℕ)
      → IsCurrent store realm seats → IsCurrent store realm (drain_of seats seat).1
  pub changed : (old new : Store) (realm : Realm) (seats : Seated) → IsSoundStep old new
      → IsCurrent old realm seats → IsCurrent new realm (changed_seats realm old new seats)

-- when a client has been sent all, what it was sent is what a search finds then; contexts
-- that aren't named stay as they are, and so do snapshots over drains and changes of
-- the store. A drain takes freed ones away, and leaves each live one its moment
pub record ShownLaw : Type 0 where
  pub told : (store : Store) (realm : Realm) (occupant : Occupant) (names : List (List ℕ)) (name : List ℕ)
      (last : ℤ) (context : Context)
      → IsCurrentOccupant store realm occupant → Contains names name
      → table.get (after_updates occupant.contexts names last) name ≡ Some context
      → IsToldAll (matches_of store.records realm occupant.user context.sought) context.kept
      × (context.told ≡ last)
  pub unnamed : (contexts : Contexts) (names : List (List ℕ)) (name : List ℕ) (last : ℤ)
      → ¬ (Contains names name)
      → table.get (after_updates contexts names last) name ≡ table.get contexts name
  pub drained : (store : Store) (realm : Realm) (occupant : Occupant) (name : List ℕ) (context : Context)
      → IsCurrentOccupant store realm occupant
      → table.get (each_kept after_drain occupant.contexts) name ≡ Some context
      → IsToldAll (matches_of store.records realm occupant.user context.sought) context.kept
  pub drained_live : (contexts : Contexts) (name : List ℕ) (context : Context) (shown now : List Match)
      (pending : List Notice) → context.kept ≡ Live shown now pending
      → table.get contexts name ≡ Some context
      → table.get (each_kept after_drain contexts) name ≡ Some (record context { kept = Live now now [] })
  pub drained_freed : (contexts : Contexts) (name : List ℕ) (context : Context) → context.kept ≡ Freed
      → table.get contexts name ≡ Some context → table.get (each_kept after_drain contexts) name ≡ None
  pub drained_snapshot : (contexts : Contexts) (name : List ℕ) (context : Context) (shown : List Match)
      → context.kept ≡ Snapshot shown
      → table.get contexts name ≡ Some context
      → table.get (each_kept after_drain contexts) name ≡ Some context
  pub changed_snapshot : (old new : Store) (realm : Realm) (occupant : Occupant) (name : List ℕ)
      (context : Context) (shown : List Match) → context.kept ≡ Snapshot shown
      → table.get occupant.contexts name ≡ Some context
      → table.get (changed_occupant realm old new occupant).contexts name ≡ Some context

-- the changed paths are those whose tuple before isn't that after:
-- an entry that comes, goes, or has another place or another row
pub record ChangedLaw : Type 0 where
  pub exact : (sought : SearchSpec) (old new : Sight) (path : Path)
      → Contains (changed_paths sought old new) path ↔ (tuple_of old sought path ≢ tuple_of new sought path)
  pub named : (sought : SearchSpec) (old new : Sight) (name : Name)
      → Contains (changed_names sought old new) name
      ↔ ((path : Path) × (Contains (changed_paths sought old new) path
      × (name_told sought.depth path ≡ name)))
  pub ascending : (sought : SearchSpec) (old new : Sight) → IsAscending (changed_names sought old new)
  pub seats : (realm : Realm) (old new : Store) (seats : Seated) (seat : ℕ)
      → table.get (changed_seats realm old new seats) seat
      ≡ option_map (changed_occupant realm old new) (table.get seats seat)
  pub contexts : (realm : Realm) (old new : Store) (occupant : Occupant) (name : List ℕ)
      → table.get (changed_occupant realm old new occupant).contexts name
      ≡ option_map (changed_context realm old new occupant.user) (table.get occupant.contexts name)

-- a match is sent by the name of its path, and by no other
pub record FoundLaw : Type 0 where
  pub name : (store : Store) (realm : Realm) (user : List ℕ) (sought : SearchSpec) (name : Name)
      (found : Match)
      → match_told (matches_of store.records realm user sought) name ≡ Some found
      → (tuple_of (sight_for realm store user sought) sought found.path ≡ Some found)
      × ((found.row.name ≡ name) × (name_told sought.depth found.path ≡ name))
  pub found : (store : Store) (realm : Realm) (user : List ℕ) (sought : SearchSpec) (path : Path)
      (found : Match)
      → IsSoundStore store.records → dataset_exists store.records sought.dataset ≡ true
      → tuple_of (sight_for realm store user sought) sought path ≡ Some found
      → match_told (matches_of store.records realm user sought) (name_told sought.depth path) ≡ Some found

-- the list after a change is that before it from which the match of one name after the other is taken, and
-- the new one put in at its place; the notices of the change are those of these moves. The names ascend, and
-- may be more than those that have changed
abbrev pub MovedLaw : Type 0
MovedLaw =
    (old new : Store) (realm : Realm) (user : List ℕ) (enumerated : Bool) (sought : SearchSpec)
    (touched : List Name)
    → IsSoundStep old new → dataset_exists old.records sought.dataset ≡ true → IsAscending touched
    → ((name : Name)
    → is_among name
    (changed_names sought (sight_for realm old user sought) (sight_for realm new user sought)) ≡ true
    → is_among name touched ≡ true)
    → (after_moves told_shape (moves_to (match_told (matches_of new.records realm user sought)) touched)
    (matches_of old.records realm user sought)
    ≡ matches_of new.records realm user sought)
    × (moves_notices told_shape enumerated
    (moves_to (match_told (matches_of new.records realm user sought)) touched)
    (matches_of old.records realm user sought)
    ≡ event_notices enumerated sought (sight_for realm old user sought) (sight_for realm new user sought))

-- what is done at one seat is done to its own contexts, and nothing at an empty one
pub record SeatsLaw : Type 0 where
  pub own : (seats : Seated) (seat : ℕ) (occupant : Occupant) (contexts : Contexts)
      → table.get seats seat ≡ Some occupant
      → table.get (with_contexts seats seat contexts) seat ≡ Some (record occupant { contexts = contexts })
  pub others : (seats : Seated) (seat other : ℕ) (contexts : Contexts) → (other == seat) ≡ false
      → table.get (with_contexts seats seat contexts) other ≡ table.get seats other
  pub empty : (seats : Seated) (seat : ℕ) (contexts : Contexts) → table.get seats seat ≡ None
      → with_contexts seats seat contexts ≡ seats
