-- What the client of a context holds that applies what it is sent [RFC 2244 sections 3.3 and 6.5].
use Rattle.std.specs.Prelude.{◌≡◌, ℕ, ℤ, true, List, [], ◌∷◌, ◌++◌, flat_map, Option, Some, if◌then◌else◌}
use Rattle.std.specs.FinMap as table
use Rattle.std.specs.Option.{option_map_or}
use Rattle.acap_entries.specs.Orders.{octets_eq}
use Rattle.acap_entries.specs.Store.{Store}
use Rattle.acap_moves.specs.Hits.{is_among}
use Rattle.acap_notices.specs.Holding.{holding, holding_after_all}
use Rattle.acap_notices.specs.declared.notice.Notice.{Notice}
use Rattle.acap_notices.specs.declared.told.Told.{Told}
use Rattle.acap_notices.specs.declared.told.Told.TheVariants as told
use Rattle.acap_rights.specs.declared.realm.Realm.{Realm}
use Rattle.acap_search.specs.Fresh.{matches_of}
use Rattle.acap_search.specs.Matches.{Match}
use Rattle.acap_views.specs.Contexts.{Kept, Snapshot, Live, Freed, Context, Contexts}
use Rattle.acap_views.specs.Current.{IsCurrentOccupant, rows}
use Rattle.acap_views.specs.Seats.{Occupant}
use Rattle.acap_views.specs.Telling.{told_in_turn, drain_told}

-- of all that is sent, the notices of one context, in their order
abbrev pub notice_for : List ℕ → Told → List Notice
notice_for name (told.Note context notice) = if octets_eq name context then notice ∷ [] else []
notice_for name (told.Upto context moment) = []
notice_for name (told.Freed context) = []

abbrev pub notices_for : List ℕ → List Told → List Notice
notices_for name tolds = flat_map (notice_for name) tolds

-- the notices that wait for a context
abbrev pub pending_in : Kept → List Notice
pending_in (Snapshot shown) = []
pending_in (Live shown now pending) = pending
pending_in Freed = []

abbrev pub pending_of : Option Context → List Notice
pending_of found = option_map_or (λ context. pending_in context.kept) found []

-- an UPDATECONTEXT sends of each named context all that waits, each notice once
-- however often the name is said, and of others nothing; a drain sends all that waits
-- of every context. So a client that holds the rows of the list last sent to it, and
-- applies what it is sent of the context, holds the rows that a search finds then
pub record ClientLaw : Type 0 where
  pub updated : (contexts : Contexts) (names : List (List ℕ)) (name : List ℕ) (last : ℤ)
      → notices_for name (told_in_turn contexts names last)
      ≡ (if is_among name names then pending_of (table.get contexts name) else [])
  pub drained : (contexts : Contexts) (name : List ℕ)
      → notices_for name (flat_map (λ e. drain_told e.0 e.1.kept) (table.entries contexts))
      ≡ pending_of (table.get contexts name)
  pub after_update : (store : Store) (realm : Realm) (occupant : Occupant) (name : List ℕ) (context : Context)
      (shown now : List Match) (pending : List Notice) (names : List (List ℕ)) (last : ℤ)
      → IsCurrentOccupant store realm occupant → table.get occupant.contexts name ≡ Some context
      → context.kept ≡ Live shown now pending → is_among name names ≡ true
      → holding_after_all (holding context.enumerated (rows shown))
      (notices_for name (told_in_turn occupant.contexts names last))
      ≡ Some (holding context.enumerated (rows (matches_of store.records realm occupant.user context.sought)))
  -- and at each MODTIME of a context, which is one that was named, all that waited for it is sent, so that
  -- the client which has read as far as that holds these rows
  pub modtimes : (contexts : Contexts) (names : List (List ℕ)) (name : List ℕ) (last : ℤ)
      (front back : List Told) (moment : ℤ)
      → told_in_turn contexts names last ≡ front ++ told.Upto name moment ∷ back
      → notices_for name front ≡ pending_of (table.get contexts name)
  pub named : (contexts : Contexts) (names : List (List ℕ)) (name : List ℕ) (last : ℤ)
      (front back : List Told) (moment : ℤ)
      → told_in_turn contexts names last ≡ front ++ told.Upto name moment ∷ back → is_among name names ≡ true
  pub at_modtime : (store : Store) (realm : Realm) (occupant : Occupant) (name : List ℕ) (context : Context)
      (shown now : List Match) (pending : List Notice) (names : List (List ℕ)) (last : ℤ)
      (front back : List Told) (moment : ℤ)
      → IsCurrentOccupant store realm occupant → table.get occupant.contexts name ≡ Some context
      → context.kept ≡ Live shown now pending
      → told_in_turn occupant.contexts names last ≡ front ++ told.Upto name moment ∷ back
      → holding_after_all (holding context.enumerated (rows shown)) (notices_for name front)
      ≡ Some (holding context.enumerated (rows (matches_of store.records realm occupant.user context.sought)))
  pub after_drain : (store : Store) (realm : Realm) (occupant : Occupant) (name : List ℕ) (context : Context)
      (shown now : List Match) (pending : List Notice)
      → IsCurrentOccupant store realm occupant → table.get occupant.contexts name ≡ Some context
      → context.kept ≡ Live shown now pending
      → holding_after_all (holding context.enumerated (rows shown))
      (notices_for name (flat_map (λ e. drain_told e.0 e.1.kept) (table.entries occupant.contexts)))
      ≡ Some (holding context.enumerated (rows (matches_of store.records realm occupant.user context.sought)))
