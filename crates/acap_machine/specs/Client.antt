-- What the client of a context holds, by what its own session is sent [RFC 2244 sections 3.3, 6.4.1 and 6.5].
use Rattle.std.specs.Prelude.{◌≡◌, ℕ, ◌==◌, ℤ, Bool, true, false, ◌&&◌, is_some, is_none, List, ◌∷◌, ◌++◌}
use Rattle.std.specs.Prelude.{Option, Some, None, Ok, if◌then◌else◌}
use Rattle.std.specs.FinMap as table
use Rattle.std.specs.Option.{option_map, option_and_then}
use Rattle.acap_entries.specs.Orders.{octets_eq}
use Rattle.acap_commands.specs.declared.command.Command.TheVariants as command
use Rattle.acap_commands.specs.declared.event.Event.{Event}
use Rattle.acap_commands.specs.declared.event.Event.TheVariants as event
use Rattle.acap_commands.specs.declared.search_modifiers.MakeContext.{MakeContext}
use Rattle.acap_commands.specs.declared.reply.Reply.{Reply}
use Rattle.acap_commands.specs.declared.said.Said.{Said}
use Rattle.acap_commands.specs.declared.said.Said.TheVariants as said
use Rattle.acap_commands.specs.declared.search.Search.{Search}
use Rattle.acap_commands.specs.declared.said.SearchReply.{SearchReply}
use Rattle.acap_commands.specs.declared.target.Target.{Target}
use Rattle.acap_commands.specs.declared.target.Target.TheVariants as target
use Rattle.acap_machine.specs.Following.{IsCurrentMachine}
use Rattle.acap_machine.specs.Machine.{Machine}
use Rattle.acap_machine.specs.Stepping.{step_of}
use Rattle.acap_moves.specs.Hits.{is_among}
use Rattle.acap_notices.specs.Holding.{Holding, holding, holding_after_all}
use Rattle.acap_notices.specs.declared.told.Told.{Told}
use Rattle.acap_notices.specs.declared.told.Told.TheVariants as told_as
use Rattle.acap_search.specs.Fresh.{IsSameSight, matches_of}
use Rattle.acap_search.specs.Matches.{Match}
use Rattle.acap_search.specs.declared.query.SearchSpec.{SearchSpec}
use Rattle.acap_views.specs.Changing.{sight_for}
use Rattle.acap_views.specs.Clients.{notices_for}
use Rattle.acap_views.specs.Contexts.{Kept, Snapshot, Live, Freed, Context}
use Rattle.acap_views.specs.Current.{rows}
use Rattle.acap_views.specs.Seats.{Occupant, contexts_at}

-- ---- the client

-- what it holds, if it began with a whole list, and met no notice that misfits
abbrev pub Client : Type 0
Client = Option Holding

-- a SEARCH sent its whole list: it has a RETURN, and LIMIT kept nothing back
abbrev pub is_told_whole : Search → SearchReply → Bool
is_told_whole search found = is_some search.modifiers.returns && is_none found.total

-- the context that it makes: a SEARCH over a context makes none
abbrev pub made_over : Target → Option MakeContext → Option MakeContext
made_over (target.Dataset dataset) make = make
made_over (target.Context name) make = None

-- whether it makes the context of that name
abbrev pub makes_named : List ℕ → Option MakeContext → Bool
makes_named name None = false
makes_named name (Some make) = octets_eq name make.name

abbrev pub makes : List ℕ → Search → Bool
makes name search = makes_named name (made_over search.target search.modifiers.make_context)

-- the client of a context that is made begins with the rows that are
-- sent, if these are all: in their order with ENUMERATE, by name without
abbrev pub begun_with : Search → SearchReply → Option MakeContext → Client
begun_with search found None = None
begun_with search found (Some make) =
    if is_told_whole search found then Some (holding make.enumerate found.rows) else None

abbrev pub searched_on : List ℕ → Search → SearchReply → Client → Client
searched_on name search found held =
    if makes name search then begun_with search found search.modifiers.make_context else held

-- of what an UPDATECONTEXT or a drain sends, the notices of
-- that context, one after the other; one that misfits ends it
abbrev pub client_after_tolds : List ℕ → List Told → Client → Client
client_after_tolds name tolds held = option_and_then (λ h. holding_after_all h (notices_for name tolds)) held

abbrev pub answered_on : List ℕ → Event → SearchReply → Client → Client
answered_on name (event.Command (command.Search search)) found held = searched_on name search found held
answered_on name other found held = held

-- what the client holds of the context of a name after an event of its seat and what was said to it
abbrev pub client_after : List ℕ → Event → Said → Client → Client
client_after name e (said.Searched found) held = answered_on name e found held
client_after name e (said.Updated tolds) held = client_after_tolds name tolds held
client_after name e (said.Drained tolds) held = client_after_tolds name tolds held
client_after name e other held = held

-- whether the list of the SEARCH that made the context last was sent whole; of misfits nothing is said
abbrev pub whole_over : List ℕ → Event → SearchReply → Bool → Bool
whole_over name (event.Command (command.Search search)) found whole =
    if makes name search then is_told_whole search found else whole
whole_over name other found whole = whole

abbrev pub whole_after : List ℕ → Event → Said → Bool → Bool
whole_after name e (said.Searched found) whole = whole_over name e found whole
whole_after name e other whole = whole

-- whether a client of that context is sent all: an UPDATECONTEXT of its name ends, or a drain
abbrev pub tells_named : List ℕ → Event → Bool
tells_named name (event.Command (command.UpdateContext names)) = is_among name names
tells_named name other = false

abbrev pub tells : List ℕ → Event → Said → Bool
tells name e (said.Updated tolds) = tells_named name e
tells name e (said.Drained tolds) = true
tells name e other = false

-- ---- the context

-- of a live context what it looks for, whether it has positions, and the list that its client was sent last
abbrev pub View : Type 0
View = SearchSpec × (Bool × List Match)

abbrev pub live_kept : Context → Kept → Option View
live_kept context (Snapshot shown) = None
live_kept context (Live shown now pending) = Some (context.sought, (context.enumerated, shown))
live_kept context Freed = None

abbrev pub live_in : Context → Option View
live_in context = live_kept context context.kept

abbrev pub live_at : Machine → ℕ → List ℕ → Option View
live_at m seat name = option_and_then live_in (table.get (contexts_at m.seats seat) name)

-- the rows of that list, as its client holds them
abbrev pub with_rows : View → Client
with_rows x = Some (holding x.1.0 (rows x.1.1))

-- the client of a live context, if it began with a whole list, holds the rows that it was sent last
abbrev pub IsHeld : Option View → Bool → Client → Type 0
IsHeld live whole held = (x : View) → live ≡ Some x → whole ≡ true → held ≡ with_rows x

-- the list that the user of a seat finds now
abbrev pub fresh_for : Machine → ℕ → SearchSpec → Option (List Match)
fresh_for m seat sought =
    option_map (λ (o : Occupant). matches_of m.store.records m.realm o.user sought) (table.get m.seats seat)

-- and whether that is what the client was sent last
abbrev pub IsFresh : Machine → ℕ → View → Type 0
IsFresh m seat x = fresh_for m seat x.0 ≡ Some x.1.1

-- ---- the law

-- Each event keeps that so, at its own seat and at every other; and where the client is sent all, the rows
-- that it holds are those that a search finds then. That is so at each MODTIME of the context too, for the
-- client that has read as far as that. Who leaves has no context
pub record HeldLaw : Type 0 where
  pub own : (m : Machine) (seat : ℕ) (e : Event) (clock : ℤ) (reply : Reply) (new : Machine)
      → (name : List ℕ) (whole : Bool) (held : Client)
      → step_of m seat e clock ≡ Ok (reply, new) → IsCurrentMachine m
      → IsHeld (live_at m seat name) whole held
      → IsHeld (live_at new seat name) (whole_after name e reply.said whole)
      (client_after name e reply.said held)
  pub others : (m : Machine) (seat : ℕ) (e : Event) (clock : ℤ) (reply : Reply) (new : Machine)
      → (other : ℕ) (name : List ℕ) (whole : Bool) (held : Client)
      → step_of m seat e clock ≡ Ok (reply, new) → (other == seat) ≡ false
      → IsHeld (live_at m other name) whole held → IsHeld (live_at new other name) whole held
  pub told : (m : Machine) (seat : ℕ) (e : Event) (clock : ℤ) (reply : Reply) (new : Machine) (name : List ℕ)
      (x : View)
      → step_of m seat e clock ≡ Ok (reply, new) → IsCurrentMachine m → tells name e reply.said ≡ true
      → live_at new seat name ≡ Some x → IsFresh new seat x
  pub modtimes : (m : Machine) (seat : ℕ) (names : List (List ℕ)) (clock : ℤ) (reply : Reply) (new : Machine)
      → (name : List ℕ) (whole : Bool) (held : Client) (front back : List Told) (moment : ℤ)
      → step_of m seat (event.Command (command.UpdateContext names)) clock ≡ Ok (reply, new)
      → IsCurrentMachine m
      → IsHeld (live_at m seat name) whole held
      → reply.said ≡ said.Updated (front ++ told_as.Upto name moment ∷ back)
      → (x : View) → live_at new seat name ≡ Some x → whole ≡ true
      → (client_after_tolds name front held ≡ with_rows x) × IsFresh new seat x
  pub left : (m : Machine) (seat : ℕ) (clock : ℤ) (reply : Reply) (new : Machine) (name : List ℕ)
      → step_of m seat event.Leave clock ≡ Ok (reply, new) → live_at new seat name ≡ None

-- ---- what is sent comes of what the user sees

-- at two seats, of one machine or of two, the users see the same for a search
pub record IsSeenAlike (m : Machine) (seat : ℕ) (n : Machine) (other : ℕ) (sought : SearchSpec) : Type 0 where
  pub one : Occupant
  pub two : Occupant
  pub sits : table.get m.seats seat ≡ Some one
  pub other_sits : table.get n.seats other ≡ Some two
  pub same : IsSameSight (sight_for m.realm m.store one.user sought)
      (sight_for n.realm n.store two.user sought)

-- then clients who are sent all of such a search, with positions
-- both or neither, hold the same rows in the same places
abbrev pub SeenLaw : Type 0
SeenLaw =
    (m n : Machine) (seat other : ℕ) (x y : View) → IsFresh m seat x → IsFresh n other y → x.0 ≡ y.0
    → x.1.0 ≡ y.1.0
    → IsSeenAlike m seat n other x.0 → with_rows x ≡ with_rows y
