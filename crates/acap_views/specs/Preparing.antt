-- What a change comes to for each context, made before it is committed: words of contracts.
use Rattle.std.specs.Prelude.{◌≡◌, ℕ, Bool, List, [], ◌∷◌, length, map as each, None, refl}
use Rattle.std.specs.Coded.{Coded, code_by, coded×, coded_list, coded_ℕ}
use Rattle.std.specs.FinMap as table
use Rattle.std.specs.Option.{unwrap_or}
use Rattle.acap_entries.specs.Changes.{store_after}
use Rattle.acap_entries.specs.Store.{Store, Stored, Written}
use Rattle.acap_entries.specs.declared.change.Change.{Change}
use Rattle.acap_entries.specs.declared.path.Path.{Path}
use Rattle.acap_rights.specs.declared.realm.Realm.{Realm}
use Rattle.acap_search.specs.Tuples.{name_told}
use Rattle.acap_search.specs.Views.{Spotted, spot_in, places_at, found_at}
use Rattle.acap_search.specs.Walks.{quest_of, view_in}
use Rattle.acap_search.specs.declared.query.SearchSpec.{SearchSpec}
use Rattle.acap_views.specs.Changing.{follows, changed_seats}
use Rattle.acap_views.specs.Contexts.{Kept, Snapshot, Live, Freed, Context}
use Rattle.acap_views.specs.Keeping.{RoomySeats, seats_in}
use Rattle.acap_views.specs.Seats.{Occupant, Seated}
use Rattle.acap_views.specs.EntryUpdates.{EntryUpdate, standing, after_shifts, shifts_notices, due_among}
use Rattle.acap_views.specs.EntryUpdates.{shift_code}
use Rattle.acap_views.specs.Work.{touched_for, touched_within}

-- the entry at a path, as a user sees it in a search
abbrev pub seen_at : Stored → Realm → List ℕ → SearchSpec → Path → Spotted
seen_at records realm user sought path =
    spot_in (view_in (quest_of records realm user sought) path.dataset) path.name

-- what becomes of one entry: it is found by its places before
-- the change, and what is found of it afterwards is put in
abbrev pub shift_for : Stored → Stored → Realm → List ℕ → SearchSpec → Path → EntryUpdate
shift_for old new realm user sought path = record {
  name = name_told sought.depth path;
  old = standing path (places_at (seen_at old realm user sought path) (unwrap_or sought.sort []));
  come = found_at sought None (seen_at new realm user sought path);
}

-- what becomes of each touched entry that a live context looks at; other contexts look at none
abbrev pub shifts_if : Kept → List EntryUpdate → List EntryUpdate
shifts_if (Snapshot shown) shifts = []
shifts_if (Live shown now pending) shifts = shifts
shifts_if Freed shifts = []

abbrev pub shifts_for : Written → Store → Store → Realm → List ℕ → Context → List EntryUpdate
shifts_for written old new realm user context =
    shifts_if context.kept
    (each (shift_for old.records new.records realm user context.sought)
    (touched_for written old new context))

-- of these what is due
abbrev pub needed_if : Kept → List EntryUpdate → List EntryUpdate
needed_if (Snapshot shown) shifts = shifts
needed_if (Live shown now pending) shifts = due_among now (length pending) shifts
needed_if Freed shifts = shifts

-- what they make of a context
abbrev pub kept_after : Bool → List EntryUpdate → Kept → Kept
kept_after enumerated shifts (Snapshot shown) = Snapshot shown
kept_after enumerated shifts (Live shown now pending) =
    follows (shifts_notices enumerated shifts now) (after_shifts shifts now) (Live shown now pending)
kept_after enumerated shifts Freed = Freed

abbrev pub context_after : List EntryUpdate → Context → Context
context_after shifts context = record context { kept = kept_after context.enumerated shifts context.kept }

-- and what those for each context make of all of them, in the order
-- of their names, and for each seat in the order of the seats
abbrev pub contexts_after : List (List EntryUpdate) → List (List ℕ × Context) → List (List ℕ × Context)
contexts_after [] contexts = contexts
contexts_after (shifts ∷ more) [] = []
contexts_after (shifts ∷ more) (c ∷ contexts) = (c.0, context_after shifts c.1) ∷ contexts_after more contexts

abbrev pub occupant_after : List (List EntryUpdate) → Occupant → Occupant
occupant_after turns occupant =
    record occupant { contexts = table.from_entries (contexts_after turns (table.entries occupant.contexts)) }

abbrev pub seats_after : List (List (List EntryUpdate)) → List (ℕ × Occupant) → List (ℕ × Occupant)
seats_after [] seats = seats
seats_after (turns ∷ more) [] = []
seats_after (turns ∷ more) (s ∷ seats) = (s.0, occupant_after turns s.1) ∷ seats_after more seats

-- what a change comes to, and how many entries were looked at for it
pub record Prepared : Type 0 where
  pub seats : List (List (List EntryUpdate))
  pub work : ℕ

-- the contexts of all seats after it
abbrev pub with_delta : Prepared → Seated → Seated
with_delta delta seats = table.from_entries (seats_after delta.seats (table.entries seats))

-- it stands for the change, in all contexts; and how many touched entries are looked at for it
abbrev pub IsPreparedFor : Change → Store → Realm → Seated → Prepared → Type 0
IsPreparedFor change old realm seats delta =
    with_delta delta seats ≡ changed_seats realm old (store_after change old) seats

abbrev pub touched_for_all : Change → Store → Seated → ℕ
touched_for_all change old seats = touched_within change.writes old (store_after change old) seats

abbrev pub touched_in : Change → Store → RoomySeats → ℕ
touched_in change old seats = touched_for_all change old (seats_in seats)

-- how they are told apart in proofs
abbrev pub prepared_code : Coded Prepared
prepared_code =
    code_by (List (List (List EntryUpdate)) × ℕ)
    (coded× (coded_list (coded_list (coded_list shift_code))) coded_ℕ)
    (λ d. (d.seats, d.work)) (λ p. record { seats = p.0; work = p.1 }) (λ _. refl)
