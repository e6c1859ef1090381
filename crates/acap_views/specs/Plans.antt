-- What a change that is about to be committed comes to, seat
-- by seat and context by context: words of private contracts.
use Rattle.std.specs.Prelude.{ℕ, ◌==◌, Bool, List, [], length, map as each, if◌then◌else◌}
use Rattle.std.specs.FinMap as table
use Rattle.std.specs.List.{list_all, sum_by}
use Rattle.acap_search.specs.declared.query.SearchSpec.{SearchSpec}
use Rattle.acap_views.specs.PlannedChanges.{Planned, store_ahead}
use Rattle.acap_views.specs.Contexts.{Context}
use Rattle.acap_views.specs.Preparing.{shift_for, shifts_for, needed_if}
use Rattle.acap_views.specs.Seats.{Occupant, Seated}
use Rattle.acap_views.specs.Room.{Watched}
use Rattle.acap_views.specs.EntryUpdates.{EntryUpdate, due_shifts}
use Rattle.acap_views.specs.Touching.{looked_at_by}
use Rattle.acap_views.specs.Work.{work_for}

abbrev pub live_shifts : Planned → List ℕ → SearchSpec → List EntryUpdate
live_shifts plan user sought =
    each (shift_for plan.old.records (store_ahead plan).records plan.realm user sought)
    (looked_at_by plan sought)

abbrev pub live_needed : Planned → List ℕ → SearchSpec → Watched → List EntryUpdate
live_needed plan user sought watched = due_shifts watched (live_shifts plan user sought)

abbrev pub work_in : Planned → Context → ℕ
work_in plan context = work_for plan.change.writes plan.old (store_ahead plan) context

abbrev pub shifts_in : Planned → List ℕ → Context → List EntryUpdate
shifts_in plan user context =
    shifts_for plan.change.writes plan.old (store_ahead plan) plan.realm user context

-- as many of them as are needed
abbrev pub needed_in : Planned → List ℕ → Context → List EntryUpdate
needed_in plan user context = needed_if context.kept (shifts_in plan user context)

abbrev pub work_at : Planned → Occupant → ℕ
work_at plan occupant = sum_by (work_in plan) (table.values occupant.contexts)

-- nothing is kept of a seat of which no context looks at a touched entry
abbrev pub is_still : List (List EntryUpdate) → Bool
is_still turns = list_all (λ shifts. length shifts == 0) turns

abbrev pub unless_still : List (List EntryUpdate) → List (List EntryUpdate)
unless_still turns = if is_still turns then [] else turns

abbrev pub turns_by : (List ℕ → Context → List EntryUpdate) → Occupant → List (List EntryUpdate)
turns_by made occupant = unless_still (each (made occupant.user) (table.values occupant.contexts))

abbrev pub needed_at : Planned → Occupant → List (List EntryUpdate)
needed_at plan occupant = turns_by (needed_in plan) occupant

abbrev pub work_of : Planned → Seated → ℕ
work_of plan seats = sum_by (work_at plan) (table.values seats)

abbrev pub turns_of : Planned → Seated → List (List (List EntryUpdate))
turns_of plan seats = each (turns_by (shifts_in plan)) (table.values seats)

abbrev pub needed_of : Planned → Seated → List (List (List EntryUpdate))
needed_of plan seats = each (needed_at plan) (table.values seats)

-- how many entries there are in turns
abbrev pub shifts_count : List (List EntryUpdate) → ℕ
shifts_count turns = sum_by length turns

abbrev pub turns_count : List (List (List EntryUpdate)) → ℕ
turns_count seats = sum_by shifts_count seats
