-- What is prepared of a change comes to it: from the definitions alone [RFC 2244 sections 3.3, 3.5 and 6.5].
use Rattle.std.specs.Prelude.{◌≡◌, ℕ}
use Rattle.acap_views.specs.PlannedChanges.{Planned, store_ahead}
use Rattle.acap_views.specs.Changing.{changed_seats}
use Rattle.acap_views.specs.Current.{IsCurrent}
use Rattle.acap_views.specs.Moving.{IsTaken}
use Rattle.acap_views.specs.Plans.{turns_of, needed_of, turns_count}
use Rattle.acap_views.specs.Preparing.{with_delta}
use Rattle.acap_views.specs.Seats.{Seated}
use Rattle.acap_views.specs.Work.{touched_within}

-- entries found by where they stood before the change, and put in as they are found
-- afterwards, make of all contexts what the change makes of them; as many of them as
-- are needed are enough, where a context that is certain to be freed needs no more.
-- No more entries are looked at than are touched in the scopes of live contexts
pub record PreparedLaw : Type 0 where
  pub needed : (plan : Planned) (seats : Seated) (work : ℕ)
      → IsTaken plan.change.writes plan.old (store_ahead plan) → IsCurrent plan.old plan.realm seats
      → with_delta (record { seats = needed_of plan seats; work = work }) seats
      ≡ changed_seats plan.realm plan.old (store_ahead plan) seats
  pub changed : (plan : Planned) (seats : Seated) (work : ℕ)
      → IsTaken plan.change.writes plan.old (store_ahead plan) → IsCurrent plan.old plan.realm seats
      → with_delta (record { seats = turns_of plan seats; work = work }) seats
      ≡ changed_seats plan.realm plan.old (store_ahead plan) seats
  pub count : (plan : Planned) (seats : Seated)
      → turns_count (turns_of plan seats)
      ≡ touched_within plan.change.writes plan.old (store_ahead plan) seats
