use Rattle.std.proofs.Common.{◌≡◌, ◌+◌, take, map as each}
use Rattle.std.specs.List.{sum_by}
use Rattle.acap_views.specs.Touching.{IsNoted}
use Rattle.acap_views.proofs.TurnLemmas.{work_there, shifts_there}
use Rattle.acap_views.proofs.seat_updates.turns_at.Given as goal

abbrev pub invariant-loop-entry : goal.invariant-loop-entry
invariant-loop-entry g l = record {
  turns : l.turns.items ≡ each (shifts_there l.view l.sitting.user) (take l.entry-index l.entry-items);
  steps : l.steps ≡ l.fn.steps + sum_by (work_there l.view) (take l.entry-index l.entry-items);
  work : l.work ≡ l.fn.work + sum_by (work_there l.view) (take l.entry-index l.entry-items);
  noted : IsNoted l.view l.noted;
}
