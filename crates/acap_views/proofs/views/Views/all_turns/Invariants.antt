use Rattle.std.proofs.Common.{◌≡◌, ◌+◌, take, map as each}
use Rattle.std.specs.List.{sum_by}
use Rattle.std.specs.Option.{ForSome}
use Rattle.acap_views.specs.Touching.{IsNoted}
use Rattle.acap_views.proofs.TurnLemmas.{seat_work, seat_turns}
use Rattle.acap_views.proofs.views.Views.all_turns.Given as goal

abbrev pub invariant-loop-entry : goal.invariant-loop-entry
invariant-loop-entry g l = record {
  turns : l.turns.items ≡ each (seat_turns l.ahead) (take l.entry-index l.entry-items);
  steps : l.steps ≡ l.fn.steps + sum_by (seat_work l.ahead) (take l.entry-index l.entry-items);
  work : l.work ≡ l.fn.work + sum_by (seat_work l.ahead) (take l.entry-index l.entry-items);
  noted : IsNoted l.ahead l.noted;
  kept : ForSome l.kept (λ lookout. lookout ≡ l.ahead);
}
