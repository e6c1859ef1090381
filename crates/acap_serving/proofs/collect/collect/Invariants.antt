use Rattle.std.proofs.Common.{◌≡◌, ◌<◌, ◌≤◌, List, Option, Some, length, map, vec_len, vec_capacity}
use Rattle.std.specs.Option.{option_map}
use Rattle.acap_serving.specs.Dealing.{dealt}
use Rattle.acap_serving.specs.Ends.{Whose, whose_of}
use Rattle.acap_serving.proofs.Collected.{Taken}
use Rattle.acap_serving.proofs.collect.collect.Given as goal

abbrev pub invariant-loop : goal.invariant-loop
invariant-loop g l = record {
  some : 0 < vec_len l.loads;
  count : vec_len l.overs ≤ l.counter;
  room : l.count ≤ vec_capacity l.overs;
  ends : (none : List (List (Option Whose))) (all : List Whose) → length all ≡ l.count → 0 < length none
      → map (λ load. map (λ s. whose_of (option_map (λ o. (o.running.parties, g.D.Desk.seat o.running.desk)) s.over) (option_map (λ r. (r.parties, g.D.Desk.seat r.desk)) s.task.running)) load.items) l.initial.loads.items
      ≡ dealt none (map Some all)
      → Taken none all l.counter
      (map (λ load. map (λ s. whose_of (option_map (λ o. (o.running.parties, g.D.Desk.seat o.running.desk)) s.over) (option_map (λ r. (r.parties, g.D.Desk.seat r.desk)) s.task.running)) load.items) l.loads.items)
      (map (λ o. (o.running.parties, g.D.Desk.seat o.running.desk)) l.overs.items);
}
