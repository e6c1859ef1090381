use Rattle.std.proofs.Common.{◌≡◌, ◌+◌, ◌≤◌, [], All, map, replicate, vec_len, vec_capacity}
use Rattle.acap_serving.proofs.deal.no_loads.Given as goal

abbrev pub invariant-loop : goal.invariant-loop
invariant-loop g l = record {
  len : vec_len l.loads ≡ l.counter;
  none : map (λ load. load.items) l.loads.items ≡ replicate l.counter [];
  room : All (λ load. vec_len load + l.room ≤ vec_capacity load) l.loads.items;
}
