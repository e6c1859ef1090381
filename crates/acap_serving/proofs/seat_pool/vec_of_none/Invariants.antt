use Rattle.std.proofs.Common.{◌≡◌, length}
use Rattle.acap_serving.proofs.seat_pool.vec_of_none.Given as goal

abbrev pub invariant-loop : goal.invariant-loop
invariant-loop g l = length l.free.items ≡ l.counter
