use Rattle.std.proofs.Common.{◌≡◌, All, length, vec_len}
use Rattle.acap_serving.proofs.seats.seat_bells_of.Given as goal

abbrev pub invariant-loop-bell : goal.invariant-loop-bell
invariant-loop-bell l = record {
  len : vec_len l.seat_bells ≡ length l.yielded;
  hosts : All (λ seat_bell. seat_bell.host ≡ l.fn.host) l.seat_bells.items;
}
