use Rattle.std.proofs.Common.{◌≡◌, ◌↔◌, ℕ, ◌≤◌, true, take}
use Rattle.std.specs.Int.{bit_at}
use Rattle.acap_views.proofs.SeatBitLemmas.{waits_among}
use Rattle.acap_views.proofs.views.Views.waiting.Given as goal

abbrev pub invariant-loop-entry : goal.invariant-loop-entry
invariant-loop-entry l = record {
  told : (n : ℕ) → (bit_at l.bits n ≡ 1) ↔ (waits_among (take l.entry-index l.entry-items) n ≡ true);
  rest : (n : ℕ) → 64 ≤ n → bit_at l.bits n ≡ 0;
}
