-- When a drain has something to send, from the definitions alone [RFC 2244 sections 3.3 and 6.5].
use Rattle.std.specs.Prelude.{◌≡◌, ◌↔◌, ◌≢◌, ℕ, ◌<◌, true, false, []}
use Rattle.std.specs.Int.{bit_at}
use Rattle.acap_views.specs.Seats.{Seated}
use Rattle.acap_views.specs.Telling.{drain_of}
use Rattle.acap_views.specs.Waiting.{is_waiting, waiting}

-- a drain sends nothing exactly where nothing waits at the seat; then
-- nothing waits there, and at other seats what waited still does
pub record WaitingLaw : Type 0 where
  pub tells : (seats : Seated) (seat : ℕ) → (is_waiting seats seat ≡ false) ↔ ((drain_of seats seat).0 ≡ [])
  pub none_left : (seats : Seated) (seat : ℕ) → is_waiting (drain_of seats seat).1 seat ≡ false
  pub elsewhere : (seats : Seated) (seat other : ℕ) → seat ≢ other
      → is_waiting (drain_of seats seat).1 other ≡ is_waiting seats other
  -- of the bits of all seats one is set exactly where something waits at its seat
  pub bits : (seats : Seated) (seat : ℕ) → seat < 64 → (bit_at (waiting seats) seat ≡ 1)
      ↔ (is_waiting seats seat ≡ true)
