-- At which seats a drain has something to send [RFC 2244 section 6.5].
use Rattle.std.specs.Prelude.{ℕ, ◌^◌, Bool, true, false, List, [], ◌∷◌, if◌then◌else◌}
use Rattle.std.specs.FinMap as table
use Rattle.std.specs.Int.{sum_through}
use Rattle.std.specs.List.{list_any}
use Rattle.acap_notices.specs.declared.notice.Notice.{Notice}
use Rattle.acap_views.specs.Contexts.{Kept, Snapshot, Live, Freed}
use Rattle.acap_views.specs.Seats.{Seated, contexts_at}

abbrev pub any_wait : List Notice → Bool
any_wait [] = false
any_wait (notice ∷ notices) = true

-- a context was freed, or notices wait
abbrev pub waits : Kept → Bool
waits (Snapshot shown) = false
waits (Live shown now pending) = any_wait pending
waits Freed = true

abbrev pub is_waiting : Seated → ℕ → Bool
is_waiting seats seat = list_any (λ context. waits context.kept) (table.values (contexts_at seats seat))

-- the bit of a seat, set where something waits there
abbrev pub waiting_bit : Seated → ℕ → ℕ
waiting_bit seats seat = if is_waiting seats seat then 2 ^ seat else 0

-- the bits of the 64 seats, the lowest for the first
unfoldable pub waiting : Seated → ℕ
waiting seats = sum_through (waiting_bit seats) 63
