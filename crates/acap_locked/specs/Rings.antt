-- Which seats are rung: those at which a drain has something to
-- send [RFC 2244 section 6.5], and which aren't rung already.
use Rattle.std.specs.Prelude.{ℕ, ◌^◌, bit_and, bit_xor}
use Rattle.acap_commands.specs.declared.event.Event.{Event}
use Rattle.acap_commands.specs.declared.event.Event.TheVariants as event

-- flags are bits, the lowest for the first seat
abbrev pub without : ℕ → ℕ → ℕ
without flags seat = bit_and flags (bit_xor 18446744073709551615 (2 ^ seat))

-- a Drain, an Enter and a Leave take the flag of their seat away
abbrev pub flags_left : ℕ → Event → ℕ → ℕ
flags_left seat (event.Enter user) flags = without flags seat
flags_left seat (event.Command command) flags = flags
flags_left seat event.Drain flags = without flags seat
flags_left seat event.Leave flags = without flags seat

-- the seats that wait and have no flag
abbrev pub rings_of : ℕ → ℕ → ℕ
rings_of waiting flags = bit_and waiting (bit_xor 18446744073709551615 flags)
