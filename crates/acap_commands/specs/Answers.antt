-- What is answered where memory may be refused, which no definition speaks of.
use Rattle.std.specs.Prelude.{◌≡◌, Bool, true, false, Option, Some, None, Result, Ok, Err}
use Rattle.acap_commands.specs.declared.refusal.Refusal.{Refusal}
use Rattle.acap_commands.specs.declared.refusal.Refusal.TheVariants as refusal

-- whether it is memory that was refused
abbrev pub is_memory : Refusal → Bool
is_memory refusal.Memory = true
is_memory _ = false

-- an answer is that one, want of memory aside
abbrev pub IsAnswer : {A : Type 0} → Result A Refusal → Result A Refusal → Type 0
IsAnswer (Ok made) meant = meant ≡ Ok made
IsAnswer (Err refusal) meant = is_memory refusal ≡ false → meant ≡ Err refusal

-- what is checked passes exactly where there is no refusal, and else fails with it, want of memory aside
abbrev pub IsCheck : Option Refusal → Result (Unit {0}) Refusal → Type 0
IsCheck found (Ok done) = found ≡ None
IsCheck found (Err refusal) = is_memory refusal ≡ false → found ≡ Some refusal
