-- How many octets a literal is announced to have.
use Rattle.std.specs.Prelude.{◌≡◌, ℕ, ◌<◌, ◌≤◌, List, Some, None}
use Rattle.acap_grammar.specs.Lines.{number_of}
use Rattle.acap_client.specs.declared.counting.Count.{Count}
use Rattle.acap_client.specs.declared.counting.Count.TheVariants as count

-- digits are no number, or a greater one than this, or that number
abbrev pub Counts : ℕ → List ℕ → Count → Type 0
Counts most digits count.Nothing = number_of digits ≡ None
Counts most digits count.TooLarge = (n : ℕ) × (number_of digits ≡ Some n) × (most < n)
Counts most digits (count.Is n) = (number_of digits ≡ Some n) × (n ≤ most)
