-- What the end of a part says of its text.
use Rattle.std.specs.Prelude.{ℕ, ◌+◌, ◌≤◌, List, length}
use Rattle.acap_lexer.specs.declared.found.PartEnd.{PartEnd}
use Rattle.acap_lexer.specs.declared.found.PartEnd.TheVariants.{At, Never, NotYet}
use Rattle.acap_lexer.specs.Ends.{NoEnd}
use Rattle.acap_lexer.specs.Stream.{part_limit}

abbrev pub EndsWithin : List ℕ → PartEnd → Type 0
EndsWithin text (At n) = n + 2 ≤ length text
EndsWithin text Never = part_limit ≤ length text
EndsWithin text NotYet = NoEnd text (length text)
