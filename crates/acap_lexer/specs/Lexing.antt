-- What a lexer keeps of its text and its scan.
use Rattle.std.specs.Prelude.{ℕ, ◌≤◌, List, length, drop}
use Rattle.acap_lexer.specs.declared.scan.Scan.{Scan}
use Rattle.acap_lexer.specs.Scanning.{IsSound, Reaches}

pub record IsLexer (text : List ℕ) (start : ℕ) (scan : Scan) : Type 0 where
  pub within : start ≤ length text
  pub sound : IsSound (drop start text) scan
  pub reaches : Reaches (drop start text) scan
