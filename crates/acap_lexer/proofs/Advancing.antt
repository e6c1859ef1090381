-- What the loop over the stages keeps.
use Rattle.std.proofs.Common.{◌≡◌, ℕ, List}
use Rattle.acap_lexer.specs.declared.scan.Scan.{Scan}
use Rattle.acap_lexer.specs.Scanning.{IsSound, Reaches}

pub record IsSoFar (text : List ℕ) (old scan : Scan) : Type 0 where
  pub sound : IsSound text scan
  pub reaches : Reaches text scan
  pub mode : scan.mode ≡ old.mode
