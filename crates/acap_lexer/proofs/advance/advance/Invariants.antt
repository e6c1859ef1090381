use Rattle.acap_lexer.specs.Scanning.{turns_left}
use Rattle.acap_lexer.proofs.Advancing.{IsSoFar}
use Rattle.acap_lexer.proofs.advance.advance.Given as goal

abbrev pub invariant-stages : goal.invariant-stages
invariant-stages l = IsSoFar l.text l.initial.scan l.scan

abbrev pub decreases-stages : goal.decreases-stages
decreases-stages l = turns_left l.text l.scan
