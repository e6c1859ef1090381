use Rattle.std.proofs.Common.{drop}
use Rattle.acap_lexer.proofs.Counting.{IsSoFar}
use Rattle.acap_lexer.proofs.marks.count_of.Given as goal

abbrev pub invariant-loop-digit : goal.invariant-loop-digit
invariant-loop-digit l = IsSoFar l.digits l.count (drop l.digit-index l.digits)
