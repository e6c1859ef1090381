use Rattle.std.proofs.Common.{drop}
use Rattle.acap_script.proofs.NumberLemmas.{IsSoFar}
use Rattle.acap_script.proofs.numbers.value_of.Given as goal

abbrev pub invariant-loop-digit : goal.invariant-loop-digit
invariant-loop-digit l = IsSoFar l.digits l.most l.number (drop l.digit-index l.digits)
