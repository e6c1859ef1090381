use Rattle.acap_locked.specs.Passes.{HereBelow}
use Rattle.acap_locked.proofs.closing.find_missing.Given as goal

abbrev pub invariant-loop-number : goal.invariant-loop-number
invariant-loop-number g l = HereBelow l.passes l.number
