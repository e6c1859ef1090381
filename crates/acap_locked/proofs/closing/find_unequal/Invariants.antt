use Rattle.acap_locked.specs.Passes.{SameBelow}
use Rattle.acap_locked.proofs.closing.find_unequal.Given as goal

abbrev pub invariant-loop-number : goal.invariant-loop-number
invariant-loop-number g l = SameBelow l.passes l.epoch l.history l.retired l.number
