use Rattle.acap_examples.proofs.Stepping.{IsUnderWay}
use Rattle.acap_examples.specs.Stories.{telling_of}
use Rattle.acap_examples.proofs.showing.show.Given as goal

abbrev pub invariant-loop-step : goal.invariant-loop-step
invariant-loop-step g l = IsUnderWay (telling_of l.fn.story) l.step-iterator.rest.items l.world l.held
