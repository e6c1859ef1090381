-- Examples that are computed.
use Rattle.std.proofs.Common.{refl}
use Rattle.acap_task.specs.Examples.{ToldExamples}

pub told_examples : ToldExamples
told_examples = record {
  reads = refl;
  writes = λ f. refl;
  stuck = refl;
  calls = λ e now answer. refl;
  gives = λ one two nonce. refl;
  rings = refl;
  last = refl;
}
