-- The examples, by computation.
use Rattle.std.proofs.Common.{refl, arith, rules}
use Rattle.acap_locked.specs.Examples.{EpochExamples, HistoryExamples, PassExamples, RingExamples}
use Rattle.acap_locked.specs.Passes.{new_passes}

pub ring_examples : RingExamples
ring_examples = record { drains = refl; leaves = refl; enters = λ user. refl; commands = λ command. refl; rings = refl; rung = refl }

pub history_examples : HistoryExamples
history_examples = record {
  items = λ a b c. refl;
  none = λ a b c. refl;
  counts = λ a b c. refl;
  stands = λ a b c. (refl, refl);
  keeps = λ a c. refl;
  retires = λ a c. refl;
  replays = λ base mid machine a b s t. (mid, s, (machine, t, refl));
}

pub pass_examples : PassExamples
unfolding new_passes
pass_examples = record {
  two = refl;
  missing = record { missing = refl; before = record { here = λ n l. search rules } };
  lacks = λ a. record { differs = λ s. search rules; before = record { same = λ n l. search rules } };
  invents = λ a. record { differs = λ s. search rules; before = record { same = λ n l. search rules } };
}

pub epoch_examples : EpochExamples
epoch_examples = record {
  short = λ s e may. omega (arith, e, may.long);
  last = λ s e may. omega (arith, e, may.numbered);
  begins = λ m base a. refl;
  full = λ s seat event now e f. omega (arith, e, f);
  only = λ s seat event now e f. omega (arith, e, f.0);
}
