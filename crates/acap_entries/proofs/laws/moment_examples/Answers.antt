use Rattle.std.proofs.Common.{refl}
use Rattle.acap_entries.proofs.laws.moment_examples.Goals as goal

pub returns : goal.returns
returns c = record { later_clock = refl; same_clock = refl; earlier_clock = refl; before_the_last = refl; at_the_last = λ clock. refl }
