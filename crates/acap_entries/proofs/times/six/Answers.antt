use Rattle.std.proofs.Common.{arith}
use Rattle.acap_entries.proofs.TimeLemmas.{six_are}
use Rattle.acap_entries.proofs.times.six.Goals as goal

pub returns-clause-value : goal.returns-clause-value
returns-clause-value c = omega (arith, six_are c.args.from c.args.digits.now (omega arith), c.four.ensures.value, c.two.ensures.value)
