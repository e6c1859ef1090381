use Rattle.std.proofs.Common.{arith}
use Rattle.acap_entries.proofs.TimeLemmas.{four_are}
use Rattle.acap_entries.proofs.times.four.Goals as goal

pub returns-clause-value : goal.returns-clause-value
returns-clause-value c = omega (arith, four_are c.args.from c.args.digits.now (omega arith), c.two.ensures.value, c.two-2.ensures.value)
