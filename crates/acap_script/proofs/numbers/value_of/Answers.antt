use Rattle.std.proofs.Common.{◌<◌, ◌+◌, ◌-◌, ◌*◌, arith, slice_index}
use Rattle.acap_script.proofs.NumberLemmas.{too_large}
use Rattle.acap_script.proofs.numbers.value_of.Goals as goal

pub returns-then-next-from-clause-value : goal.returns-then-next-from-clause-value
returns-then-next-from-clause-value c =
    let large : c.args.most < 10 * c.loop-digit.number + (slice_index c.args.digits.now c.loop-digit.digit-index - 48) = omega (arith, c.if-next-from.true, c.from.ensures, c.saturating_sub.ensures, c.from-in-loop-digit.ensures, c.from-in-loop-digit-2.ensures) in
    too_large _ _ _ _ c.loop-digit-test.true large c.loop-digit.invariant.number_is
