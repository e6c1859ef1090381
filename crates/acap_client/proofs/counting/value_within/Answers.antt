use Rattle.std.proofs.Common.{◌<◌, ◌+◌, ◌-◌, ◌*◌, arith, slice_index}
use Rattle.acap_client.proofs.Numbers.{too_large, ends}
use Rattle.acap_client.proofs.counting.value_within.Goals as goal

pub returns-then-count-most : goal.returns-then-count-most
returns-then-count-most c =
    let large : c.args.most < 10 * c.loop-digit.count + (slice_index c.args.digits.now c.loop-digit.digit-index - 48) = omega (arith, c.saturating_sub.ensures, c.from.ensures, c.if-count-most.true) in
    record { some = tt; none = too_large _ _ _ _ c.loop-digit-test.true c.loop-digit.invariant large }

pub returns : goal.returns
returns c = record { some = ends _ _ _ _ c.loop-digit-test.false c.loop-digit.invariant; none = tt }
