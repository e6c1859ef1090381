use Rattle.std.proofs.Common.{◌<◌, ◌+◌, ◌-◌, ◌*◌, arith, slice_index}
use Rattle.acap_lexer.proofs.Counting.{too_large}
use Rattle.acap_lexer.proofs.marks.count_of.Goals as goal

pub returns-then-count-gt-COUNT_LIMIT : goal.returns-then-count-gt-COUNT_LIMIT
returns-then-count-gt-COUNT_LIMIT c =
    let large : 4294967295 < 10 * c.loop-digit.count + (slice_index c.args.digits.now c.loop-digit.digit-index - 48) = omega (arith, c.saturating_sub.ensures, c.from.ensures) in
    too_large _ _ _ c.loop-digit-test.true large c.loop-digit.invariant.number
