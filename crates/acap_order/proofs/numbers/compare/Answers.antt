use Rattle.std.proofs.Common.{sym}
use Rattle.acap_order.proofs.NumberLemmas.{leading_number-cmp}
use Rattle.acap_order.proofs.numbers.compare.Goals as goal

pub returns-in-false-false : goal.returns-in-false-false
returns-in-false-false c =
    let left = c.leading_digits-left.result.now in
    let right = c.leading_digits-right.result.now in
    let order = leading_number-cmp c.args.a.now c.args.b.now left right c.leading_digits-left.ensures c.leading_digits-right.ensures (sym c.in-false-false.ensures) (sym c.in-false-false.ensures') in cc
