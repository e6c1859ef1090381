use Rattle.std.proofs.Common.{arith}
use Rattle.acap_entries.proofs.WordLemmas.{then_cmp}
use Rattle.acap_entries.proofs.comparing.step_by_word.Goals as goal

pub returns-clause-order : goal.returns-clause-order
returns-clause-order c =
    let first = c.in_ok-first.ensures.cases in
    let second = c.in_ok-second.ensures.cases in
    rw (c.by_word.ensures, first.0, first.1, second.0, second.1) (then_cmp 8 c.args.a.now c.args.b.now (omega arith) (omega arith))
