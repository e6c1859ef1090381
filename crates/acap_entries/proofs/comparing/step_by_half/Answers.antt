use Rattle.std.proofs.Common.{arith}
use Rattle.acap_entries.proofs.WordLemmas.{then_cmp}
use Rattle.acap_entries.proofs.comparing.step_by_half.Goals as goal

pub returns : goal.returns
returns c =
    let first = c.in_ok-first.ensures.cases in
    let second = c.in_ok-second.ensures.cases in
    rw (c.by_half.ensures, first.0, first.1, second.0, second.1) (then_cmp 4 c.args.a.now c.args.b.now (omega arith) (omega arith))
