use Rattle.std.proofs.Common.{◌≡◌, take, map as each}
use Rattle.acap_machine.proofs.searching.copy_rows.Given as goal

abbrev pub invariant-loop-hit : goal.invariant-loop-hit
invariant-loop-hit l = l.rows.items ≡ each (λ hit. hit.row) (take l.hit-index l.hits)
