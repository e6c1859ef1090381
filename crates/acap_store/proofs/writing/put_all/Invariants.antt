use Rattle.std.proofs.Common.{◌≡◌, vec_len}
use Rattle.acap_store.specs.Writing as writing
use Rattle.acap_store.proofs.writing.put_all.Given as goal

abbrev pub invariant-loop-path : goal.invariant-loop-path
invariant-loop-path l = writing.put_all l.left.items l.writes ≡ writing.put_all l.fn.added.items l.fn.writes

abbrev pub decreases-loop-path : goal.decreases-loop-path
decreases-loop-path l = vec_len l.left
