use Rattle.std.proofs.Common.{◌≡◌}
use Rattle.std.specs.Cmp.Lexicographic.{pointwise}
use Rattle.acap_notices.specs.contracts.told.ToldPartialEq.TheImpl as told
use Rattle.acap_notices.proofs.tolds.ToldsPartialEq.eq.Given as goal

abbrev pub invariant-loop-told : goal.invariant-loop-told
invariant-loop-told l = pointwise told.ghosts.eq l.told-iterator l.theirs ≡ pointwise told.ghosts.eq l.self l.other
