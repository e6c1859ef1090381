use Rattle.std.proofs.Common.{length}
use Rattle.acap_lexer.proofs.QuotingLoop.{IsSoFar}
use Rattle.acap_lexer.proofs.strings.quoted_at.Given as goal

abbrev pub invariant-runs : goal.invariant-runs
invariant-runs l = IsSoFar l.initial.text.items l.rest l.text.items l.left

abbrev pub decreases-runs : goal.decreases-runs
decreases-runs l = length l.left
