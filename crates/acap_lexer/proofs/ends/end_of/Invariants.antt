use Rattle.std.proofs.Common.{◌≤◌, ◌-◌, length}
use Rattle.acap_lexer.specs.Ends.{NoEnd}
use Rattle.acap_lexer.proofs.ends.end_of.Given as goal

abbrev pub invariant-feeds : goal.invariant-feeds
invariant-feeds l = (l.from ≤ length l.text) × NoEnd l.text l.from

abbrev pub decreases-feeds : goal.decreases-feeds
decreases-feeds l = length l.text - l.from
