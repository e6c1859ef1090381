use Rattle.std.proofs.Common.{◌≡◌, [], length}
use Rattle.acap_grammar.specs.Storing.{strings_at}
use Rattle.acap_grammar.proofs.storing.strings_at.Given as goal

abbrev pub invariant-loop-piece : goal.invariant-loop-piece
invariant-loop-piece l = strings_at l.strings l.cursor ≡ strings_at [] l.initial.cursor

abbrev pub decreases-loop-piece : goal.decreases-loop-piece
decreases-loop-piece l = length l.cursor
