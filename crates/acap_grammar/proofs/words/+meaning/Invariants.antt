use Rattle.std.proofs.Common.{length}
use Rattle.acap_grammar.proofs.words.+meaning.Given as goal

abbrev pub decreases-meaning : goal.decreases-meaning
decreases-meaning g l = length l.table.now
