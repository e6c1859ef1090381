use Rattle.acap_grammar.proofs.SpellingReads.{spells_commands}
use Rattle.acap_grammar.proofs.laws.spelled_commands.Goals as goal

pub returns : goal.returns
returns c = spells_commands
