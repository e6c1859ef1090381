use Rattle.acap_grammar.proofs.TextReads.{spelled_texts, reads_texts}
use Rattle.acap_grammar.proofs.laws.spelled_texts.Goals as goal

pub returns-clause-plainest : goal.returns-clause-plainest
returns-clause-plainest c = spelled_texts

pub returns-clause-others : goal.returns-clause-others
returns-clause-others c = reads_texts
