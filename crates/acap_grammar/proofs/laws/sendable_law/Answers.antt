use Rattle.acap_grammar.proofs.FormedReads.{reads_formed}
use Rattle.acap_grammar.proofs.SendableReads.{reads_sendable}
use Rattle.acap_grammar.proofs.laws.sendable_law.Goals as goal

pub returns-clause-sendable : goal.returns-clause-sendable
returns-clause-sendable c = reads_sendable

pub returns-clause-paths : goal.returns-clause-paths
returns-clause-paths c = reads_formed
