use Rattle.acap_session.proofs.ScriptExamples.{script_examples}
use Rattle.acap_session.proofs.laws.script_examples.Goals as goal

pub returns : goal.returns
returns c = script_examples
