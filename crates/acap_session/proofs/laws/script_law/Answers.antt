use Rattle.acap_session.proofs.ScriptWriting.{script_law}
use Rattle.acap_session.proofs.laws.script_law.Goals as goal

pub returns : goal.returns
returns c = script_law
