use Rattle.acap_session.proofs.ScriptTaking.{script_runs}
use Rattle.acap_session.proofs.laws.script_runs.Goals as goal

pub returns : goal.returns
returns c = script_runs
