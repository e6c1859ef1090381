use Rattle.acap_session.proofs.ScriptRunning.{unbegun_runs}
use Rattle.acap_session.proofs.script_run.run_script.Goals as goal

pub returns-in_err-progress-clause-runs : goal.returns-in_err-progress-clause-runs
returns-in_err-progress-clause-runs g c = unbegun_runs _ _ c.from_residual.result c.from_residual.ensures.0 c.from_residual.ensures.1
