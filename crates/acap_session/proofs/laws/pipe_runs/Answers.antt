use Rattle.acap_session.proofs.PipeSteps as steps
use Rattle.acap_session.proofs.laws.pipe_runs.Goals as goal

pub returns : goal.returns
returns c = steps.pipe_runs
