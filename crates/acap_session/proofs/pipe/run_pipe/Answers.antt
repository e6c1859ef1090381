use Rattle.acap_session.proofs.PipeFaults.{unbegun}
use Rattle.acap_session.proofs.pipe.run_pipe.Goals as goal

pub serve-requires-clause-begun : goal.serve-requires-clause-begun
serve-requires-clause-begun g c = record { user = c.args.user; is = c.in_ok-pipe.ensures }

pub returns-clause-pipes : goal.returns-clause-pipes
returns-clause-pipes g c = c.serve.ensures.all c.args.user c.in_ok-pipe.ensures

pub returns-in_err-pipe-clause-pipes : goal.returns-in_err-pipe-clause-pipes
returns-in_err-pipe-clause-pipes g c = unbegun c.args.user _ _ c.from_residual.result c.from_residual.ensures.0 c.from_residual.ensures.1
