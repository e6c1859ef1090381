use Rattle.std.proofs.Common.{map}
use Rattle.acap_serving.proofs.worker_sessions.run_load.Given as goal

abbrev pub ghosts-run : goal.ghosts-run
ghosts-run g a = record { whose = map g.T.Advance.whose a.sessions.items }
