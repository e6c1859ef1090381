use denote.Exit as exit
use denote.Param.{param}
use denote.Param.Send.{param_send, param_sync, arg_send, arg_sync}
use denote.Ref.{NamedLft}
use mir.Syntax.{named}
use Rattle.tokio.specs.contracts.sync.mpsc.unbounded.UnboundedReceiver as receiver
use Rattle.acap_serving.specs.contracts.seat_pool.Job as job
use Rattle.acap_serving.specs.contracts.server.Server as server
use Rattle.acap_serving.proofs.Threads.{jobs_send, server_sync}
use Rattle.acap_serving.proofs.listen.listen.Goals as goal

pub serve_sessions-requires-send-J : goal.serve_sessions-requires-send-J
serve_sessions-requires-send-J g c κs within =
    param_send 3 _ (arg_send _ exit.no (receiver.the_row (job.the_row (param 1 g.row.S) g.S.Site g.S.Ledger)) (jobs_send (param 1 g.row.S) g.S.Site g.S.Ledger))

pub serve_sessions-requires-sync-K : goal.serve_sessions-requires-sync-K
serve_sessions-requires-sync-K g c κs within =
    let ℓ : NamedLft = record { mir = named 5; lft = κs.1.1.1.1.1.0 } in
    param_sync 2 _ (arg_sync _ exit.no (server.the_row ℓ (param 0 g.row.R) (param 1 g.row.S) (param 2 g.row.L) g.S.Site g.S.Ledger g.L.Ledger)
    (server_sync (param 1 g.row.S) g.S.Site g.S.Ledger ℓ (param 2 g.row.L) (param 0 g.row.R) g.L.Ledger c.type_bounds.sync-R))
