-- What the threads of a server hand over and look at together may cross threads.
use denote.Param.Send.{IsSend, IsSync, sendable}
use denote.Param.SendFields.{declared_send, declared_sync, variants_send}
use denote.RattleType.{RattleType}
use denote.Ref.{NamedLft}
use Rattle.std.proofs.Crossing.{crosses}
use Rattle.std.proofs.sync.Mutex.TheSendSync as of_mutex
use Rattle.std.specs.declared.sync.ledger.Ledger as ledger
use Rattle.acap_entries.proofs.octets.Octets.TheSendSync as of_octets
use Rattle.acap_entries.proofs.seat.Seat.TheSendSync as of_seat
use Rattle.acap_login.proofs.users.Users.TheSendSync as of_users
use Rattle.acap_locked.specs.declared.site.Site as site
use Rattle.acap_task.specs.contracts.pass_desk.PassDesk as pass_desk
use Rattle.acap_task.specs.contracts.pass_desk.SeatLease as lease
use Rattle.mio.proofs.waker.Waker.TheSendSync as of_waker
use Rattle.tokio.proofs.sync.mpsc.unbounded.UnboundedReceiver.TheSendSync as of_receiver
use Rattle.tokio.specs.contracts.sync.mpsc.unbounded.UnboundedReceiver as receiver
use Rattle.acap_locked.proofs.CrossingCalls.{items_send, pass_send}
use Rattle.acap_locked.proofs.CrossingServed.{served_sync}
use Rattle.acap_serving.proofs.flag_bell.SharedBell.TheSendSync as of_bell
use Rattle.acap_serving.specs.contracts.bells.Bells as bells
use Rattle.acap_serving.specs.contracts.seat_pool.SeatPool as pool
use Rattle.acap_serving.specs.contracts.seat_pool.Job as job
use Rattle.acap_serving.specs.contracts.seat_pool.FreeSeat as place
use Rattle.acap_serving.specs.contracts.server.Server as server

bells_sync : IsSync bells.the_row
bells_sync = declared_sync bells.the_type (search (of_bell.the_send, of_bell.the_sync, of_seat.the_sync, crosses, sendable) depth 60 fits 20000, tt)

module _ (S : RattleType) (g : site.Ghosts S.Denot) (h : ledger.Ghosts S.Denot) where
  lease_send : IsSend (lease.the_row S g h)
  lease_send = declared_send (lease.the_type S g h) (pass_send S g h, (search sendable depth 20, tt))

  free_seat_send : IsSend (place.the_row S g h)
  free_seat_send = declared_send (place.the_type S g h) (lease_send, (search (of_bell.the_send, of_bell.the_sync, crosses, sendable) depth 60 fits 20000, tt))

  job_send : IsSend (job.the_row S g h)
  job_send = variants_send (job.enum S g h) (
    (free_seat_send, (search (crosses, sendable) depth 60 fits 20000, tt)),
    ((search (crosses, sendable) depth 60 fits 20000, tt), tt),
  )

  pub jobs_send : IsSend (receiver.the_row (job.the_row S g h))
  jobs_send = search (of_receiver.the_send, job_send, crosses, sendable) depth 60 fits 20000

  pool_send : IsSend (pool.the_row S g h)
  pool_send = declared_send (pool.the_type S g h) (
    search (free_seat_send, crosses, sendable) depth 60 fits 20000,
    (
      search sendable depth 20,
      (
        search sendable depth 20,
        (search sendable depth 20, (search (job_send, crosses, sendable) depth 60 fits 20000, (search sendable depth 20, (search sendable depth 20, tt)))),
      ),
    ),
  )

  module _ (ℓ : NamedLft) (L R : RattleType) (l : ledger.Ghosts L.Denot) where
    pub desk_send : IsSync R → IsSend (pass_desk.the_row ℓ S L R bells.the_row g h l)
    desk_send r = declared_send (pass_desk.the_type ℓ S L R bells.the_row g h l) (
      search (r, sendable) depth 20,
      (
        search (served_sync S g h L l, sendable) depth 20,
        (
          search (bells_sync, sendable) depth 20,
          (
            pass_send S g h,
            (
              items_send,
              (search sendable depth 20, (search sendable depth 20, tt)),
            ),
          ),
        ),
      ),
    )

    pub server_sync : IsSync R → IsSync (server.the_row ℓ R S L g h l)
    server_sync r = declared_sync (server.the_type ℓ R S L g h l) (
      search (r, sendable) depth 20,
      (
        search (served_sync S g h L l, sendable) depth 20,
        (
          search (bells_sync, sendable) depth 20,
          (
            search (of_mutex.the_sync, pool_send, sendable) depth 20,
            (
              search (of_waker.the_sync, sendable) depth 20,
              (search (of_users.the_sync, sendable) depth 20, (search (of_octets.the_sync, sendable) depth 20, (search sendable depth 20, tt))),
            ),
          ),
        ),
      ),
    )
