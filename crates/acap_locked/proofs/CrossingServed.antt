-- What is served may be looked at by several threads.
use denote.Param.Send.{IsSend, IsSync, sendable, view_send}
use denote.Param.SendFields.{declared_send, declared_sync}
use denote.RattleType.{RattleType}
use Rattle.std.proofs.Crossing.{crosses}
use Rattle.std.proofs.sync.ledger.Book.TheSendSync as of_ledger_book
use Rattle.std.proofs.sync.ledger.Share.TheSendSync as of_share
use Rattle.std.proofs.sync.Mutex.TheSendSync as of_mutex
use Rattle.std.specs.declared.sync.ledger.Ledger as ledger
use Rattle.acap_entries.proofs.seat.Seat.TheSendSync as of_seat
use Rattle.acap_entries.proofs.steps.Steps.TheSendSync as of_steps
use Rattle.acap_locked.specs.declared.site.Site as site
use Rattle.acap_locked.specs.contracts.history_entry.HistoryEntry as entry
use Rattle.acap_locked.specs.contracts.book.Book as book
use Rattle.acap_locked.specs.contracts.book.Book.TheInside as book_inside
use Rattle.acap_locked.specs.contracts.served.Served as served
use Rattle.acap_locked.proofs.CrossingCalls.{exchange_send}
use Rattle.acap_locked.proofs.CrossingStates.{state_send}

entry_send : IsSend entry.the_row
entry_send = declared_send entry.the_type (of_seat.the_send, (exchange_send, tt))

module _ (S : RattleType) (g : site.Ghosts S.Denot) (h : ledger.Ghosts S.Denot) (L : RattleType) (l : ledger.Ghosts L.Denot) where
  pub book_send : IsSend (book.the_row S L g h l)
  book_send = view_send _ _ _ _ _ (declared_send (book_inside.the_type S L g h l) (
    search (state_send, crosses, sendable) depth 60,
    (
      search (entry_send, crosses, sendable) depth 60,
      (
        search (entry_send, crosses, sendable) depth 60,
        (
          search sendable depth 20,
          (
            search sendable depth 20,
            (
              search (state_send, crosses, sendable) depth 60,
              (
                search (crosses, sendable) depth 20,
                (
                  search sendable depth 20,
                  (of_ledger_book.the_send S h, (of_share.the_send S h, (of_steps.the_send L l, tt))),
                ),
              ),
            ),
          ),
        ),
      ),
    ),
  ))

  pub served_sync : IsSync (served.the_row S L g h l)
  served_sync = declared_sync (served.the_type S L g h l) (of_mutex.the_sync _ book_send, tt)
