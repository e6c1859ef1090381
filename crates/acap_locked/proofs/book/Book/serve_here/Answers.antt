use Rattle.std.proofs.Common.{◌<◌, length, arith}
use Rattle.acap_locked.proofs.Replays.{kept_push}
use Rattle.acap_locked.proofs.book.Book.serve_here.Goals as goal

-- the history has one more call, that of the step
pub invariant_of-self-2 : goal.invariant_of-self-2
invariant_of-self-2 g c =
    let below : length c.self.inside.history.items < 1000000 = omega arith in (
      kept_push _ _ _ _ _ _ _ _ _ _ _ _ _ _ _ _ _ _ _ c.self.invariant.0 below c.in_ok-done.ensures.step c.make_room.ensures.items c.push_in_room.ensures
          c.in_ok-done.ensures.entry (omega (arith, c.add.ensures.total, c.audit.ensures.total)),
      c.self.invariant.1,
      c.self.invariant.2,
      c.self.invariant.3,
    )
