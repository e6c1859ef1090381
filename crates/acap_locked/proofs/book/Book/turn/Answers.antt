use Rattle.std.proofs.Common.{◌≡◌, ◌≤◌, ◌+◌, length, sum, arith}
use Rattle.acap_locked.specs.Epochs.{retire}
use Rattle.acap_locked.proofs.Replays.{kept_turn}
use Rattle.acap_locked.proofs.book.Book.turn.Goals as goal

-- the calls of the epoch that is over come after those of the epochs before
pub invariant_of-self : goal.invariant_of-self
invariant_of-self g c =
    let long : 500000 ≤ length c.self.inside.history.items = omega arith in
    let same : c.in-Ok.base.value.machine ≡ c.self.inside.state.value.machine = cc (c.in-Ok.ensures, c.deref.ensures) in
    let counts : c.retire_all.new.counts.items ≡ retire c.self.inside.retired.items c.self.inside.history.items =
    rw c.deref-2.ensures.value at c.retire_all.ensures.counts in
    let total : sum c.retire_all.new.counts.items ≡ sum c.self.inside.retired.items + length c.self.inside.history.items =
    rw c.deref-2.ensures.value at c.retire_all.ensures.total in (
      kept_turn _ _ _ _ _ _ _ _ _ _ _ _ _ c.self.invariant.0 long same c.set_aside.ensures.items counts total c.retire_all.ensures.seats (omega arith) (omega arith),
      c.self.invariant.1,
      c.self.invariant.2,
      c.self.invariant.3,
    )
