use Rattle.std.proofs.Common.{◌≡◌, ◌++◌, length}
use Rattle.acap_views.specs.Room.{HasRoom}
use Rattle.acap_views.specs.EntryUpdates.{after_shifts, shifts_notices}
use Rattle.acap_views.proofs.live_lists.LiveLists.follow.Given as goal

abbrev pub invariant-loop-shift : goal.invariant-loop-shift
invariant-loop-shift l = record {
  present : after_shifts l.shift-iterator.rest.items l.self.present ≡ after_shifts l.fn.shifts.items l.fn.self.present;
  told : l.self.pending ++ shifts_notices l.enumerated l.shift-iterator.rest.items l.self.present ≡ l.fn.self.pending ++ shifts_notices l.fn.enumerated l.fn.shifts.items l.fn.self.present;
  shown : l.self.shown ≡ l.fn.self.shown;
  room : HasRoom (length l.shift-iterator.rest.items) l.self.pending l.self.space;
}
