use Rattle.std.proofs.Common.{◌≡◌, ◌+◌, length}
use Rattle.acap_entries.specs.Deletions.{IsAdded, deletions_at}
use Rattle.acap_entries.proofs.deletions.Deletions.add_all.Given as goal

abbrev pub invariant-loop-path : goal.invariant-loop-path
invariant-loop-path l = record {
  added : IsAdded (deletions_at l.yielded l.moment) l.fn.self l.self;
  slots : l.self.slots ≡ l.fn.self.slots;
  left : length l.yielded + length l.path-iterator.rest.items ≡ length l.fn.paths;
}
