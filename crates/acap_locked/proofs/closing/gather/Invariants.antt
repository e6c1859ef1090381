use Rattle.std.specs.Prelude.{◌≡◌, ◌≤◌, length, map}
use Rattle.acap_locked.specs.Epochs.{held_in}
use Rattle.acap_locked.specs.Passes.{calls_of}
use Rattle.acap_locked.proofs.closing.gather.Given as goal

abbrev pub invariant-loop-pass : goal.invariant-loop-pass
invariant-loop-pass g l = record {
  parts : l.all.parts ≡ length l.yielded;
  apart : l.all.parts ≤ g.S.Ledger.parts;
  amount : l.all.amount ≡ calls_of l.yielded;
  total : l.book.total ≡ l.initial.book.total;
  items : l.items.items ≡ map (held_in l.epoch) l.yielded;
}
