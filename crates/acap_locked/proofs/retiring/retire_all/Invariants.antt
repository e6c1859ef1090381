use Rattle.std.specs.Prelude.{◌≡◌, ◌+◌, length, sum, drop}
use Rattle.acap_locked.specs.Epochs.{retire}
use Rattle.acap_locked.proofs.retiring.retire_all.Given as goal

abbrev pub invariant-loop-entry : goal.invariant-loop-entry
invariant-loop-entry l = record {
  seats : length l.counts.items ≡ 64;
  total : sum l.counts.items ≡ sum l.initial.counts.items + l.entry-index;
  counts : retire l.counts.items (drop l.entry-index l.history) ≡ retire l.initial.counts.items l.history;
}
