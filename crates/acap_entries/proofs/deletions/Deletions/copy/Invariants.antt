use Rattle.std.proofs.Common.{◌≡◌, take}
use Rattle.acap_entries.proofs.deletions.Deletions.copy.Given as goal

abbrev pub invariant-loop-at : goal.invariant-loop-at
invariant-loop-at l = l.kept.items ≡ take l.at l.self-inside.kept.items
