use Rattle.std.proofs.Common.{◌≡◌, ◌≤◌, take, vec_capacity}
use Rattle.acap_ordmap.proofs.leaf.LeafCopying.copy.Given as goal

abbrev pub invariant-loop-entry : goal.invariant-loop-entry
invariant-loop-entry g l = record { items : l.entries.items ≡ take l.entry-index l.entry-items; room : 64 ≤ vec_capacity l.entries }
