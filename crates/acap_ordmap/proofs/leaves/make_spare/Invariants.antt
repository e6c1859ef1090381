use Rattle.std.proofs.Common.{◌≤◌, vec_len, vec_capacity}
use Rattle.acap_ordmap.proofs.leaves.make_spare.Given as goal

abbrev pub invariant-loop : goal.invariant-loop
invariant-loop g l = record {
  grows : vec_len l.initial.spare ≤ vec_len l.spare;
  places : vec_capacity l.initial.spare ≤ vec_capacity l.spare;
  made : l.counter ≤ vec_len l.spare;
}
