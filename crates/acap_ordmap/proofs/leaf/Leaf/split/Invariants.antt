use Rattle.std.proofs.Common.{◌≡◌, ◌++◌, ◌+◌, ◌≤◌, vec_len, vec_capacity, reverse}
use Rattle.acap_ordmap.proofs.leaf.Leaf.split.Given as goal

abbrev pub invariant-loop : goal.invariant-loop
invariant-loop g l = record {
  whole : l.self-inside.entries.items ++ reverse l.later-inside.entries.items ≡ l.initial.self-inside.entries.items;
  kept : vec_len l.self-inside.entries + l.counter ≡ l.end + l.kept;
  moved : vec_len l.later-inside.entries + l.kept ≡ l.counter;
  counted : l.counter ≤ l.end;
  few : l.end ≤ 64;
  self_room : 64 ≤ vec_capacity l.self-inside.entries;
  later_room : 64 ≤ vec_capacity l.later-inside.entries;
}
