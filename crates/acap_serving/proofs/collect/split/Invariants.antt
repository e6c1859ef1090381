use Rattle.std.proofs.Common.{◌≡◌, ◌≤◌, ◌+◌, ◌++◌, length, map, vec_len, vec_capacity}
use Rattle.acap_serving.proofs.collect.split.Given as goal

abbrev pub invariant-loop-over : goal.invariant-loop-over
invariant-loop-over g l = record {
  ends : map (λ end. end.running.parties) l.done.items ++ map (λ over. over.running.parties) l.over-iterator.rest.items
      ≡ map (λ end. end.running.parties) l.initial.done.items ++ map (λ over. over.running.parties) l.fn.overs.items;
  seats : map (λ place. place.pass.seat) l.passes.items ++ map (λ over. over.running.desk.pass.seat) l.over-iterator.rest.items
      ≡ map (λ place. place.pass.seat) l.initial.passes.items ++ map (λ over. over.running.desk.pass.seat) l.fn.overs.items;
  owes : map (λ place. place.owes_leave) l.passes.items ++ map (λ over. over.running.desk.owes_leave) l.over-iterator.rest.items
      ≡ map (λ place. place.owes_leave) l.initial.passes.items ++ map (λ over. over.running.desk.owes_leave) l.fn.overs.items;
  owed : map (λ end. end.running.desk.owes_leave) l.done.items ++ map (λ over. over.running.desk.owes_leave) l.over-iterator.rest.items
      ≡ map (λ end. end.running.desk.owes_leave) l.initial.done.items ++ map (λ over. over.running.desk.owes_leave) l.fn.overs.items;
  done : vec_len l.done + length l.over-iterator.rest.items ≤ vec_capacity l.done;
  passes : vec_len l.passes + length l.over-iterator.rest.items ≤ vec_capacity l.passes;
  len : vec_len l.passes + length l.over-iterator.rest.items ≤ vec_len l.initial.passes + vec_len l.fn.overs;
  kept : vec_capacity l.initial.passes ≤ vec_capacity l.passes;
}
