use Rattle.std.proofs.Common.{◌≡◌, ◌≤◌, ◌+◌, ◌++◌, false, length, map, vec_len, vec_capacity}
use Rattle.acap_serving.proofs.collect.put_back.Given as goal

abbrev pub invariant-loop-pass : goal.invariant-loop-pass
invariant-loop-pass g l = record {
  seats : map (λ place. place.pass.seat) l.passes.items ++ map (λ pass. pass.seat) l.pass-iterator.rest.items
      ≡ map (λ place. place.pass.seat) l.initial.passes.items ++ map (λ pass. pass.seat) l.fn.spare.items;
  owes : map (λ place. place.owes_leave) l.passes.items ++ map (λ _. false) l.pass-iterator.rest.items
      ≡ map (λ place. place.owes_leave) l.initial.passes.items ++ map (λ _. false) l.fn.spare.items;
  room : vec_len l.passes + length l.pass-iterator.rest.items ≤ vec_capacity l.passes;
}
