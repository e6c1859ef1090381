use Rattle.std.proofs.Common.{◌≡◌, ◌++◌, ◌-◌, map, length}
use Rattle.arrayvec.specs.ArrayVec.{array_vec_len}
use Rattle.acap_inherit.specs.Chains.{chain_within}
use Rattle.acap_inherit.proofs.chains.follow_bases.Given as goal

abbrev pub invariant-loop : goal.invariant-loop
invariant-loop g l = record {
  room : array_vec_len l.names ≡ l.counter;
  count : length l.names.items ≡ l.counter;
  names : map (λ d. d.now) l.names.items ++ chain_within (8 - l.counter) (g.R.Records.store l.records).records l.last
      ≡ chain_within 8 (g.R.Records.store l.records).records l.dataset;
}
