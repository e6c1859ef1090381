use Rattle.std.proofs.Common.{◌≡◌, ◌++◌, length, map, take, drop}
use Rattle.std.specs.Prelude.{bit_xor}
use Rattle.acap_login.proofs.hmac.mix.Given as goal

-- the octets so far are mixed, the rest are as they were
abbrev pub invariant-loop-x : goal.invariant-loop-x
invariant-loop-x l = record {
  items : l.x-items ≡ map (λ x. bit_xor x l.fn.octet) (take l.x-index l.fn.block) ++ drop l.x-index l.fn.block;
  block_long : length l.fn.block ≡ 64;
  long : length l.x-items ≡ 64;
}
