use Rattle.std.proofs.Common.{◌≡◌, take, map}
use Rattle.arrayvec.specs.ArrayVec.{array_vec_len}
use Rattle.acap_inherit.proofs.lineage.Lineage.again.Given as goal

abbrev pub invariant-loop-name : goal.invariant-loop-name
invariant-loop-name l = record {
  room : array_vec_len l.names ≡ l.name-index;
  names : map (λ d. d.now) l.names.items ≡ map (λ d. d.now) (take l.name-index l.name-items);
}
