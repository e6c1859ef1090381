use Rattle.std.specs.Prelude.{◌≡◌, ◌+◌}
use Rattle.acap_locked.specs.Passes.{new_passes}
use Rattle.acap_locked.proofs.pass.make_passes.Given as goal

abbrev pub invariant-loop-number : goal.invariant-loop-number
invariant-loop-number g l = record {
  parts : l.rest.parts + l.number ≡ 64;
  amount : l.rest.amount ≡ 0;
  passes : l.passes.items ≡ new_passes l.number;
}
