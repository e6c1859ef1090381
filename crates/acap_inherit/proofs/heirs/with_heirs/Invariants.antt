use Rattle.std.proofs.Common.{◌≡◌, ◌-◌, []}
use Rattle.acap_inherit.specs.Touching.{with_heirs}
use Rattle.acap_inherit.proofs.heirs.with_heirs.Given as goal

abbrev pub invariant-loop : goal.invariant-loop
invariant-loop l = record {
  found : with_heirs (7 - l.counter) l.links.0 l.level.items l.found.0 ≡ with_heirs 7 l.links.0 l.fn.level.items [];
}
