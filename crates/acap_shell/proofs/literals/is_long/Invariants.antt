use Rattle.std.proofs.Common.{◌≡◌, ◌≤◌, take}
use Rattle.acap_shell.specs.Literals.{octets_in}
use Rattle.acap_shell.proofs.literals.is_long.Given as goal

abbrev pub invariant-loop-value : goal.invariant-loop-value
invariant-loop-value l = (l.count ≡ octets_in (take l.value-index l.values)) × (l.count ≤ 6000)
