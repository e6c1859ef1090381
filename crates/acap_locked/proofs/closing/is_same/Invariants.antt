use Rattle.std.specs.Prelude.{◌↔◌, drop}
use Rattle.acap_locked.specs.Passes.{IsSame}
use Rattle.acap_locked.proofs.closing.is_same.Given as goal

abbrev pub invariant-loop-pass : goal.invariant-loop-pass
invariant-loop-pass g l = IsSame (drop l.pass-index l.passes) l.epoch l.history l.count l.seat ↔ IsSame l.passes l.epoch l.history l.count l.seat
