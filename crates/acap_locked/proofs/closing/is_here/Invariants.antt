use Rattle.std.specs.Prelude.{◌≡◌, drop}
use Rattle.std.specs.List.{list_any}
use Rattle.acap_locked.specs.Passes.{is_of}
use Rattle.acap_locked.proofs.closing.is_here.Given as goal

abbrev pub invariant-loop-pass : goal.invariant-loop-pass
invariant-loop-pass g l = list_any (is_of l.seat) (drop l.pass-index l.passes) ≡ list_any (is_of l.seat) l.passes
