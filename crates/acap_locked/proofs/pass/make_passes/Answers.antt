use Rattle.std.proofs.Common.{◌≡◌, ◌∙◌, ap, arith}
use Rattle.acap_locked.specs.Passes.{new_passes}
use Rattle.acap_locked.proofs.pass.make_passes.Goals as goal

pub returns : goal.returns
returns g c =
    let done : c.loop-number.number ≡ 64 = omega arith in
    c.loop-number.invariant.passes ∙ ap (λ n. new_passes n) done
