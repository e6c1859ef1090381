use Rattle.std.proofs.Common.{◌≡◌, vec_len}
use Rattle.acap_serving.proofs.bells.Bells.new.Given as goal

abbrev pub invariant-loop-pass : goal.invariant-loop-pass
invariant-loop-pass g l = vec_len l.heard ≡ l.pass-index
