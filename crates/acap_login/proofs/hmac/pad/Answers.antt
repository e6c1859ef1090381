use Rattle.std.proofs.Common.{ℕ, length}
use Rattle.std.proofs.lemmas.List.{drop-replicate}
use Rattle.acap_login.proofs.hmac.pad.Goals as goal

pub returns : goal.returns
returns c = let zeros = drop-replicate {X = ℕ} (length c.args.key.now) 64 0 in rw (c.copy_from_slice.ensures.after) (rw zeros)
