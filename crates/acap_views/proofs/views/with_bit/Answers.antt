use Rattle.std.proofs.Common.{w64}
use Rattle.std.proofs.lemmas.Nat.Bits.{bit_at_set_same, bit_at_set_other}
use Rattle.acap_views.proofs.views.with_bit.Goals as goal

pub returns-then-set-clause-one : goal.returns-then-set-clause-one
returns-then-set-clause-one c = λ set. bit_at_set_same w64 c.args.bits c.args.number c.requires

pub returns-then-set-clause-others : goal.returns-then-set-clause-others
returns-then-set-clause-others c = λ n other. bit_at_set_other w64 c.args.bits c.args.number c.requires n other
