use Rattle.std.proofs.Common.{sym}
use Rattle.acap_rights.proofs.Cuts.{parts_at, parts_none}
use Rattle.acap_rights.proofs.cutting.cut_at.Goals as goal

pub returns-in-Some-clause-some : goal.returns-in-Some-clause-some
returns-in-Some-clause-some c = let e = parts_at c.args.octet c.args.text.now c.in-Some.at (sym c.in-Some.ensures.value) in cc (c.split_at.ensures.front, c.split_at-in-Some.ensures.back)

pub returns-in-None-clause-none : goal.returns-in-None-clause-none
returns-in-None-clause-none c = parts_none c.args.octet c.args.text.now (sym c.in-None.ensures.value)
