use Rattle.std.proofs.Common.{sym, ◌∙◌}
use Rattle.acap_rights.proofs.PairLemmas.{makes_pair}
use Rattle.acap_rights.proofs.pairs.is_pair.Goals as goal

pub returns-then-is_identifier : goal.returns-then-is_identifier
returns-then-is_identifier c = let e = makes_pair c.args.identifier.now c.args.letters.now in let first = sym c.is_identifier.ensures ∙ c.if-is_identifier.true in rw (e, first) c.are_letters.ensures

pub returns-else-is_identifier : goal.returns-else-is_identifier
returns-else-is_identifier c = let e = makes_pair c.args.identifier.now c.args.letters.now in let first = sym c.is_identifier.ensures ∙ c.if-is_identifier.false in rw (e, first) c.if-is_identifier.false
