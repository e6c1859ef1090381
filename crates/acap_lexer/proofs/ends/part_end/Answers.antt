use Rattle.acap_lexer.proofs.EndPlaces.{ends_there, not_yet, never, none_yet}
use Rattle.acap_lexer.proofs.ends.part_end.Goals as goal

pub returns-in-Some-clause-part_end : goal.returns-in-Some-clause-part_end
returns-in-Some-clause-part_end c = ends_there _ _ _ c.min.ensures c.in-Some.ensures.first

pub returns-then-text-lt-PART_LIMIT-clause-part_end : goal.returns-then-text-lt-PART_LIMIT-clause-part_end
returns-then-text-lt-PART_LIMIT-clause-part_end c = not_yet _ _ c.min.ensures c.in-None.ensures.first c.if-text-lt-PART_LIMIT.true

pub returns-then-text-lt-PART_LIMIT-clause-places : goal.returns-then-text-lt-PART_LIMIT-clause-places
returns-then-text-lt-PART_LIMIT-clause-places c = none_yet _ _ c.min.ensures c.in-None.ensures.passed c.if-text-lt-PART_LIMIT.true

pub returns-else-text-lt-PART_LIMIT-clause-part_end : goal.returns-else-text-lt-PART_LIMIT-clause-part_end
returns-else-text-lt-PART_LIMIT-clause-part_end c = never _ _ c.min.ensures c.in-None.ensures.first c.if-text-lt-PART_LIMIT.false

pub returns-else-text-lt-PART_LIMIT-clause-places : goal.returns-else-text-lt-PART_LIMIT-clause-places
returns-else-text-lt-PART_LIMIT-clause-places c = c.if-text-lt-PART_LIMIT.false
