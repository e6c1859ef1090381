use Rattle.std.proofs.Common.{rules}
use Rattle.acap_search.proofs.CacheLemmas.{alone_of}
use Rattle.acap_search.proofs.plain_dataset.is_alone.Goals as goal

pub returns-then-is_empty-clause-alone : goal.returns-then-is_empty-clause-alone
returns-then-is_empty-clause-alone c e = alone_of (λ d. d.now) c.in-Some.first.now c.in-Some.others.now c.names.result.now _ _ c.names.ensures.names (search rules) (search rules) (search rules)
