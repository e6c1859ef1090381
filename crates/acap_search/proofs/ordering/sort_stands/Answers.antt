use Rattle.std.proofs.Common.{rules}
use Rattle.acap_search.proofs.OrderLemmas.{sorted_from_clauses}
use Rattle.acap_search.proofs.ordering.sort_stands.Goals as goal

pub returns : goal.returns
returns c = sorted_from_clauses _ _ c.in_ok-sort_by.ensures.sorted c.sort_by.ensures.stable (λ f a r q k. search rules)
