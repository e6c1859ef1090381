use Rattle.acap_search.proofs.NamedLemmas.{alone_count}
use Rattle.acap_search.proofs.names_count.own_count.Goals as goal

pub returns-then-is_alone : goal.returns-then-is_alone
returns-then-is_alone c = alone_count _ _ _ _ _ c.by.view_is (c.is_alone.ensures.alone c.if-is_alone.true) c.entries_of.ensures c.len.ensures
