use Rattle.acap_search.proofs.FreshLemmas.{fresh_law}
use Rattle.acap_search.proofs.laws.fresh_law.Goals as goal

pub returns : goal.returns
returns c = fresh_law
