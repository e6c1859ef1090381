use Rattle.acap_search.proofs.ListedLemmas.{within_law}
use Rattle.acap_search.proofs.context_laws.within_law.Goals as goal

pub returns : goal.returns
returns c = within_law
