use Rattle.acap_search.proofs.SightLemmas.{acl_law}
use Rattle.acap_search.proofs.laws.acl_law.Goals as goal

pub returns : goal.returns
returns c = acl_law
