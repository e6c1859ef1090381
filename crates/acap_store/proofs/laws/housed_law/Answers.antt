use Rattle.acap_store.proofs.HousedLaws.{housed_law}
use Rattle.acap_store.proofs.laws.housed_law.Goals as goal

pub returns : goal.returns
returns c = housed_law
