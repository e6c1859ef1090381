use Rattle.acap_views.proofs.ClientLemmas.{client_law}
use Rattle.acap_views.proofs.laws.client_law.Goals as goal

pub returns : goal.returns
returns c = client_law
