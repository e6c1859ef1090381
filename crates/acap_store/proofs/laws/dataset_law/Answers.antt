use Rattle.acap_store.proofs.DatasetLaws.{dataset_law}
use Rattle.acap_store.proofs.laws.dataset_law.Goals as goal

pub returns : goal.returns
returns c = dataset_law
