use Rattle.acap_inherit.proofs.FirstLaws.{first_dataset_law}
use Rattle.acap_inherit.proofs.laws.first_dataset_law.Goals as goal

pub returns : goal.returns
returns c = first_dataset_law
