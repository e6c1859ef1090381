use Rattle.acap_entries.proofs.FullPathLaws.{full_paths}
use Rattle.acap_entries.proofs.laws.full_path_law.Goals as goal

pub returns : goal.returns
returns c = full_paths
