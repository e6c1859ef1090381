use Rattle.std.proofs.Common.{length}
use Rattle.acap_search.proofs.name_key.+find_in.Given as goal

abbrev pub decreases-find_in : goal.decreases-find_in
decreases-find_in l = length l.datasets.now
