use Rattle.acap_entries.proofs.StampLaws.{stamp_law}
use Rattle.acap_entries.proofs.laws.stamp_law.Goals as goal

pub returns : goal.returns
returns c = stamp_law
