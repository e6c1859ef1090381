use Rattle.acap_entries.proofs.StampLaws.{stamp_examples}
use Rattle.acap_entries.proofs.laws.stamp_examples.Goals as goal

pub returns : goal.returns
returns c = stamp_examples
