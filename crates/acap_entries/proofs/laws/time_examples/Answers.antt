use Rattle.acap_entries.proofs.TimeLaws.{time_examples}
use Rattle.acap_entries.proofs.laws.time_examples.Goals as goal

pub returns : goal.returns
returns c = time_examples
