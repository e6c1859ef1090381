use Rattle.acap_session.proofs.Completing.{completion_examples}
use Rattle.acap_session.proofs.laws.completion_examples.Goals as goal

pub returns : goal.returns
returns c = completion_examples
