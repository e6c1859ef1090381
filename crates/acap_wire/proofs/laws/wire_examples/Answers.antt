use Rattle.acap_wire.proofs.Computing.{wire_examples}
use Rattle.acap_wire.proofs.laws.wire_examples.Goals as goal

pub returns : goal.returns
returns c = wire_examples
