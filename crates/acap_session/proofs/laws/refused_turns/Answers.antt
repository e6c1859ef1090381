use Rattle.acap_session.proofs.Refusing.{refused_turns}
use Rattle.acap_session.proofs.laws.refused_turns.Goals as goal

pub returns : goal.returns
returns c = refused_turns
