use Rattle.acap_session.proofs.Completing.{completion_form}
use Rattle.acap_session.proofs.laws.completion_form.Goals as goal

pub returns : goal.returns
returns c = completion_form
