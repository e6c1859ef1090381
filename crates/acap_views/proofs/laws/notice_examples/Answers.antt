use Rattle.acap_views.proofs.ExampleLemmas.{notice_examples}
use Rattle.acap_views.proofs.laws.notice_examples.Goals as goal

pub returns : goal.returns
returns c = notice_examples
