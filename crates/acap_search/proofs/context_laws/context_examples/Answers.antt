use Rattle.acap_search.proofs.ContextExampleLemmas.{context_examples}
use Rattle.acap_search.proofs.context_laws.context_examples.Goals as goal

pub returns : goal.returns
returns c = context_examples
