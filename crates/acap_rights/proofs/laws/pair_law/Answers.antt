use Rattle.acap_rights.proofs.PairLemmas.{is_form, is_said}
use Rattle.acap_rights.proofs.laws.pair_law.Goals as goal

pub returns : goal.returns
returns c = λ text pair. (is_form text pair, is_said text pair)
