use Rattle.std.proofs.Common.{subst, IsTrue}
use Rattle.acap_entries.specs.Names.{is_closed_dataset}
use Rattle.acap_entries.proofs.FormLemmas.{closed_ends}
use Rattle.acap_entries.proofs.dataset.Dataset.as_slice.Goals as goal

pub returns-clause-closed : goal.returns-clause-closed
returns-clause-closed c = closed_ends _ (subst (λ t. IsTrue (is_closed_dataset t)) c.self.view_is c.self.invariant)
