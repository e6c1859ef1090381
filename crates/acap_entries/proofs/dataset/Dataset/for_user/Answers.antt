use Rattle.std.proofs.Common.{ap, ◌∙◌}
use Rattle.acap_entries.specs.Names.{is_user_name}
use Rattle.acap_entries.proofs.FormLemmas.{meant_closed}
use Rattle.acap_entries.proofs.dataset.Dataset.for_user.Goals as goal

pub invariant_of-result : goal.invariant_of-result
invariant_of-result c = rw c.in_ok-octets.ensures (meant_closed c.as_slice.result.now c.self.inside.octets (ap is_user_name c.as_slice.ensures ∙ c.form_law.ensures) c.self.invariant)
