use Rattle.std.proofs.Common.{◌≡◌, IfSome, subst, ap, ◌∙◌}
use Rattle.acap_entries.proofs.FormLemmas.{meant_closed}
use Rattle.acap_entries.specs.Homes.{for_user}
use Rattle.acap_entries.specs.Names.{is_user_name}
use Rattle.acap_entries.proofs.dataset.Dataset.set_user.Goals as goal

pub invariant_of-self : goal.invariant_of-self
invariant_of-self c =
    let meant : c.in-Some.octets ≡ for_user c.as_slice.result.now c.self.inside.octets = subst (λ made. IfSome made (λ other. other ≡ for_user c.as_slice.result.now c.self.inside.octets)) c.in-Some.is c.in_ok-octets.ensures.other in
    rw meant (meant_closed c.as_slice.result.now c.self.inside.octets (ap is_user_name c.as_slice.ensures ∙ c.form_law.ensures) c.self.invariant)

pub invariant_of-self-in-Some-2 : goal.invariant_of-self-in-Some-2
invariant_of-self-in-Some-2 c =
    let meant : c.in-Some.octets ≡ for_user c.as_slice.result.now c.self.inside.octets = subst (λ made. IfSome made (λ other. other ≡ for_user c.as_slice.result.now c.self.inside.octets)) c.in-Some.is c.in_ok-octets.ensures.other in
    rw meant (meant_closed c.as_slice.result.now c.self.inside.octets (ap is_user_name c.as_slice.ensures ∙ c.form_law.ensures) c.self.invariant)
