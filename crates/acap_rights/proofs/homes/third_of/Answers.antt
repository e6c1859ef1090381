use Rattle.std.proofs.Common.{sym, ap, ◌∙◌, ◌∷◌}
use Rattle.std.specs.List.{slice_split}
use Rattle.std.proofs.lemmas.Bool.{not-true}
use Rattle.acap_entries.specs.Names.{is_slash}
use Rattle.acap_rights.specs.Homes.{third_of}
use Rattle.acap_rights.proofs.HomeLemmas.{no_third}
use Rattle.acap_rights.proofs.homes.third_of.Goals as goal

pub returns-then-ne : goal.returns-then-ne
returns-then-ne c =
    let unlike = rw c.as_slice.ensures at (not-true _ (sym c.ne.ensures ∙ c.if-ne.true)) in
    sym (ap third_of c.in_ok-rest.ensures.some ∙ (ap (λ parts. third_of (c.in_ok-rest.field-0-0.now ∷ parts)) c.in_ok-second.ensures.some ∙ no_third c.in_ok-rest.field-0-0.now c.in_ok-second.second.now (slice_split is_slash c.in_ok-second.rest.now) unlike))
