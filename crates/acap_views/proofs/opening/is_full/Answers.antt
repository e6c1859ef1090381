use Rattle.std.proofs.Common.{not, ◌&&◌, nat_le, Option, Some, None, is_some, sym, ap, ◌∙◌}
use Rattle.std.specs.FinMap as table
use Rattle.acap_views.specs.Contexts.{Context}
use Rattle.acap_views.specs.Listing.{as_contexts}
use Rattle.acap_views.proofs.KeepingLemmas.{get_listed, listed_len}
use Rattle.acap_views.proofs.opening.is_full.Goals as goal

pub returns-in-Some : goal.returns-in-Some
returns-in-Some c =
    let es = c.args.contexts.now in
    sym (ap (λ (o : Option Context). not (is_some o) && nat_le 200 (table.len (as_contexts es))) (get_listed es c.args.name.now (Some c.in-Some.field-0.now) c.requires c.in-Some.ensures))

pub returns-in-None : goal.returns-in-None
returns-in-None c =
    let es = c.args.contexts.now in
    ap (λ n. nat_le 200 n) (sym (listed_len es c.requires))
    ∙ sym (ap (λ (o : Option Context). not (is_some o) && nat_le 200 (table.len (as_contexts es))) (get_listed es c.args.name.now None c.requires c.in-None.ensures))
