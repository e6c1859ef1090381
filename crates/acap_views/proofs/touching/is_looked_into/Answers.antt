use Rattle.std.proofs.Common.{sym, ◌∙◌, ap, subst}
use Rattle.std.specs.List.{list_any}
use Rattle.acap_entries.specs.FullPaths.{AreWellFormed}
use Rattle.acap_entries.specs.Leaving.{records_ahead}
use Rattle.acap_entries.specs.Orders.{octets_eq}
use Rattle.acap_search.specs.Scopes.{datasets_of, scope_of}
use Rattle.acap_views.specs.Touching.{looks_into}
use Rattle.acap_views.proofs.TouchingLemmas.{whether}
use Rattle.acap_views.proofs.touching.is_looked_into.Goals as goal

pub returns : goal.returns
returns c =
    let after = records_ahead c.ahead.inside.after.now in
    whether after c.scope.result c.args.dataset.now c.looks_in.result (subst (λ records. AreWellFormed records) (sym c.ahead.invariant.ahead) c.ahead.invariant.sound.new_sound.formed) c.looks_in.ensures
    ∙ (ap (λ scope. list_any (octets_eq c.args.dataset.now) (datasets_of after scope)) c.scope.ensures
    ∙ (ap (λ records. list_any (octets_eq c.args.dataset.now) (datasets_of records (scope_of c.args.sought.now))) c.ahead.invariant.ahead
    ∙ ap (λ plan. looks_into plan c.args.sought.now c.args.dataset.now) c.ahead.view_is))
