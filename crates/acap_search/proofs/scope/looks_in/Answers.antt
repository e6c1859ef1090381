use Rattle.std.proofs.Common.{ap, subst, sym, ◌∙◌}
use Rattle.acap_search.specs.Scoped.{SaysWhether, is_looked_in}
use Rattle.acap_search.proofs.ScopedLemmas.{says_whether}
use Rattle.acap_search.proofs.scope.looks_in.Goals as goal

pub returns : goal.returns
returns g c =
    let records = (g.R.Records.store c.args.records.now).records in
    subst (SaysWhether records c.args.scope.now c.args.dataset.now)
    (sym (c.is_looked_in.ensures ∙ ap (is_looked_in records c.args.scope.now) c.as_slice.ensures.value))
    (says_whether records c.args.scope.now c.args.dataset.now c.dataset-searched.ensures.formed c.as_slice.ensures.formed)
