use Rattle.acap_entries.proofs.TimeLemmas.{days_are}
use Rattle.acap_entries.proofs.times.days_of.Goals as goal

pub overflow_sub-result : goal.overflow_sub-result
overflow_sub-result c = (days_are c.args.civil _ _ c.requires c.days_since_min.ensures.value c.days_since_min-2.ensures.value).order

pub returns-clause-value : goal.returns-clause-value
returns-clause-value c = (days_are c.args.civil _ _ c.requires c.days_since_min.ensures.value c.days_since_min-2.ensures.value).value

pub returns-clause-bound : goal.returns-clause-bound
returns-clause-bound c = (days_are c.args.civil _ _ c.requires c.days_since_min.ensures.value c.days_since_min-2.ensures.value).bound
