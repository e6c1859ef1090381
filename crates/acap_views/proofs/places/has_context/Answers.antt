use Rattle.std.proofs.Common.{Option, Some, None, is_some, sym, ap}
use Rattle.acap_views.specs.Contexts.{Context}
use Rattle.acap_views.proofs.KeepingLemmas.{get_listed}
use Rattle.acap_views.proofs.places.has_context.Goals as goal

pub returns-in-Some : goal.returns-in-Some
returns-in-Some c =
    rw (← c.contexts.ensures.value)
    (sym (ap (λ (o : Option Context). is_some o)
    (get_listed c.contexts.result.now c.args.name.now (Some c.in-Some.field-0.now) c.contexts.ensures.order c.in-Some.ensures)))

pub returns-in-None : goal.returns-in-None
returns-in-None c =
    rw (← c.contexts.ensures.value)
    (sym (ap (λ (o : Option Context). is_some o)
    (get_listed c.contexts.result.now c.args.name.now None c.contexts.ensures.order c.in-None.ensures)))
