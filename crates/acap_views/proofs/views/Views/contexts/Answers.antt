use Rattle.std.proofs.Common.{sym, ap, ◌∙◌}
use Rattle.acap_views.specs.Keeping.{contexts_in}
use Rattle.acap_views.proofs.KeepingLemmas.{contexts_there, contexts_nowhere, none_listed}
use Rattle.acap_views.proofs.views.Views.contexts.Goals as goal

pub returns-in-Some-clause-value : goal.returns-in-Some-clause-value
returns-in-Some-clause-value c = ap contexts_in c.contexts.ensures.value ∙ sym (contexts_there c.args.self.now.seats c.args.seat c.in-Some.sitting.now (sym c.in-Some.ensures))

pub returns-in-None-clause-value : goal.returns-in-None-clause-value
returns-in-None-clause-value c = none_listed ∙ sym (contexts_nowhere c.args.self.now.seats c.args.seat (sym c.in-None.ensures))
