use Rattle.std.proofs.Common.{List, ap, ◌∙◌}
use Rattle.acap_notices.specs.declared.told.Told.{Told}
use Rattle.acap_views.specs.Contexts.{Contexts}
use Rattle.acap_views.specs.Keeping.{seats_in}
use Rattle.acap_views.specs.Seats.{contexts_at}
use Rattle.acap_views.specs.Telling.{fault_of}
use Rattle.acap_views.proofs.AnswerLemmas.{update_refused}
use Rattle.acap_views.proofs.views.Views.tolds_of.Goals as goal

pub returns-in-Some-clause-answer : goal.returns-in-Some-clause-answer
returns-in-Some-clause-answer c = update_refused (λ (ts : List Told). ts) (contexts_at (seats_in c.args.self.now) c.args.seat) c.args.names.now c.args.last c.in-Some.fault (c.in-Some.ensures ∙ ap (λ (cs : Contexts). fault_of cs c.args.names.now) c.contexts.ensures.value)
