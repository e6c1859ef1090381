use Rattle.std.proofs.Common.{Some, None, sym, ◌∙◌}
use Rattle.acap_views.proofs.TellingLemmas.{fault_found}
use Rattle.acap_views.proofs.telling.fault_at.Goals as goal

pub returns-in-Some : goal.returns-in-Some
returns-in-Some c = c.fault.ensures ∙ sym (fault_found c.args.contexts.now c.args.name.now (Some c.in-Some.context.now) c.requires c.in-Some.ensures)

pub returns-in-None : goal.returns-in-None
returns-in-None c = sym (fault_found c.args.contexts.now c.args.name.now None c.requires c.in-None.ensures)
