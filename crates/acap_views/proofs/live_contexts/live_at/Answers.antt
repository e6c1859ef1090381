use Rattle.std.proofs.Common.{sym, ap, ◌∙◌}
use Rattle.acap_views.specs.Keeping.{contexts_in}
use Rattle.acap_views.specs.Work.{any_live}
use Rattle.acap_views.proofs.QuietLemmas.{live_listed}
use Rattle.acap_views.proofs.live_contexts.live_at.Goals as goal

pub returns : goal.returns
returns c = c.any_live.ensures ∙ (sym (live_listed c.contexts.result.now c.contexts.ensures.order) ∙ ap (λ cs. any_live (contexts_in cs)) c.contexts.ensures.value)
