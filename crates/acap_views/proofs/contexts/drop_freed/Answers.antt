use Rattle.std.proofs.Common.{rules, not}
use Rattle.std.proofs.lemmas.Fn.{filter_same}
use Rattle.acap_views.specs.Holds.{is_freed}
use Rattle.acap_views.specs.Keeping.{RoomyContext}
use Rattle.std.proofs.Common.{ℕ, List}
use Rattle.acap_views.proofs.contexts.drop_freed.Goals as goal

pub returns : goal.returns
returns c = filter_same _ (λ (entry : List ℕ × RoomyContext). not (is_freed entry.1.context.kept)) _ (λ x b f' k. search rules) _ _ c.retain.ensures.filtered
