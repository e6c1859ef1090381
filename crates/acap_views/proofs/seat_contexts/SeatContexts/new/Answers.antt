use Rattle.std.proofs.Common.{ap, ◌∙◌}
use Rattle.acap_views.specs.Listing.{as_contexts}
use Rattle.acap_views.proofs.KeepingLemmas.{none_listed}
use Rattle.acap_views.proofs.seat_contexts.SeatContexts.new.Goals as goal

pub returns : goal.returns
returns c = λ i. record { user = c.args.user; contexts = (ap as_contexts c.new.ensures.items ∙ none_listed) i }
