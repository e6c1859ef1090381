use Rattle.std.proofs.Common.{ap, ◌∙◌}
use Rattle.acap_views.specs.Listing.{as_seated}
use Rattle.acap_views.proofs.KeepingLemmas.{no_seats}
use Rattle.acap_views.proofs.views.Views.new.Goals as goal

pub returns : goal.returns
returns c = ap as_seated c.new.ensures.items ∙ no_seats
