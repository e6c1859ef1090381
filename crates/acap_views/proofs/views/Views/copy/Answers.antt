use Rattle.std.proofs.Common.{ap}
use Rattle.acap_views.specs.Keeping.{seats_in}
use Rattle.acap_views.proofs.KeepingLemmas.{copied_order, copied_seats}
use Rattle.acap_views.proofs.views.Views.copy.Goals as goal

pub invariant_of-result : goal.invariant_of-result
invariant_of-result c = copied_order _ c.self.inside.seats.items c.in_ok-seats.ensures c.self.invariant

pub returns : goal.returns
returns c = copied_seats _ c.self.inside.seats.items (seats_in c.args.self.now) c.in_ok-seats.ensures c.self.invariant (ap seats_in c.self.view_is)
