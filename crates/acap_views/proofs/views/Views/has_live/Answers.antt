use Rattle.std.proofs.Common.{sym, ap, ◌∙◌}
use Rattle.acap_views.specs.Keeping.{seats_in}
use Rattle.acap_views.specs.Listing.{live_seat}
use Rattle.acap_views.specs.Work.{has_live}
use Rattle.std.specs.List.{list_any}
use Rattle.acap_views.proofs.QuietLemmas.{seats_listed}
use Rattle.acap_views.proofs.views.Views.has_live.Goals as goal

pub returns : goal.returns
returns c =
    c.live_seats.ensures ∙ (ap (list_any live_seat) c.deref.ensures.value
    ∙ (sym (seats_listed c.self.inside.seats.items c.self.invariant) ∙ ap (λ s. has_live (seats_in s)) c.self.view_is))
