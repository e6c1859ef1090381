use Rattle.std.proofs.Common.{Some, sym, ap, ◌∙◌}
use Rattle.std.specs.Option.{option_map}
use Rattle.acap_views.specs.Keeping.{occupant_in}
use Rattle.acap_views.specs.Seats.{Occupant}
use Rattle.acap_views.proofs.KeepingLemmas.{seat_get}
use Rattle.acap_views.proofs.views.Views.user.Goals as goal

pub returns-in-Some : goal.returns-in-Some
returns-in-Some c =
    ap Some c.user.ensures
    ∙ sym (ap (option_map (λ (o : Occupant). o.user)) (seat_get c.args.self.now.seats c.args.seat ∙ ap (option_map occupant_in) (sym c.in-Some.ensures)))

pub returns-in-None : goal.returns-in-None
returns-in-None c =
    sym (ap (option_map (λ (o : Occupant). o.user)) (seat_get c.args.self.now.seats c.args.seat ∙ ap (option_map occupant_in) (sym c.in-None.ensures)))
