use Rattle.std.proofs.Common.{◌≡◌, ℕ, ap, ◌∙◌, cond, Some, List, true, refl, eq-eqb}
use Rattle.std.specs.Prelude.{is_some}
use Rattle.std.specs.FinMap as table
use Rattle.std.specs.Cmp.{nat_cmp_total, unsigned_tied}
use Rattle.acap_views.specs.Seats.{Occupant, Seated, with_user}
use Rattle.acap_tests.proofs.opened.opened.Goals as goal

-- who has just taken a seat sits there
sits : (seats after : Seated) (seat : ℕ) (user : List ℕ) → after ≡ with_user seats seat user → is_some (table.get after seat) ≡ true
sits seats after seat user e =
    let occupant : Occupant = record { user = user; contexts = table.empty } in
    ap (λ (s : Seated). is_some (table.get s seat)) e
    ∙ ap is_some (table.get-insert nat_cmp_total seats seat occupant seat ∙ ap (λ b. cond b (Some occupant) (table.get seats seat)) (unsigned_tied seat seat ∙ eq-eqb seat seat refl))

pub open-requires-clause-somebody : goal.open-requires-clause-somebody
open-requires-clause-somebody c = sits _ _ _ _ c.take_seat.ensures
