use Rattle.std.proofs.Common.{sym, ap, ◌∙◌, not}
use Rattle.std.specs.Option.{is_some}
use Rattle.acap_session.specs.Places.{if_open, place_at}
use Rattle.acap_session.specs.World.{World, open_at}
use Rattle.acap_session.proofs.Placing.{stands, nothing_behind, open_some}
use Rattle.acap_session.proofs.world.World.is_open.Goals as goal

pub returns-in-Some-Some : goal.returns-in-Some-Some
returns-in-Some-Some c =
    let k = c.in-Some-Some.ensures.lookup.3 in
    let there = stands c.deref.result.now c.from.result c.in-Some-Some.field-0.now k.0 k.1 ∙ c.in-Some-Some.field-0-is in
    let open_ = ap (λ o. is_some (if_open o)) there ∙ open_some c.in-Some-Some.place in
    let seat = c.from.ensures ∙ c.number.ensures.value in
    let w = ap (λ xs. is_some (if_open (place_at xs c.from.result))) c.deref.ensures.value ∙ ap (λ n. is_some (if_open (place_at c.self.inside.places.items n))) seat ∙ ap (λ (v : World). is_some (open_at v c.args.seat)) c.self.view_is in
    ap not c.is_closed.ensures ∙ sym open_ ∙ w

pub returns-in-Some-None : goal.returns-in-Some-None
returns-in-Some-None c =
    let k = c.in-Some-None.ensures.lookup.3 in
    let there = stands c.deref.result.now c.from.result c.in-Some-None.field-0.now k.0 k.1 ∙ c.in-Some-None.field-0-is in
    let seat = c.from.ensures ∙ c.number.ensures.value in
    let w = ap (λ xs. is_some (if_open (place_at xs c.from.result))) c.deref.ensures.value ∙ ap (λ n. is_some (if_open (place_at c.self.inside.places.items n))) seat ∙ ap (λ (v : World). is_some (open_at v c.args.seat)) c.self.view_is in
    sym (ap (λ o. is_some (if_open o)) there) ∙ w

pub returns-in-None : goal.returns-in-None
returns-in-None c =
    let there = nothing_behind c.deref.result.now c.from.result c.in-None.ensures.lookup.3 in
    let seat = c.from.ensures ∙ c.number.ensures.value in
    let w = ap (λ xs. is_some (if_open (place_at xs c.from.result))) c.deref.ensures.value ∙ ap (λ n. is_some (if_open (place_at c.self.inside.places.items n))) seat ∙ ap (λ (v : World). is_some (open_at v c.args.seat)) c.self.view_is in
    sym (ap (λ o. is_some (if_open o)) there) ∙ w
