use Rattle.std.proofs.Common.{◌<◌, length, sym, subst, ◌∙◌, ap}
use Rattle.acap_session.specs.Places.{places_up_to}
use Rattle.acap_session.specs.contracts.world.World.{the_view}
use Rattle.acap_session.proofs.Placing.{reached_within, now_none, stood, starts, open_made, unopened}
use Rattle.acap_session.proofs.world.World.open.Goals as goal

pub index_mut-standing-requires : goal.index_mut-standing-requires
index_mut-standing-requires g c =
    let there = reached_within c.self.inside.places.items c.args.seat in
    let index = subst (λ n. n < length (places_up_to c.self.inside.places.items c.args.seat)) (sym (c.from-index.ensures ∙ c.number.ensures.value)) there in
    subst (λ n. c.from-index.result < n) (ap length (sym c.in_ok-reach.ensures.reached) ∙ sym c.reach.new.places.ok.0) index

pub returns : goal.returns
returns g c =
    let w = the_view c.self.inside in
    let free = now_none w c.args.self.now c.args.seat c.is_open.result c.self.view_is c.if-is_open.false c.is_open.ensures in
    let index = c.from-index.ensures ∙ c.number.ensures.value in
    let there = stood w c.reach.new.places.items c.from-index.result c.args.seat c.index_mut-standing.result.now c.in_ok-reach.ensures.reached index c.index_mut-standing.ensures.value in
    let first = starts w c.args.seat c.args.user c.in_ok-host.host c.new-session.result c.index_mut-standing.result.now c.new-session.ensures c.in_ok-host.ensures there in
    open_made c.args.self.now w (record { seat = c.args.seat; clock = c.args.now; nonce = 0 }) c.args.user _ c.reach.new.places.items c.from-index.result c.begin.new.standing c.begin.new.state.machine c.self.view_is free first c.in_ok-reach.ensures.reached index c.in-Ok.ensures

pub returns-in_default : goal.returns-in_default
returns-in_default g c =
    let w = the_view c.self.inside in
    let free = now_none w c.args.self.now c.args.seat c.is_open.result c.self.view_is c.if-is_open.false c.is_open.ensures in
    let index = c.from-index.ensures ∙ c.number.ensures.value in
    unopened c.args.self.now w (record { seat = c.args.seat; clock = c.args.now; nonce = 0 }) c.args.user c.reach.new.places.items c.truncate.new.self.items c.from-index.result c.len-count.result c.index_mut-standing.result.now c.begin.new.standing c.begin.new.state.machine c.self.view_is free c.in_ok-reach.ensures.reached index c.index_mut-standing.ensures.value c.in_default.ensures.0 c.truncate.ensures.items (c.len-count.ensures ∙ c.self.inside.places.ok.0) c.in_default.ensures.1
