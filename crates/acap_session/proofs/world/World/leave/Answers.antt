use Rattle.std.proofs.Common.{◌<◌, sym, subst, ◌∙◌}
use Rattle.acap_session.specs.Turning.{scene}
use Rattle.acap_session.specs.contracts.world.World.{the_view}
use Rattle.acap_session.proofs.Placing.{is_within, none_there, now_open, open_there, put_is, leave_made}
use Rattle.acap_session.proofs.world.World.leave.Goals as goal

pub index_mut-requires : goal.index_mut-requires
index_mut-requires g c = subst (λ n. c.from-index.result < n) (sym c.self.inside.places.ok.0) (is_within (the_view c.self.inside) c.from-index.result c.args.seat (c.from-index.ensures ∙ c.number.ensures.value) (now_open (the_view c.self.inside) c.args.self.now c.args.seat c.is_open.result c.self.view_is c.if-not-is_open.false c.is_open.ensures))

pub returns-in-None : goal.returns-in-None
returns-in-None g c =
    absurd (none_there (the_view c.self.inside) c.from-index.result c.args.seat c.index_mut.result.now c.index_mut.result.now (c.from-index.ensures ∙ c.number.ensures.value) (now_open (the_view c.self.inside) c.args.self.now c.args.seat c.is_open.result c.self.view_is c.if-not-is_open.false c.is_open.ensures) c.index_mut.ensures.value c.in-None.is)

pub returns-in-Some : goal.returns-in-Some
returns-in-Some g c =
    let open_ = now_open (the_view c.self.inside) c.args.self.now c.args.seat c.is_open.result c.self.view_is c.if-not-is_open.false c.is_open.ensures in
    let there = open_there (the_view c.self.inside) c.from-index.result c.args.seat c.index_mut.result.now c.index_mut.result.now c.in-Some.place (c.from-index.ensures ∙ c.number.ensures.value) open_ c.index_mut.ensures.value c.in-Some.is in
    let put = put_is (the_view c.self.inside) c.end.new.state.machine c.from-index.result c.args.seat c.end.new.self (c.from-index.ensures ∙ c.number.ensures.value) open_ in
    leave_made c.args.self.now (the_view c.self.inside) _ (record { seat = c.args.seat; clock = c.args.now; nonce = 0 }) c.in-Some.place (scene c.end.new.state.machine c.end.new.self.talk c.end.new.self.out) c.self.view_is there put c.end.ensures
