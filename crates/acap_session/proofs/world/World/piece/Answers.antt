use Rattle.std.proofs.Common.{◌<◌, Ok, refl, sym, subst, ◌∙◌}
use Rattle.acap_session.specs.contracts.world.World.{the_view}
use Rattle.acap_session.proofs.Placing.{is_within, none_there, now_open, open_there, put_is, put_back, fed, not_fed, memory_said}
use Rattle.acap_session.proofs.world.World.piece.Goals as goal

pub index_mut-requires : goal.index_mut-requires
index_mut-requires c = subst (λ n. c.from-index.result < n) (sym c.self.inside.places.ok.0) (is_within (the_view c.self.inside) c.from-index.result c.args.seat (c.from-index.ensures ∙ c.number.ensures.value) (now_open (the_view c.self.inside) c.args.self.now c.args.seat c.is_open.result c.self.view_is c.if-not-is_open.false c.is_open.ensures))

pub returns-in_default : goal.returns-in_default
returns-in_default c =
    absurd (none_there (the_view c.self.inside) c.from-index.result c.args.seat c.index_mut.result.now c.index_mut.result.now (c.from-index.ensures ∙ c.number.ensures.value) (now_open (the_view c.self.inside) c.args.self.now c.args.seat c.is_open.result c.self.view_is c.if-not-is_open.false c.is_open.ensures) c.index_mut.ensures.value c.in_default.is)

pub returns : goal.returns
returns c =
    let open_ = now_open (the_view c.self.inside) c.args.self.now c.args.seat c.is_open.result c.self.view_is c.if-not-is_open.false c.is_open.ensures in
    let there = open_there (the_view c.self.inside) c.from-index.result c.args.seat c.index_mut.result.now c.index_mut.result.now c.in-Some.place (c.from-index.ensures ∙ c.number.ensures.value) open_ c.index_mut.ensures.value c.in-Some.is in
    let put = put_is (the_view c.self.inside) c.self.inside.state.machine c.from-index.result c.args.seat c.push.new.self (c.from-index.ensures ∙ c.number.ensures.value) open_ in
    fed c.args.self.now (the_view c.self.inside) _ c.args.octets.now c.args.seat c.in_ok-taken.taken c.in-Some.place c.push.new.self (Ok c.in_ok-taken.taken) c.self.view_is there put refl c.in_ok-taken.ensures.taken c.in_ok-taken.ensures.held

pub returns-in_err-taken : goal.returns-in_err-taken
returns-in_err-taken c =
    let open_ = now_open (the_view c.self.inside) c.args.self.now c.args.seat c.is_open.result c.self.view_is c.if-not-is_open.false c.is_open.ensures in
    let there = open_there (the_view c.self.inside) c.from-index.result c.args.seat c.index_mut.result.now c.index_mut.result.now c.in-Some.place (c.from-index.ensures ∙ c.number.ensures.value) open_ c.index_mut.ensures.value c.in-Some.is in
    not_fed c.args.self.now (the_view c.self.inside) _ c.args.octets.now c.args.seat c.in-Some.place c.push.new.self c.from_residual.result c.self.view_is there (put_back (the_view c.self.inside) c.from-index.result c.args.seat c.index_mut.result.now c.index_mut.result.now c.in-Some.place c.push.new.self (c.from-index.ensures ∙ c.number.ensures.value) open_ c.index_mut.ensures.value c.in-Some.is c.in_err-taken.ensures.err) (memory_said c.from_residual.result c.from_residual.ensures.0 c.from_residual.ensures.1)
