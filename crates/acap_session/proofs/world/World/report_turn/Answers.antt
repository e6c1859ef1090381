use Rattle.std.proofs.Common.{◌<◌, sym, subst, ◌∙◌}
use Rattle.acap_session.specs.Turning.{scene}
use Rattle.acap_session.specs.contracts.world.World.{the_view}
use Rattle.acap_session.proofs.Placing.{is_within, none_there, now_open, open_there, put_is, report_made, report_cut}
use Rattle.acap_session.proofs.world.World.report_turn.Goals.{in-Ok, in-Err}
use Rattle.acap_session.proofs.world.World.report_turn.Goals as goal

pub index_mut-requires : goal.index_mut-requires
index_mut-requires g c = subst (λ n. c.from-index.result < n) (sym c.self.inside.places.ok.0) (is_within (the_view c.self.inside) c.from-index.result c.args.occasion.seat (c.from-index.ensures ∙ c.number.ensures.value) (now_open (the_view c.self.inside) c.args.self.now c.args.occasion.seat c.is_open.result c.self.view_is c.if-not-is_open.false c.is_open.ensures))

pub returns-after-report_turn : goal.returns-after-report_turn
returns-after-report_turn g c =
    let open_ = now_open (the_view c.self.inside) c.args.self.now c.args.occasion.seat c.is_open.result c.self.view_is c.if-not-is_open.false c.is_open.ensures in
    let there = open_there (the_view c.self.inside) c.from-index.result c.args.occasion.seat c.index_mut.result.now c.index_mut.result.now c.in-Some.place (c.from-index.ensures ∙ c.number.ensures.value) open_ c.index_mut.ensures.value c.in-Some.is in
    let put = put_is (the_view c.self.inside) c.report_turn.new.state.machine c.from-index.result c.args.occasion.seat c.report_turn.new.self (c.from-index.ensures ∙ c.number.ensures.value) open_ in
    elim c.match-report_turn.branch [
      | in-Ok w ↦ report_made c.args.self.now (the_view c.self.inside) _ c.args.occasion c.in-Some.place (scene c.report_turn.new.state.machine c.report_turn.new.self.talk c.report_turn.new.self.out) _ c.match-report_turn.result c.self.view_is there put w.result-is w.in-Ok.ensures
      | in-Err w ↦ report_cut c.args.self.now (the_view c.self.inside) _ c.args.occasion c.in-Some.place (scene c.report_turn.new.state.machine c.report_turn.new.self.talk c.report_turn.new.self.out) c.match-report_turn.result c.self.view_is there put w.result-is w.in-Err.ensures
    ]

pub returns-in-None : goal.returns-in-None
returns-in-None g c =
    absurd (none_there (the_view c.self.inside) c.from-index.result c.args.occasion.seat c.index_mut.result.now c.index_mut.result.now (c.from-index.ensures ∙ c.number.ensures.value) (now_open (the_view c.self.inside) c.args.self.now c.args.occasion.seat c.is_open.result c.self.view_is c.if-not-is_open.false c.is_open.ensures) c.index_mut.ensures.value c.in-None.is)
