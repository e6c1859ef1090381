use Rattle.std.proofs.Common.{Global, None, Some, Vec, ap, refl, sym, ℕ, ◌∙◌}
use Rattle.acap_session.specs.contracts.world.World.{the_view}
use Rattle.acap_session.proofs.Placing.{none_said, none_taken, said_there, some_taken, nothing_taken}
use Rattle.acap_session.proofs.world.World.take_output.Goals.{in-Some, in-None}
use Rattle.acap_session.proofs.world.World.take_output.Goals as goal

pub returns-then-len-index-clause-given : goal.returns-then-len-index-clause-given
returns-then-len-index-clause-given c =
    c.new.ensures.items ∙ sym (none_said c.args.self.now (the_view c.self.inside) c.from-index.result c.args.seat c.len.result c.self.view_is (c.from-index.ensures ∙ c.number.ensures.value) c.if-len-index.true (c.len.ensures ∙ c.self.inside.places.ok.0))

pub returns-then-len-index-clause-left : goal.returns-then-len-index-clause-left
returns-then-len-index-clause-left c =
    none_taken c.args.self.now (the_view c.self.inside) c.from-index.result c.args.seat c.len.result c.self.view_is (c.from-index.ensures ∙ c.number.ensures.value) c.if-len-index.true (c.len.ensures ∙ c.self.inside.places.ok.0)

pub returns-clause-given : goal.returns-clause-given
returns-clause-given c =
    let index = c.from-index.ensures ∙ c.number.ensures.value in
    let size = c.len.ensures ∙ c.self.inside.places.ok.0 in
    elim c.match-index_mut.branch [
      | in-Some v ↦ ap (λ (r : Vec ℕ Global). r.items) v.result-is ∙ v.take.ensures.given ∙ said_there c.args.self.now (the_view c.self.inside) c.from-index.result c.args.seat c.len.result c.index_mut.result.now (Some v.in-Some.place) c.self.view_is index c.if-len-index.false size c.index_mut.ensures.value v.in-Some.is
      | in-None v ↦ ap (λ (r : Vec ℕ Global). r.items) v.result-is ∙ v.new-in-None.ensures.items ∙ said_there c.args.self.now (the_view c.self.inside) c.from-index.result c.args.seat c.len.result c.index_mut.result.now None c.self.view_is index c.if-len-index.false size c.index_mut.ensures.value v.in-None.is
    ]

pub returns-clause-left : goal.returns-clause-left
returns-clause-left c =
    let index = c.from-index.ensures ∙ c.number.ensures.value in
    let size = c.len.ensures ∙ c.self.inside.places.ok.0 in
    elim c.match-index_mut.branch [
      | in-Some v ↦ ap the_view v.self-inside-is ∙ some_taken c.args.self.now (the_view c.self.inside) c.from-index.result c.args.seat c.len.result v.in-Some.place v.take.new.self c.index_mut.result.now c.self.view_is index c.if-len-index.false size c.index_mut.ensures.value v.in-Some.is v.take.ensures.left
      | in-None v ↦ ap the_view v.self-inside-is ∙ nothing_taken c.args.self.now (the_view c.self.inside) c.from-index.result c.args.seat c.len.result c.index_mut.result.now c.index_mut.result.now c.self.view_is index c.if-len-index.false size c.index_mut.ensures.value v.in-None.is refl
    ]
