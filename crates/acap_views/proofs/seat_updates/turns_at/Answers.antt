use Rattle.std.proofs.Common.{◌≡◌, ◌+◌, take, sym, ap, ◌∙◌, map as each}
use Rattle.std.proofs.lemmas.List.{take_all}
use Rattle.std.specs.List.{sum_by}
use Rattle.acap_search.specs.Counting.{IsCounted}
use Rattle.acap_views.specs.Keeping.{RoomyOccupant, occupant_in}
use Rattle.acap_views.specs.Plans.{work_at, unless_still}
use Rattle.acap_views.proofs.TurnLemmas.{work_there, shifts_there, work_listed, turns_listed, part_counted, counted_within, counted_err}
use Rattle.acap_views.proofs.seat_updates.turns_at.Goals as goal

pub returns-in_err-turn_of-clause-count : goal.returns-in_err-turn_of-clause-count
returns-in_err-turn_of-clause-count g c =
    let plan = c.args.view.now in
    let items = c.deref-entry-items.result.now in
    let whole : work_at c.args.view.now (occupant_in c.args.sitting.now) ≡ sum_by (work_there plan) items = work_listed c.args.view.now c.sitting.inside.contexts.items c.args.sitting.now c.sitting.invariant (ap (λ (o : RoomyOccupant). o.contexts) c.sitting.view_is) ∙ ap (sum_by (work_there plan)) (sym c.deref-entry-items.ensures.value) in
    let counted : IsCounted c.turn_of.result c.loop-entry.steps c.turn_of.new.steps (work_there plan c.entry-item.result) =
    c.turn_of.ensures.count in
    counted_err c.from_residual-in_err-turn_of.result c.args.steps.now c.loop-entry.steps c.turn_of.new.steps (work_there plan c.entry-item.result) (sum_by (work_there plan) (take c.loop-entry.entry-index items)) _ (sum_by (work_there plan) items)
    c.from_residual-in_err-turn_of.ensures.0 c.loop-entry.invariant.steps (counted_within c.turn_of.result c.loop-entry.steps c.turn_of.new.steps _ counted)
    (part_counted (work_there plan) items c.loop-entry.entry-index c.entry-item.result c.loop-entry-test.true c.entry-item.is) whole

pub returns-in_err-push-clause-count : goal.returns-in_err-push-clause-count
returns-in_err-push-clause-count g c =
    let plan = c.args.view.now in
    let items = c.deref-entry-items.result.now in
    let whole : work_at c.args.view.now (occupant_in c.args.sitting.now) ≡ sum_by (work_there plan) items = work_listed c.args.view.now c.sitting.inside.contexts.items c.args.sitting.now c.sitting.invariant (ap (λ (o : RoomyOccupant). o.contexts) c.sitting.view_is) ∙ ap (sum_by (work_there plan)) (sym c.deref-entry-items.ensures.value) in
    let counted : IsCounted c.turn_of.result c.loop-entry.steps c.turn_of.new.steps (work_there plan c.entry-item.result) =
    c.turn_of.ensures.count in
    counted_err c.from_residual-in_err-push.result c.args.steps.now c.loop-entry.steps c.turn_of.new.steps (work_there plan c.entry-item.result) (sum_by (work_there plan) (take c.loop-entry.entry-index items)) _ (sum_by (work_there plan) items)
    c.from_residual-in_err-push.ensures.0 c.loop-entry.invariant.steps (counted_within c.turn_of.result c.loop-entry.steps c.turn_of.new.steps _ counted)
    (part_counted (work_there plan) items c.loop-entry.entry-index c.entry-item.result c.loop-entry-test.true c.entry-item.is) whole

pub returns-clause-count : goal.returns-clause-count
returns-clause-count g c =
    let plan = c.args.view.now in
    let items = c.deref-entry-items.result.now in
    let whole : work_at c.args.view.now (occupant_in c.args.sitting.now) ≡ sum_by (work_there plan) items = work_listed c.args.view.now c.sitting.inside.contexts.items c.args.sitting.now c.sitting.invariant (ap (λ (o : RoomyOccupant). o.contexts) c.sitting.view_is) ∙ ap (sum_by (work_there plan)) (sym c.deref-entry-items.ensures.value) in
    c.loop-entry.invariant.steps ∙ ap (λ n. c.args.steps.now + n) (ap (sum_by (work_there plan)) (take_all c.loop-entry.entry-index items c.loop-entry-test.false) ∙ sym whole)

pub returns-clause-work : goal.returns-clause-work
returns-clause-work g c =
    let plan = c.args.view.now in
    let items = c.deref-entry-items.result.now in
    c.loop-entry.invariant.work ∙ ap (λ n. c.args.work.now + n) (ap (sum_by (work_there plan)) (take_all c.loop-entry.entry-index items c.loop-entry-test.false ∙ c.deref-entry-items.ensures.value)
    ∙ sym (work_listed c.args.view.now c.sitting.inside.contexts.items c.args.sitting.now c.sitting.invariant (ap (λ (o : RoomyOccupant). o.contexts) c.sitting.view_is)))

pub returns-clause-turns : goal.returns-clause-turns
returns-clause-turns g c =
    let items = c.deref-entry-items.result.now in
    c.trim.ensures ∙ (ap unless_still (c.from_vec.ensures ∙ (c.loop-entry.invariant.turns
    ∙ ap (each (shifts_there c.args.view.now c.args.sitting.now.user)) (take_all c.loop-entry.entry-index items c.loop-entry-test.false ∙ c.deref-entry-items.ensures.value)))
    ∙ sym (turns_listed c.args.view.now c.sitting.inside.contexts.items c.args.sitting.now c.sitting.invariant (ap (λ (o : RoomyOccupant). o.contexts) c.sitting.view_is)))
