use Rattle.std.proofs.Common.{◌≡◌, ◌+◌, take, sym, ap, ◌∙◌, map as each}
use Rattle.std.proofs.lemmas.List.{take_all}
use Rattle.std.specs.List.{sum_by}
use Rattle.acap_views.specs.Keeping.{seats_in}
use Rattle.acap_views.specs.Plans.{work_of}
use Rattle.acap_views.proofs.TurnLemmas.{seat_work, seat_turns, seats_work, seats_turns, part_counted, counted_within, counted_err}
use Rattle.acap_views.proofs.views.Views.all_turns.Goals as goal

pub returns-in_err-turns_of-clause-count : goal.returns-in_err-turns_of-clause-count
returns-in_err-turns_of-clause-count g c =
    let plan = c.args.ahead.now in
    let items = c.deref-entry-items.result.now in
    let whole : work_of c.args.ahead.now (seats_in c.args.self.now) ≡ sum_by (seat_work plan) items = seats_work c.args.ahead.now c.self.inside.seats.items (seats_in c.args.self.now) c.self.invariant (ap seats_in c.self.view_is) ∙ ap (sum_by (seat_work plan)) (sym c.deref-entry-items.ensures.value) in
    counted_err c.from_residual-in_err-turns_of.result c.args.steps.now c.loop-entry.steps c.turns_of.new.steps (seat_work plan c.entry-item.result) (sum_by (seat_work plan) (take c.loop-entry.entry-index items)) _ (sum_by (seat_work plan) items)
    c.from_residual-in_err-turns_of.ensures.0 c.loop-entry.invariant.steps (counted_within c.turns_of.result c.loop-entry.steps c.turns_of.new.steps _ c.turns_of.ensures.count)
    (part_counted (seat_work plan) items c.loop-entry.entry-index c.entry-item.result c.loop-entry-test.true c.entry-item.is) whole

pub returns-in_err-push-clause-count : goal.returns-in_err-push-clause-count
returns-in_err-push-clause-count g c =
    let plan = c.args.ahead.now in
    let items = c.deref-entry-items.result.now in
    let whole : work_of c.args.ahead.now (seats_in c.args.self.now) ≡ sum_by (seat_work plan) items = seats_work c.args.ahead.now c.self.inside.seats.items (seats_in c.args.self.now) c.self.invariant (ap seats_in c.self.view_is) ∙ ap (sum_by (seat_work plan)) (sym c.deref-entry-items.ensures.value) in
    counted_err c.from_residual-in_err-push.result c.args.steps.now c.loop-entry.steps c.turns_of.new.steps (seat_work plan c.entry-item.result) (sum_by (seat_work plan) (take c.loop-entry.entry-index items)) _ (sum_by (seat_work plan) items)
    c.from_residual-in_err-push.ensures.0 c.loop-entry.invariant.steps (counted_within c.turns_of.result c.loop-entry.steps c.turns_of.new.steps _ c.turns_of.ensures.count)
    (part_counted (seat_work plan) items c.loop-entry.entry-index c.entry-item.result c.loop-entry-test.true c.entry-item.is) whole

pub returns-clause-count : goal.returns-clause-count
returns-clause-count g c =
    let plan = c.args.ahead.now in
    let items = c.deref-entry-items.result.now in
    let whole : work_of c.args.ahead.now (seats_in c.args.self.now) ≡ sum_by (seat_work plan) items = seats_work c.args.ahead.now c.self.inside.seats.items (seats_in c.args.self.now) c.self.invariant (ap seats_in c.self.view_is) ∙ ap (sum_by (seat_work plan)) (sym c.deref-entry-items.ensures.value) in
    c.loop-entry.invariant.steps ∙ ap (λ n. c.args.steps.now + n) (ap (sum_by (seat_work plan)) (take_all c.loop-entry.entry-index items c.loop-entry-test.false) ∙ sym whole)

pub returns-clause-work : goal.returns-clause-work
returns-clause-work g c =
    let plan = c.args.ahead.now in
    let items = c.deref-entry-items.result.now in
    c.loop-entry.invariant.work ∙ ap (λ n. c.args.work.now + n) (ap (sum_by (seat_work plan)) (take_all c.loop-entry.entry-index items c.loop-entry-test.false ∙ c.deref-entry-items.ensures.value)
    ∙ sym (seats_work c.args.ahead.now c.self.inside.seats.items (seats_in c.args.self.now) c.self.invariant (ap seats_in c.self.view_is)))

pub returns-clause-turns : goal.returns-clause-turns
returns-clause-turns g c =
    let items = c.deref-entry-items.result.now in
    c.from_vec.ensures ∙ (c.loop-entry.invariant.turns
    ∙ (ap (each (seat_turns c.args.ahead.now)) (take_all c.loop-entry.entry-index items c.loop-entry-test.false ∙ c.deref-entry-items.ensures.value)
    ∙ sym (seats_turns c.args.ahead.now c.self.inside.seats.items (seats_in c.args.self.now) c.self.invariant (ap seats_in c.self.view_is))))
