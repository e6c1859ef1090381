use Rattle.std.proofs.Common.{◌≡◌, [], sym, ◌∙◌, arith}
use Rattle.acap_views.specs.Keeping.{occupant_in}
use Rattle.acap_views.specs.Plans.{work_at}
use Rattle.acap_views.proofs.SilentLemmas.{no_work, no_turns}
use Rattle.acap_views.proofs.TurnLemmas.{work_listed, turns_listed}
use Rattle.acap_views.proofs.seat_updates.turns_of.Goals as goal

pub returns-then-not-some_may_look-clause-count : goal.returns-then-not-some_may_look-clause-count
returns-then-not-some_may_look-clause-count g c =
    let plan = c.args.ahead.now in
    let none : work_at plan (occupant_in c.args.sitting.now) ≡ 0 =
    work_listed plan c.contexts.result.now c.args.sitting.now c.contexts.ensures.order c.contexts.ensures.value ∙ no_work plan [] c.contexts.result.now (c.some_may_look.ensures c.if-not-some_may_look.true) in
    omega (arith, none)

pub returns-then-not-some_may_look-clause-work : goal.returns-then-not-some_may_look-clause-work
returns-then-not-some_may_look-clause-work g c =
    let plan = c.args.ahead.now in
    let none : work_at plan (occupant_in c.args.sitting.now) ≡ 0 =
    work_listed plan c.contexts.result.now c.args.sitting.now c.contexts.ensures.order c.contexts.ensures.value ∙ no_work plan [] c.contexts.result.now (c.some_may_look.ensures c.if-not-some_may_look.true) in
    omega (arith, none)

pub returns-then-not-some_may_look-clause-turns : goal.returns-then-not-some_may_look-clause-turns
returns-then-not-some_may_look-clause-turns g c =
    let plan = c.args.ahead.now in
    c.new.ensures
    ∙ (no_turns plan c.args.sitting.now.user c.contexts.result.now (c.some_may_look.ensures c.if-not-some_may_look.true)
    ∙ sym (turns_listed plan c.contexts.result.now c.args.sitting.now c.contexts.ensures.order c.contexts.ensures.value))
