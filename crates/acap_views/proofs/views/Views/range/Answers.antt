use Rattle.std.proofs.Common.{◌≡◌, Some, None, Ok, Err, sym, ap, subst, ◌∙◌}
use Rattle.std.specs.FinMap as table
use Rattle.std.specs.Result.{IfOk, IfErr}
use Rattle.acap_views.specs.Contexts.{Contexts}
use Rattle.acap_views.specs.Keeping.{seats_in}
use Rattle.acap_views.specs.Ranging.{range_at, ranged_of, ranged_if}
use Rattle.acap_views.specs.Started.{as_ranged}
use Rattle.acap_views.proofs.KeepingLemmas.{get_listed}
use Rattle.acap_views.proofs.views.Views.range.Goals as goal

pub returns-in-Some-clause-ok : goal.returns-in-Some-clause-ok
returns-in-Some-clause-ok c =
    let context = c.in-Some.context.now.context in
    let found : range_at (seats_in c.args.self.now) c.args.seat c.args.name.now ≡ ranged_if context context.kept =
    ap ranged_of (ap (λ (cs : Contexts). table.get cs c.args.name.now) (sym c.contexts.ensures.value)
    ∙ get_listed c.contexts.result.now c.args.name.now (Some c.in-Some.context.now) c.contexts.ensures.order c.in-Some.ensures) in
    subst (λ r. IfOk c.lend.result (λ lent. r ≡ Ok (as_ranged lent))) (sym found) c.lend.ensures.ok

pub returns-in-Some-clause-refused : goal.returns-in-Some-clause-refused
returns-in-Some-clause-refused c =
    let context = c.in-Some.context.now.context in
    let found : range_at (seats_in c.args.self.now) c.args.seat c.args.name.now ≡ ranged_if context context.kept =
    ap ranged_of (ap (λ (cs : Contexts). table.get cs c.args.name.now) (sym c.contexts.ensures.value)
    ∙ get_listed c.contexts.result.now c.args.name.now (Some c.in-Some.context.now) c.contexts.ensures.order c.in-Some.ensures) in
    subst (λ r. IfErr c.lend.result (λ why. r ≡ Err why)) (sym found) c.lend.ensures.refused

pub returns-in-None-clause-refused : goal.returns-in-None-clause-refused
returns-in-None-clause-refused c =
    ap ranged_of (ap (λ (cs : Contexts). table.get cs c.args.name.now) (sym c.contexts.ensures.value)
    ∙ get_listed c.contexts.result.now c.args.name.now None c.contexts.ensures.order c.in-None.ensures)
