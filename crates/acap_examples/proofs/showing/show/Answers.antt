use Rattle.std.proofs.Common.{◌≡◌, [], Option, Some, None, Result, IfOk, refl, sym, subst}
use Rattle.std.specs.Option.{ok_or}
use Rattle.acap_examples.proofs.Stepping.{goes, shows_then}
use Rattle.acap_examples.proofs.showing.show.Goals as goal
use Rattle.acap_examples.specs.Stories.{Shows, telling_of}
use Rattle.acap_examples.specs.declared.story_fault.StoryFault.{StoryFault}
use Rattle.acap_notices.specs.Holding.{Holding}
use Rattle.acap_views.proofs.LoopUpdateLemmas.{none_of}

-- what holds of each thing that is there holds of it in the place of a failure
if_there : (P : Holding → Type 0) (held : Option Holding) (otherwise : StoryFault) → ((h : Holding) → held ≡ Some h → P h) → IfOk (ok_or held otherwise) P
if_there P None otherwise f = tt
if_there P (Some h) otherwise f = f h refl

pub loop-step-preserved : goal.loop-step-preserved
loop-step-preserved g c =
    goes (telling_of c.args.story) c.in-Some.step c.loop-step.step-iterator.rest.items c.next.new.self.rest.items _ c.loop-step.world c.follow.new.world c.loop-step.held _ c.in-Some.ensures.steps.0 c.in_ok-_tells.ensures c.loop-step.invariant

pub returns : goal.returns
returns g c =
    let t = telling_of c.args.story in
    let rest = c.loop-step.step-iterator.rest in
    let none : rest.items ≡ [] = none_of rest.items rest.len (sym rest.ok.0) c.in-None.ensures.steps.0 in
    let held = c.in_ok-tells.after in
    subst (λ (r : Result Holding StoryFault). IfOk r (Shows t)) (sym c.ok_or.ensures.value) (if_there (Shows t) held _
    (λ h is. shows_then t c.in_ok-tells.tells rest.items c.loop-step.world c.follow-2.new.world c.loop-step.held held h refl none c.loop-step.invariant c.in_ok-tells.ensures c.if-not-tells.false is))
