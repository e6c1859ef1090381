use Rattle.std.proofs.Common.{subst, ◌∙◌}
use Rattle.acap_lexer.specs.declared.outcomes.Due.TheVariants as dues
use Rattle.acap_lexer.specs.declared.lexed.Mode.{Mode}
use Rattle.acap_lexer.specs.Scanning.{IsDue, Stays, GoesOn, stage_of}
use Rattle.acap_lexer.specs.Stream.{step_of}
use Rattle.acap_lexer.proofs.Reaching.{plus_due, more_due, item_due, reaches_goes}
use Rattle.acap_lexer.proofs.advance.advance.Goals as goal

pub returns-then-told-scan-clause-due : goal.returns-then-told-scan-clause-due
returns-then-told-scan-clause-due c =
    let so_far = c.stages.invariant in
    subst (λ (m : Mode). IsDue m c.args.told c.args.text.now dues.Plus) so_far.mode (plus_due _ c.stages.scan _ so_far.reaches c.if-told-scan.true)

pub returns-in-Waits-clause-due : goal.returns-in-Waits-clause-due
returns-in-Waits-clause-due c =
    let so_far = c.stages.invariant in
    let stays : Stays (step_of c.stages.scan.mode (stage_of c.stages.scan) c.args.text.now) c.stages.scan c.step.new.scan = rw c.in-Waits.is at c.in_ok-step.ensures.turns in
    subst (λ (m : Mode). IsDue m c.args.told c.args.text.now dues.More) so_far.mode (more_due _ _ _ _ so_far.sound so_far.reaches c.if-told-scan.false stays)

pub returns-in-Ends-clause-due : goal.returns-in-Ends-clause-due
returns-in-Ends-clause-due c =
    let so_far = c.stages.invariant in
    subst (λ (m : Mode). IsDue m c.args.told c.args.text.now (dues.Item c.in-Ends.lexed c.in-Ends.taken)) so_far.mode
    (item_due _ _ _ _ _ so_far.sound so_far.reaches c.if-told-scan.false (rw c.in-Ends.is at c.in_ok-step.ensures.turns))

pub stages-preserved : goal.stages-preserved
stages-preserved c =
    let so_far = c.stages.invariant in
    let goes : GoesOn (step_of c.stages.scan.mode (stage_of c.stages.scan) c.args.text.now) c.stages.scan c.step.new.scan = rw c.in-Goes.is at c.in_ok-step.ensures.turns in
    record {
      sound = rw c.in-Goes.is at c.in_ok-step.ensures.sound;
      reaches = reaches_goes _ _ _ so_far.sound so_far.reaches goes;
      mode = goes.mode ∙ so_far.mode;
    }
