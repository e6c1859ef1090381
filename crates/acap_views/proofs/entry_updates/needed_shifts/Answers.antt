use Rattle.std.proofs.Common.{◌≡◌, arith, length, ◌∙◌, ap, ◌∷◌, [], ◌++◌, map as each}
use Rattle.acap_views.specs.ContextViews.{ContextView, shift_in}
use Rattle.acap_views.specs.EntryUpdates.{count_with}
use Rattle.acap_views.proofs.LoopUpdateLemmas.{left_out, put_in}
use Rattle.acap_views.proofs.entry_updates.needed_shifts.Goals as goal

pub loop-path-preserved-then-count-gt-NOTICES_PENDING : goal.loop-path-preserved-then-count-gt-NOTICES_PENDING
loop-path-preserved-then-count-gt-NOTICES_PENDING g c = record {
  field = c.loop-path.invariant.field;
  shifts = left_out c.args.watch.now.present c.loop-path.count c.loop-path.shifts.items _ (each (shift_in c.args.field.now) c.next.new.self.rest.items)
      (each (shift_in c.args.field.now) c.loop-path.path-iterator.rest.items) (omega (arith, c.if-count-gt-NOTICES_PENDING.true)) c.loop-path.invariant.shifts;
  count = omega (arith, c.tick.ensures, ap length c.in-Some.ensures.steps.0, c.loop-path.invariant.count);
  least = omega (arith, c.tick.ensures, c.loop-path.invariant.least);
}

pub loop-path-preserved-then-count-gt-NOTICES_PENDING-2 : goal.loop-path-preserved-then-count-gt-NOTICES_PENDING-2
loop-path-preserved-then-count-gt-NOTICES_PENDING-2 g c = record {
  field = c.loop-path.invariant.field;
  shifts = left_out c.args.watch.now.present c.loop-path.count c.loop-path.shifts.items _ (each (shift_in c.args.field.now) c.next.new.self.rest.items)
      (each (shift_in c.args.field.now) c.loop-path.path-iterator.rest.items) (omega (arith, c.if-count-gt-NOTICES_PENDING.true)) c.loop-path.invariant.shifts;
  count = omega (arith, c.tick.ensures, ap length c.in-Some.ensures.steps.0, c.loop-path.invariant.count);
  least = omega (arith, c.tick.ensures, c.loop-path.invariant.least);
}

pub loop-path-preserved : goal.loop-path-preserved
loop-path-preserved g c =
    let shift : c.in_ok-shift.shift ≡ shift_in c.args.field.now c.in-Some.path =
    c.in_ok-shift.ensures.shift ∙ ap (λ (f : ContextView). shift_in f c.in-Some.path) c.loop-path.invariant.field in
    record {
      field = c.in_ok-shift.ensures.same ∙ c.loop-path.invariant.field;
      shifts = put_in c.args.watch.now.present c.loop-path.count c.count_on-count.result c.loop-path.shifts.items c.push.new.self.items _ (shift_in c.args.field.now c.in-Some.path)
          (each (shift_in c.args.field.now) c.next.new.self.rest.items) (each (shift_in c.args.field.now) c.loop-path.path-iterator.rest.items)
          (omega (arith, c.if-count-gt-NOTICES_PENDING.false)) (ap (each (shift_in c.args.field.now)) c.in-Some.ensures.steps.0)
          (c.in_ok-push.ensures.items ∙ ap (λ s. c.loop-path.shifts.items ++ s ∷ []) shift)
          (c.count_on-count.ensures ∙ ap (λ s. count_with c.args.watch.now.present s c.loop-path.count) shift) c.loop-path.invariant.shifts;
      count = omega (arith, c.in_ok-shift.ensures.count, ap length c.in-Some.ensures.steps.0, c.loop-path.invariant.count);
      least = omega (arith, c.in_ok-shift.ensures.least, c.loop-path.invariant.least);
    }
