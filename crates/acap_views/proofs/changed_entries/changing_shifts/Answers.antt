use Rattle.std.proofs.Common.{◌≡◌, ◌∙◌, ap, sym, arith, length, ◌++◌, map as each}
use Rattle.std.specs.List.{cons_option, filter}
use Rattle.acap_views.specs.ContextViews.{shift_in}
use Rattle.acap_views.specs.EntryUpdates.{has_changed, until_full}
use Rattle.acap_views.proofs.LoopUpdateLemmas.{left_out, put_in, first_due, none_if}
use Rattle.acap_views.proofs.changed_entries.changing_shifts.Goals as goal

pub loop-path-preserved-then-count-gt-NOTICES_PENDING : goal.loop-path-preserved-then-count-gt-NOTICES_PENDING
loop-path-preserved-then-count-gt-NOTICES_PENDING g c =
    let due = has_changed c.args.watch.now.present in
    record {
      field = c.loop-path.invariant.field;
      hits = c.loop-path.invariant.hits;
      shifts = left_out c.args.watch.now.present c.loop-path.count c.loop-path.shifts.items _ (filter due (each (shift_in c.args.field.now) c.next.new.self.rest.items))
          (filter due (each (shift_in c.args.field.now) c.loop-path.path-iterator.rest.items)) (omega (arith, c.if-count-gt-NOTICES_PENDING.true)) c.loop-path.invariant.shifts;
      count = omega (arith, c.tick.ensures, ap length c.in-Some.ensures.steps.0, c.loop-path.invariant.count);
      least = omega (arith, c.tick.ensures, c.loop-path.invariant.least);
    }

pub loop-path-preserved-then-count-gt-NOTICES_PENDING-2 : goal.loop-path-preserved-then-count-gt-NOTICES_PENDING-2
loop-path-preserved-then-count-gt-NOTICES_PENDING-2 g c =
    let due = has_changed c.args.watch.now.present in
    record {
      field = c.loop-path.invariant.field;
      hits = c.loop-path.invariant.hits;
      shifts = left_out c.args.watch.now.present c.loop-path.count c.loop-path.shifts.items _ (filter due (each (shift_in c.args.field.now) c.next.new.self.rest.items))
          (filter due (each (shift_in c.args.field.now) c.loop-path.path-iterator.rest.items)) (omega (arith, c.if-count-gt-NOTICES_PENDING.true)) c.loop-path.invariant.shifts;
      count = omega (arith, c.tick.ensures, ap length c.in-Some.ensures.steps.0, c.loop-path.invariant.count);
      least = omega (arith, c.tick.ensures, c.loop-path.invariant.least);
    }

pub loop-path-preserved-in-Continue-branch-3 : goal.loop-path-preserved-in-Continue-branch-3
loop-path-preserved-in-Continue-branch-3 g c =
    let matches = c.args.watch.now.present in
    let rest = filter (has_changed matches) (each (shift_in c.args.field.now) c.next.new.self.rest.items) in
    let shifts = filter (has_changed matches) (each (shift_in c.args.field.now) c.loop-path.path-iterator.rest.items) in
    let first : shifts ≡ cons_option c.in_ok-shift.field-0 rest =
    first_due matches c.loop-path.hits c.args.field.now c.loop-path.field c.in-Some.path c.next.new.self.rest.items _ c.in_ok-shift.field-0
    c.loop-path.invariant.hits c.loop-path.invariant.field c.in-Some.ensures.steps.0 c.in_ok-shift.ensures.shift in
    record {
      field = c.in_ok-shift.ensures.field ∙ c.loop-path.invariant.field;
      hits = c.in_ok-shift.ensures.hits ∙ c.loop-path.invariant.hits;
      shifts = put_in matches c.loop-path.count c.count_on-count.result c.loop-path.shifts.items c.push.new.self.items _ c.in-Some-2.shift rest shifts
          (omega (arith, c.if-count-gt-NOTICES_PENDING.false)) (first ∙ ap (λ made. cons_option made rest) c.in-Some-2.is) c.in_ok-push.ensures.items c.count_on-count.ensures c.loop-path.invariant.shifts;
      count = omega (arith, c.in_ok-shift.ensures.count, ap length c.in-Some.ensures.steps.0, c.loop-path.invariant.count);
      least = omega (arith, c.in_ok-shift.ensures.least, c.loop-path.invariant.least);
    }

pub loop-path-preserved : goal.loop-path-preserved
loop-path-preserved g c =
    let matches = c.args.watch.now.present in
    let rest = filter (has_changed matches) (each (shift_in c.args.field.now) c.next.new.self.rest.items) in
    let shifts = filter (has_changed matches) (each (shift_in c.args.field.now) c.loop-path.path-iterator.rest.items) in
    let left : shifts ≡ rest =
    first_due matches c.loop-path.hits c.args.field.now c.loop-path.field c.in-Some.path c.next.new.self.rest.items _ c.in_ok-shift.field-0
    c.loop-path.invariant.hits c.loop-path.invariant.field c.in-Some.ensures.steps.0 c.in_ok-shift.ensures.shift
    ∙ ap (λ made. cons_option made rest) (none_if c.in_ok-shift.field-0 c.in_default.not-Some) in
    record {
      field = c.in_ok-shift.ensures.field ∙ c.loop-path.invariant.field;
      hits = c.in_ok-shift.ensures.hits ∙ c.loop-path.invariant.hits;
      shifts = sym (ap (λ ss. c.loop-path.shifts.items ++ until_full matches c.loop-path.count ss) left) ∙ c.loop-path.invariant.shifts;
      count = omega (arith, c.in_ok-shift.ensures.count, ap length c.in-Some.ensures.steps.0, c.loop-path.invariant.count);
      least = omega (arith, c.in_ok-shift.ensures.least, c.loop-path.invariant.least);
    }
