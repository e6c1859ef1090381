use Rattle.std.proofs.Common.{◌≡◌, List, append_assoc, arith, length, sym, ◌∙◌, ap, ◌∷◌, [], ◌++◌, map as each}
use Rattle.acap_views.specs.ContextViews.{ContextView, shift_in}
use Rattle.acap_views.specs.EntryUpdates.{EntryUpdate}
use Rattle.acap_views.proofs.entry_updates.all_shifts.Goals as goal

pub loop-path-preserved : goal.loop-path-preserved
loop-path-preserved g c =
    let made = c.loop-path.shifts.items in
    let rest = each (shift_in c.args.field.now) c.next.new.self.rest.items in
    let shift : c.in_ok-shift_at.field-0 ≡ shift_in c.args.field.now c.in-Some.path =
    c.in_ok-shift_at.ensures.shift ∙ ap (λ (f : ContextView). shift_in f c.in-Some.path) c.loop-path.invariant.field in
    let pushed : c.push.new.self.items ≡ made ++ shift_in c.args.field.now c.in-Some.path ∷ [] =
    c.in_ok-push.ensures.items ∙ ap (λ s. made ++ s ∷ []) shift in
    record {
      field = c.in_ok-shift_at.ensures.same ∙ c.loop-path.invariant.field;
      shifts = ap (λ (ss : List EntryUpdate). ss ++ rest) pushed
          ∙ (append_assoc made (shift_in c.args.field.now c.in-Some.path ∷ []) rest
          ∙ (ap (λ paths. made ++ each (shift_in c.args.field.now) paths) (sym c.in-Some.ensures.steps.0) ∙ c.loop-path.invariant.shifts));
      count = omega (arith, c.in_ok-shift_at.ensures.count, ap length c.in-Some.ensures.steps.0, c.loop-path.invariant.count);
      least = omega (arith, c.in_ok-shift_at.ensures.least, c.loop-path.invariant.least);
    }
