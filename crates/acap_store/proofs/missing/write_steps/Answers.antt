use Rattle.std.proofs.Common.{◌≡◌, Some, sym, ◌∙◌}
use Rattle.acap_entries.specs.Names.{own_entry}
use Rattle.acap_entries.proofs.FormLemmas.{own_well_formed}
use Rattle.acap_store.specs.Writing.{step_at}
use Rattle.acap_store.proofs.WriteLemmas.{parent_shorter, way_up}
use Rattle.acap_store.proofs.missing.write_steps.Goals as goal

pub loop-parent-smaller : goal.loop-parent-smaller
loop-parent-smaller c =
    let own : own_entry c.loop-parent.way.now ≡ Some (c.in-Some.parent.now, c.in-Some.field-0-1.now) = sym c.in-Some.ensures.value in
    parent_shorter c.loop-parent.way.now _ own

pub loop-parent-preserved : goal.loop-parent-preserved
loop-parent-preserved c =
    let own : own_entry c.loop-parent.way.now ≡ Some (c.in-Some.parent.now, c.in-Some.field-0-1.now) = sym c.in-Some.ensures.value in
    record {
      formed = (own_well_formed c.loop-parent.way.now (record { dataset = c.in-Some.parent.now; name = c.in-Some.field-0-1.now }) c.loop-parent.invariant.formed own).0.dataset;
      steps = rw (c.in_ok-write_step.ensures, own) (way_up c.args.tree.now.store.records (step_at c.args.tree.now.store.records c.args.moment) c.loop-parent.way.now (c.in-Some.parent.now, c.in-Some.field-0-1.now) c.loop-parent.writes own ∙ c.loop-parent.invariant.steps);
    }
