use Rattle.std.proofs.Common.{◌≡◌, ◌++◌, ◌∷◌, [], sym, ◌∙◌, map}
use Rattle.acap_store.specs.Writing as writing
use Rattle.acap_store.proofs.DatasetLemmas.{octets_same}
use Rattle.acap_store.proofs.TwiceLemmas.{not_false}
use Rattle.acap_store.proofs.WriteLemmas.{last_entry}
use Rattle.acap_store.proofs.StepLemmas.{put_again, made_before}
use Rattle.acap_store.proofs.missing.steps_for.Goals as goal

pub loop-entry-preserved-in_ok-write_steps : goal.loop-entry-preserved-in_ok-write_steps
loop-entry-preserved-in_ok-write_steps c =
    let whole : c.loop-entry.left.now ≡ c.in-Some.others.now ++ c.in-Some.entry.now ∷ [] = c.in-Some.ensures.cases.0 in
    record {
      steps = rw (c.in_ok-write_steps.ensures, c.as_slice-dataset.ensures.value, last_entry, ← whole) c.loop-entry.invariant.steps;
      made = rw c.in_ok-write_steps.ensures (put_again _ c.loop-entry.writes);
    }

pub loop-entry-preserved : goal.loop-entry-preserved
loop-entry-preserved c =
    let whole : c.loop-entry.left.now ≡ c.in-Some.others.now ++ c.in-Some.entry.now ∷ [] = c.in-Some.ensures.cases.0 in
    let step = writing.step_at c.args.tree.now.store.records c.args.moment in
    let same : c.in-Some.entry.now.path.dataset ≡ c.loop-entry.done.now = sym c.as_slice-dataset.ensures.value ∙ octets_same _ _ (not_false _ (sym c.if-ne.false ∙ c.ne.ensures)) in
    let made : writing.put_all (map step (writing.missing_to c.args.tree.now.store.records c.in-Some.entry.now.path.dataset)) c.loop-entry.writes ≡ c.loop-entry.writes = rw same c.loop-entry.invariant.made in
    record {
      steps = sym (made_before c.args.tree.now.store.records step c.in-Some.others.now c.in-Some.entry.now c.loop-entry.writes made) ∙ rw (← whole) c.loop-entry.invariant.steps;
      made = c.loop-entry.invariant.made;
    }
