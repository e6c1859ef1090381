use Rattle.std.proofs.Common.{◌≡◌, ◌≤◌, ◌||◌, length, drop, subst}
use Rattle.std.specs.List.{list_any}
use Rattle.acap_inherit.specs.Reaching.{is_known, writes_in}
use Rattle.acap_inherit.proofs.ReachLemmas.{next_write, all_noted}
use Rattle.acap_inherit.proofs.reached.written_datasets.Goals as goal

pub loop-path-preserved : goal.loop-path-preserved
loop-path-preserved c = record {
  known = λ d. next_write c.args.tree.now.store.records c.loop-path.known.items c.note_write.new.known.items c.loop-path-item.result c.entries-path-items.result.now c.loop-path.path-index d c.loop-path-test.true c.loop-path-item.is
      c.in_ok-note_write.ensures (c.loop-path.invariant.known d);
}

pub returns : goal.returns
returns c = λ d.
    let old = c.args.tree.now.store.records in
    all_noted c.args.writes.now old c.loop-path.known.items c.loop-path.path-index d
    (subst (λ es. length es ≤ c.loop-path.path-index) c.entries-path-items.ensures c.loop-path-test.false)
    (subst (λ es. (is_known c.loop-path.known.items d || list_any (λ w. writes_in old w d) (drop c.loop-path.path-index es)) ≡ list_any (λ w. writes_in old w d) es) c.entries-path-items.ensures
    (c.loop-path.invariant.known d))
