use Rattle.std.proofs.Common.{sym, ◌∙◌, ap, arith}
use Rattle.acap_moves.specs.Moves.{all_undone}
use Rattle.acap_views.specs.Undoing.{matches_lent}
use Rattle.acap_views.proofs.UndoLemmas.{none_behind, next_undone}
use Rattle.acap_views.proofs.undo.undone_hits.Goals as goal

pub loop-left-init : goal.loop-left-init
loop-left-init c = record {
  undone = c.in_ok-hits.ensures ∙ sym (ap (λ us. all_undone us c.args.now.now.0) (none_behind c.args.undos.now.items c.len-left.result (omega (arith, c.len-left.ensures, c.args.undos.now.ok))));
  within = omega (arith, c.len-left.ensures, c.args.undos.now.ok);
}

pub loop-left-preserved : goal.loop-left-preserved
loop-left-preserved c = record {
  undone = next_undone c.args.undos.now.items c.loop-left.left c.index.result.now c.args.now.now.0 (matches_lent c.loop-left.hits.items) (matches_lent c.undo.new.hits.items)
      (omega (arith, c.loop-left.invariant.within, c.loop-left-test.true)) c.index.ensures (omega (arith, c.loop-left-test.true)) c.loop-left.invariant.undone c.in_ok-undo.ensures;
  within = omega (arith, c.loop-left.invariant.within);
}
