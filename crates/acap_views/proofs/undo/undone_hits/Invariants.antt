use Rattle.std.proofs.Common.{◌≡◌, ◌≤◌, drop, length}
use Rattle.acap_moves.specs.Moves.{all_undone}
use Rattle.acap_views.specs.Undoing.{matches_lent}
use Rattle.acap_views.proofs.undo.undone_hits.Given as goal

abbrev pub invariant-loop-left : goal.invariant-loop-left
invariant-loop-left l = record {
  undone : matches_lent l.hits.items ≡ all_undone (drop l.left l.undos.items) l.now.0;
  within : l.left ≤ length l.undos.items;
}

abbrev pub decreases-loop-left : goal.decreases-loop-left
decreases-loop-left l = l.left
