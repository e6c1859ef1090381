use Rattle.std.proofs.Common.{◌++◌, ◌∙◌, ap}
use Rattle.acap_views.specs.Undoing.{matches_lent}
use Rattle.acap_views.proofs.UndoLemmas.{one_lent}
use Rattle.acap_views.proofs.undo.list_placed.Goals as goal

pub loop-placed-preserved : goal.loop-placed-preserved
loop-placed-preserved c = record {
  made = ap (λ xs. matches_lent xs ++ c.next.new.self) c.in_ok-push.ensures.items
      ∙ one_lent c.loop-placed.hits.items c.hit.result _ c.next.new.self _ _ c.hit.ensures c.in-Some.ensures.steps c.loop-placed.invariant.made;
}
