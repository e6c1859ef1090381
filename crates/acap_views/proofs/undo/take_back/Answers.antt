use Rattle.std.proofs.Common.{sym, ◌∙◌, ap}
use Rattle.acap_moves.specs.Moves.{without}
use Rattle.acap_views.specs.Undoing.{matches_lent}
use Rattle.acap_views.proofs.UndoLemmas.{seen_remove}
use Rattle.acap_views.proofs.undo.take_back.Goals as goal

pub returns-then-place-len : goal.returns-then-place-len
returns-then-place-len c =
    ap matches_lent c.remove.ensures.items ∙ (seen_remove c.args.hits.now.items c.in-Some.place ∙ sym (ap (λ come. without come (matches_lent c.args.hits.now.items)) c.in-Some.is))
