use Rattle.std.proofs.Common.{sym, ◌∙◌, ap, arith}
use Rattle.std.specs.List.{insert, remove}
use Rattle.acap_moves.specs.Moves.{undone}
use Rattle.acap_views.specs.Undoing.{matches_lent}
use Rattle.acap_views.proofs.UndoLemmas.{seen_set}
use Rattle.acap_views.proofs.undo.undo.Goals as goal

pub returns : goal.returns
returns c =
    let hits = c.args.hits.now.items in
    let place = c.in-Some.place in
    seen_set hits place c.hit.result (omega (arith, c.if-place-len.true, c.len.ensures, c.args.hits.now.ok))
    ∙ (ap (insert (remove (matches_lent hits) place) place) c.hit.ensures ∙ sym (ap (λ made. undone made (matches_lent hits)) c.in-Some.ensures))
