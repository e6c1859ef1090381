use Rattle.std.proofs.Common.{sym, ◌∙◌, ap, arith}
use Rattle.std.specs.List.{insert}
use Rattle.acap_moves.specs.Moves.{put_back}
use Rattle.acap_views.specs.Undoing.{matches_lent}
use Rattle.acap_views.proofs.UndoLemmas.{seen_insert, seen_push}
use Rattle.acap_views.proofs.undo.give_back.Goals as goal

pub returns-in_ok-insert : goal.returns-in_ok-insert
returns-in_ok-insert c =
    ap matches_lent c.in_ok-insert.ensures.items
    ∙ (seen_insert c.args.hits.now.items c.in-Some.place c.hit.result
    ∙ (ap (insert (matches_lent c.args.hits.now.items) c.in-Some.place) c.hit.ensures ∙ sym (ap (λ gone. put_back gone (matches_lent c.args.hits.now.items)) c.in-Some.is)))

pub returns-in_ok-push : goal.returns-in_ok-push
returns-in_ok-push c =
    ap matches_lent c.in_ok-push.ensures.items
    ∙ (seen_push c.args.hits.now.items c.in-Some.place c.hit-else-place-len.result (omega (arith, c.if-place-len.false, c.len.ensures, c.args.hits.now.ok))
    ∙ (ap (insert (matches_lent c.args.hits.now.items) c.in-Some.place) c.hit-else-place-len.ensures ∙ sym (ap (λ gone. put_back gone (matches_lent c.args.hits.now.items)) c.in-Some.is)))
