use Rattle.std.proofs.Common.{sym, ap, ◌∙◌}
use Rattle.std.specs.List.{insert, remove}
use Rattle.acap_moves.specs.Moves.{undone, without, put_back}
use Rattle.acap_views.proofs.IdleLemmas.{put_again}
use Rattle.acap_views.proofs.idle_moves.is_idle.Goals as goal

pub returns-then-place-come : goal.returns-then-place-come
returns-then-place-come c = λ yes.
    let hits = c.args.hits.now.0 in
    let found = c.in-Some-Some.gone in
    sym (ap (λ made. undone made hits) c.made.view_is)
    ∙ (ap (λ gone. put_back gone (without c.made.inside.come hits)) c.in-Some-Some.is-0
    ∙ (ap (λ come. insert (without come hits) c.in-Some-Some.place found) c.in-Some-Some.is-1
    ∙ (ap (λ place. insert (remove hits c.in-Some-Some.come) place found) c.if-place-come.true
    ∙ put_again hits c.in-Some-Some.come found (c.stands_at.ensures yes))))
