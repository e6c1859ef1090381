use Rattle.std.proofs.Common.{◌≡◌, IfOk, subst, ap, ◌∙◌}
use Rattle.acap_search.specs.Views.{match_at, spot_in}
use Rattle.acap_search.specs.Walks.{match_in, view_in}
use Rattle.acap_search.proofs.match_rows.tell_there.Goals as goal

pub returns-clause-told : goal.returns-clause-told
returns-clause-told c =
    let quest = c.args.search.now in
    let path = c.path-path.result.now in
    subst (λ made. IfOk c.tell.result (λ row. row ≡ made.row))
    ((λ i. match_at (c.search.view_is i).sought (spot_in (c.in_ok-go_to.ensures.made.view i) path.name))
    ∙ (ap (λ dataset. match_at quest.sought (spot_in (view_in quest dataset) path.name)) c.in_ok-go_to.ensures.at
    ∙ ap (match_in quest) c.path-path.ensures))
    c.tell.ensures
