use Rattle.std.proofs.Common.{◌≡◌, OnOk, subst, sym, ap, ◌∙◌}
use Rattle.std.specs.List.{Contains}
use Rattle.acap_search.specs.Gathering.{with_one}
use Rattle.acap_search.specs.Views.{found_at, spot_in}
use Rattle.acap_search.specs.Walks.{datasets_by, view_in}
use Rattle.acap_search.proofs.FoundLemmas.{gathered_none}
use Rattle.acap_search.proofs.WithinLemmas.{looked_in, not_looked_in}
use Rattle.acap_search.proofs.context.add_here.Goals as goal

pub returns-then-is_searched-clause-found : goal.returns-then-is_searched-clause-found
returns-then-is_searched-clause-found g c =
    let quest = c.args.search.now in
    let path = c.args.path.now in
    let searched = subst (Contains (datasets_by quest)) c.requires.at
    (c.requires.here.searched.0 (sym c.is_searched.ensures ∙ c.if-is_searched.true)) in
    subst (λ o. OnOk c.add.result (c.add.new.found ≡ with_one c.args.found.now o))
    ((λ i. found_at (c.search.view_is i).sought c.args.place (spot_in (c.requires.here.view i) path.name))
    ∙ (ap (λ dataset. found_at quest.sought c.args.place (spot_in (view_in quest dataset) path.name)) c.requires.at
    ∙ looked_in c.nothing_law.ensures c.names_law.ensures quest c.args.place path searched))
    c.add.ensures.found

pub returns-else-is_searched-clause-found : goal.returns-else-is_searched-clause-found
returns-else-is_searched-clause-found g c =
    let quest = c.args.search.now in
    sym (gathered_none c.args.found.now)
    ∙ ap (with_one c.args.found.now) (not_looked_in c.nothing_law.ensures c.names_law.ensures quest c.args.place c.args.path.now
    (λ k. cc (c.requires.here.searched.1 (subst (Contains (datasets_by quest)) (sym c.requires.at) k), c.is_searched.ensures, c.if-is_searched.false)))
