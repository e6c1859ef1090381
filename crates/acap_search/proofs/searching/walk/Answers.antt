use Rattle.std.proofs.Common.{◌≡◌, ◌++◌, [], append-nil, flat_map, sym, ◌∙◌, ap}
use Rattle.std.specs.Option.{option_map_or}
use Rattle.acap_search.specs.Gathering.{with_more}
use Rattle.acap_search.specs.Scopes.{beneath}
use Rattle.acap_search.specs.Walks.{hits_in, hits_beneath}
use Rattle.acap_search.proofs.FoundLemmas.{gathered_twice}
use Rattle.acap_search.proofs.searching.walk.Goals as goal
use Rattle.acap_search.proofs.searching.walk.Goals.{in-Some+in_ok-add_beneath, in_default}

pub returns-clause-found : goal.returns-clause-found
returns-clause-found g c =
    let search = c.args.search.now in
    let none = c.args.none in
    let here = hits_in search search.sought.dataset in
    let first : c.add_in.new.found ≡ with_more none here =
    c.in_ok-add_in.ensures.found ∙ ap (λ quest. with_more none (hits_in search quest.sought.dataset)) c.search.view_is
    in
    elim c.match-sought.branch [
      | in-Some+in_ok-add_beneath w ↦
          let there = hits_beneath search w.in-Some.depth in
          w.found-is
          ∙ (w.in_ok-add_beneath.ensures.found
          ∙ (ap (λ g. with_more g there) first
          ∙ (gathered_twice none here there
          ∙ ap (λ depth. with_more none (here ++ flat_map (hits_in search) (option_map_or (beneath search.records search.sought.dataset) depth [])))
          (sym w.in-Some.is ∙ ap (λ quest. quest.sought.depth) c.search.view_is))))
      | in_default w ↦
          w.found-is
          ∙ (first
          ∙ ap (with_more none) (sym (append-nil here)
          ∙ ap (λ depth. here ++ flat_map (hits_in search) (option_map_or (beneath search.records search.sought.dataset) depth []))
          (sym w.in_default.is ∙ ap (λ quest. quest.sought.depth) c.search.view_is)))
    ]
