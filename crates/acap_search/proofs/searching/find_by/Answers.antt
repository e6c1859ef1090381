use Rattle.std.proofs.Common.{ap, ◌∙◌}
use Rattle.acap_search.specs.Gathering.{with_more}
use Rattle.acap_search.specs.Walks.{hits_over}
use Rattle.acap_search.proofs.FoundLemmas.{came_so, put_so}
use Rattle.acap_search.proofs.TellingLemmas.{plain_is}
use Rattle.acap_search.proofs.WalkLemmas.{fresh_is}
use Rattle.acap_search.proofs.searching.find_by.Goals as goal

pub returns-then-is_in_order-clause-found : goal.returns-then-is_in_order-clause-found
returns-then-is_in_order-clause-found g c =
    let search = c.args.search.now in
    came_so c.args.wish c.in_ok-found.found (hits_over search) _
    (c.in_ok-found.ensures.found ∙ ap (λ none. with_more none (hits_over search)) c.in_order.ensures)
    (plain_is search.records search.realm search.user search.sought (c.is_in_order.ensures.depth c.if-is_in_order.true)
    (c.is_in_order.ensures.sort c.if-is_in_order.true) c.names_law.ensures)

pub returns-clause-found : goal.returns-clause-found
returns-clause-found g c =
    let search = c.args.search.now in
    put_so c.args.wish c.in_ok-found-2.found _ (hits_over search) _
    (c.in_ok-found-2.ensures.found ∙ ap (λ none. with_more none (hits_over search)) c.in_turn.ensures)
    c.in_ok-sorted.ensures (fresh_is search.records search.realm search.user search.sought)
