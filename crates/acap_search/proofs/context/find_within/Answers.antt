use Rattle.std.proofs.Common.{ap, sym, ◌∙◌}
use Rattle.acap_search.specs.Gathering.{with_more}
use Rattle.acap_search.specs.Walks.{tuples_by}
use Rattle.acap_search.proofs.FoundLemmas.{came_so, put_so}
use Rattle.acap_search.proofs.WithinLemmas.{unsorted, put_sorted}
use Rattle.acap_search.proofs.context.find_within.Goals as goal

pub returns-then-keeps_order-clause-found : goal.returns-then-keeps_order-clause-found
returns-then-keeps_order-clause-found g c =
    let tuples = tuples_by c.args.search.now c.args.shown.now in
    came_so c.args.wish c.in_ok-found.found tuples _
    (c.in_ok-found.ensures.found ∙ ap (λ none. with_more none tuples) c.in_order-none.ensures)
    (unsorted c.args.search.now.sought.sort tuples (sym c.keeps_order.ensures ∙ c.if-keeps_order.true))

pub returns-clause-found : goal.returns-clause-found
returns-clause-found g c =
    let tuples = tuples_by c.args.search.now c.args.shown.now in
    put_so c.args.wish c.in_ok-found-2.found c.in_ok-sorted.sorted tuples _
    (c.in_ok-found-2.ensures.found ∙ ap (λ none. with_more none tuples) c.in_turn-none.ensures)
    c.in_ok-sorted.ensures
    (put_sorted c.args.search.now.sought.sort tuples (sym c.keeps_order.ensures ∙ c.if-keeps_order.false))
