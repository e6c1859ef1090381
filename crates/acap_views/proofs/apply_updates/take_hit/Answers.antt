use Rattle.std.proofs.Common.{◌≡◌, Some, sym, ◌∙◌, ap, arith}
use Rattle.acap_ordmap.specs.Ranks.{rank_of}
use Rattle.acap_search.specs.Matches.{match_cmp}
use Rattle.acap_views.specs.EntryUpdates.{match_by}
use Rattle.acap_views.proofs.UpdateLemmas.{stood_within, rank_left, stood_left}
use Rattle.acap_views.proofs.apply_updates.take_hit.Goals as goal

pub returns-clause-gone : goal.returns-clause-gone
returns-clause-gone c =
    let old = match_by c.args.old.now in
    stood_left old c.args.now.now.0 c.rank-place.result (Some c.in_ok-hit.hit) (c.rank-place.ensures.value ∙ ap (rank_of match_cmp old) c.take.ensures.items) (sym c.in_ok-hit.was ∙ c.take.ensures.taken)

pub returns-clause-within : goal.returns-clause-within
returns-clause-within c =
    let old = match_by c.args.old.now in
    let hits = c.args.now.now.0 in
    let place : c.rank-place.result ≡ rank_of match_cmp old hits = c.rank-place.ensures.value ∙ (ap (rank_of match_cmp old) c.take.ensures.items ∙ rank_left old hits) in
    omega (arith, stood_within old c.in_ok-hit.hit hits c.ascends.ensures (sym c.take.ensures.taken ∙ c.in_ok-hit.was), place, c.len-count.ensures, c.len-count.type_inv)
