use Rattle.std.proofs.Common.{◌≡◌, ◌∙◌, ap, sym, Some}
use Rattle.acap_ordmap.specs.Ranks.{item_at}
use Rattle.acap_search.specs.Matches.{match_cmp}
use Rattle.acap_views.specs.EntryUpdates.{match_by}
use Rattle.acap_views.proofs.SeekLemmas.{found_there, first_among}
use Rattle.acap_views.proofs.hit_cursor.HitCursor.find.Goals as goal

pub returns-clause-found : goal.returns-clause-found
returns-clause-found c =
    let old = match_by c.args.old.now in
    let hits = c.self.inside.hits.now.0 in
    let there : Some c.in-Some.hit.now ≡ item_at match_cmp old hits =
    found_there old c.in-Some.hit.now hits c.ascends.ensures (first_among hits c.first_from-next.result c.first_from-next.new.others c.in-Some.hit c.in-Some.is c.first_from-next.ensures) (sym c.is_there.ensures ∙ c.if-is_there.true) in
    there ∙ ap (item_at match_cmp old) c.self.view_is
