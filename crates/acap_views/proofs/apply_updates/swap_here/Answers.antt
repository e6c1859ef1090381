use Rattle.std.proofs.Common.{◌≡◌, Some, ◌∙◌, ap}
use Rattle.std.specs.Option.{option_map}
use Rattle.acap_moves.specs.Notices.{notice_between}
use Rattle.acap_views.specs.Notices.{told_shape}
use Rattle.acap_views.specs.EntryUpdates.{from_one, match_by, old_place, stands, without_old}
use Rattle.acap_views.proofs.UpdateLemmas.{counted_as, placed_back}
use Rattle.acap_views.proofs.apply_updates.swap_here.Goals as goal

pub returns-clause-told : goal.returns-clause-told
returns-clause-told c =
    let old = match_by c.args.old.now in
    let found = c.args.found in
    let come : option_map (λ place. counted_as place found) c.swap_hit-gone.result.1 ≡ stands old (Some found) c.args.hits.now.0 =
    ap (option_map (λ place. counted_as place found)) c.swap_hit-gone.ensures.come
    ∙ placed_back found (without_old old c.args.hits.now.0) in
    c.here_notice-told.ensures found c.requires.row
    ∙ (ap (λ gone. notice_between told_shape c.args.enumerated c.args.row.name (from_one gone) (from_one (option_map (λ place. counted_as place found) c.swap_hit-gone.result.1))) c.swap_hit-gone.ensures.gone
    ∙ ap (λ place. notice_between told_shape c.args.enumerated c.args.row.name (from_one (old_place old c.args.hits.now.0)) (from_one place)) come)
