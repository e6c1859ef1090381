use Rattle.std.proofs.Common.{◌∙◌}
use Rattle.acap_views.specs.EntryUpdates.{match_by}
use Rattle.acap_views.proofs.UpdateLemmas.{replaced_is, stood_at, stands_at}
use Rattle.acap_views.proofs.apply_updates.replace_hit.Goals as goal

pub returns-clause-list : goal.returns-clause-list
returns-clause-list c = c.replace-place.ensures.items ∙ replaced_is (match_by c.args.old.now) c.args.hit c.args.now.now.0 c.requires.same

pub returns-clause-gone : goal.returns-clause-gone
returns-clause-gone c =
    c.beside.ensures.hit
    ∙ stood_at (match_by c.args.old.now) c.args.hit c.args.now.now.0 c.replace-place.result.0 c.replace-place.result.1 c.requires.same c.replace-place.ensures.place c.replace-place.ensures.taken

pub returns-clause-come : goal.returns-clause-come
returns-clause-come c = stands_at (match_by c.args.old.now) c.args.hit c.args.now.now.0 c.replace-place.result.0 c.requires.same c.replace-place.ensures.place
