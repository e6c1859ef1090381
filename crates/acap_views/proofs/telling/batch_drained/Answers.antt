use Rattle.std.proofs.Common.{◌∙◌, sym}
use Rattle.std.proofs.lemmas.List.{append-nil}
use Rattle.acap_notices.specs.Batches as batches
use Rattle.acap_views.proofs.TellingLemmas.{lasting_told}
use Rattle.acap_views.proofs.telling.batch_drained.Goals as goal

pub returns : goal.returns
returns c =
    let name = c.args.name.now in
    let kept = c.args.context.now.context.kept in
    let notices = c.in_ok-notices.notices in
    append-nil (batches.notes_of c.in_ok-copy-2.field-0 notices)
    ∙ ((λ i. batches.notes_of (c.in_ok-copy-2.ensures i) notices)
    ∙ lasting_told name kept notices (sym c.is_freed.ensures ∙ c.if-is_freed.false) c.in_ok-notices.ensures)
