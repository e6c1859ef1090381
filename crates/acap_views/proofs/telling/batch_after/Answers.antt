use Rattle.std.proofs.Common.{◌++◌, ◌∷◌, [], ◌∙◌}
use Rattle.acap_notices.specs.Batches as batches
use Rattle.acap_notices.specs.declared.told.Told.TheVariants as told
use Rattle.acap_views.proofs.telling.batch_after.Goals as goal

pub returns : goal.returns
returns c =
    let last = c.args.last in
    (λ i. batches.notes_of (c.in_ok-copy.ensures i) c.in_ok-notices.notices ++ told.Upto (c.in_ok-copy.ensures i) last ∷ [])
    ∙ (λ i. c.in_ok-notices.ensures last i ++ told.Upto c.args.name.now last ∷ [])
