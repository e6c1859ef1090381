use Rattle.std.proofs.Common.{Some, None, sym, ap, ◌∙◌}
use Rattle.acap_notices.specs.Batches as batches
use Rattle.acap_views.proofs.AnswerLemmas.{if_ok}
use Rattle.acap_views.proofs.TellingLemmas.{pending_told, seen_told, unseen_waits}
use Rattle.acap_views.proofs.telling.notices_after.Goals as goal

pub returns-then-contains : goal.returns-then-contains
returns-then-contains c = λ last.
    ap (batches.notes_of c.args.name.now) c.none.ensures
    ∙ sym (seen_told c.args.name.now last _ c.args.seen.now (sym c.contains.ensures.value ∙ c.if-contains.true))

pub returns-in-Some : goal.returns-in-Some
returns-in-Some c = if_ok _ _ c.share.result c.share.ensures (λ notices e last.
    ap (batches.notes_of c.args.name.now) e
    ∙ (pending_told c.args.name.now c.in-Some.context.now.context.kept
    ∙ sym (unseen_waits c.args.name.now last c.args.contexts.now c.args.seen.now (Some c.in-Some.context.now) (sym c.contains.ensures.value ∙ c.if-contains.false) c.requires c.in-Some.ensures)))

pub returns-in-None : goal.returns-in-None
returns-in-None c = λ last.
    ap (batches.notes_of c.args.name.now) c.none-in-None.ensures
    ∙ sym (unseen_waits c.args.name.now last c.args.contexts.now c.args.seen.now None (sym c.contains.ensures.value ∙ c.if-contains.false) c.requires c.in-None.ensures)
