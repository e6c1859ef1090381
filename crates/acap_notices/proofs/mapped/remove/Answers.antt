use Rattle.std.proofs.Common.{◌+◌, ◌∙◌, ap}
use Rattle.acap_notices.specs.Places.{place_of}
use Rattle.acap_notices.specs.declared.notice.Notice.TheVariants.{RemoveFrom}
use Rattle.acap_notices.proofs.RuleLemmas.{mapped_remove_at, mapped_ok, mapped_misfit, no_twice}
use Rattle.acap_notices.proofs.mapped.remove.Goals as goal

pub returns-clause-ok : goal.returns-clause-ok
returns-clause-ok c =
    mapped_ok c.remove.result _ _ c.remove.new.rows.items (mapped_remove_at c.args.rows.now.items c.args.entry.now _ c.requires (c.position_of-position.ensures ∙ ap (λ t. place_of c.args.entry.now t + 1) c.as_slice.ensures.value)) c.remove.ensures.ok

pub returns-clause-misfit : goal.returns-clause-misfit
returns-clause-misfit c =
    mapped_misfit _ _ (mapped_remove_at c.args.rows.now.items c.args.entry.now _ c.requires (c.position_of-position.ensures ∙ ap (λ t. place_of c.args.entry.now t + 1) c.as_slice.ensures.value)) c.remove.ensures.misfit

pub returns-clause-once : goal.returns-clause-once
returns-clause-once c = no_twice c.remove.result c.args.rows.now.items c.remove.new.rows.items (RemoveFrom c.args.entry.now c.position_of-position.result) c.remove.ensures.ok c.remove.ensures.err
