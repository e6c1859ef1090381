use Rattle.std.proofs.Common.{◌+◌, ◌∙◌, ap}
use Rattle.acap_notices.specs.Places.{place_of}
use Rattle.acap_notices.specs.declared.notice.Notice.TheVariants.{Change}
use Rattle.acap_notices.proofs.RuleLemmas.{mapped_change_at, mapped_ok, mapped_misfit, no_twice}
use Rattle.acap_notices.proofs.mapped.change.Goals as goal

pub returns-clause-ok : goal.returns-clause-ok
returns-clause-ok c =
    mapped_ok c.change.result _ _ c.change.new.rows.items (mapped_change_at c.args.rows.now.items c.args.row.now _ c.requires (c.position_of-position.ensures ∙ ap (λ t. place_of c.args.row.now.name t + 1) c.as_slice.ensures.value)) c.change.ensures.ok

pub returns-clause-misfit : goal.returns-clause-misfit
returns-clause-misfit c =
    mapped_misfit _ _ (mapped_change_at c.args.rows.now.items c.args.row.now _ c.requires (c.position_of-position.ensures ∙ ap (λ t. place_of c.args.row.now.name t + 1) c.as_slice.ensures.value)) c.change.ensures.misfit

pub returns-clause-once : goal.returns-clause-once
returns-clause-once c = no_twice c.change.result c.args.rows.now.items c.change.new.rows.items (Change c.position_of-position.result c.position_of-position.result c.args.row.now) c.change.ensures.ok c.change.ensures.err
