use Rattle.std.proofs.Common.{◌+◌, ◌∙◌, ap}
use Rattle.acap_notices.specs.declared.notice.Notice.TheVariants.{AddTo}
use Rattle.acap_notices.proofs.RuleLemmas.{mapped_add_at, mapped_ok, mapped_misfit, no_twice}
use Rattle.acap_notices.proofs.mapped.add.Goals as goal

pub returns-clause-ok : goal.returns-clause-ok
returns-clause-ok c =
    mapped_ok c.add.result _ _ c.add.new.rows.items (mapped_add_at c.args.rows.now.items c.args.row.now _ (ap (λ n. n + 1) (c.len-behind.ensures ∙ c.args.rows.now.ok.0))) c.add.ensures.ok

pub returns-clause-misfit : goal.returns-clause-misfit
returns-clause-misfit c =
    mapped_misfit _ _ (mapped_add_at c.args.rows.now.items c.args.row.now _ (ap (λ n. n + 1) (c.len-behind.ensures ∙ c.args.rows.now.ok.0))) c.add.ensures.misfit

pub returns-clause-once : goal.returns-clause-once
returns-clause-once c = no_twice c.add.result c.args.rows.now.items c.add.new.rows.items (AddTo (c.len-behind.result + 1) c.args.row.now) c.add.ensures.ok c.add.ensures.err
