use Rattle.std.proofs.Common.{sym, ◌∙◌}
use Rattle.acap_store.proofs.BeginLemmas.{begins_behind, begins_otherwise}
use Rattle.acap_store.proofs.ending.begins_with_both.Goals as goal

pub returns-then-starts_with : goal.returns-then-starts_with
returns-then-starts_with c = c.starts_with-then-starts_with.ensures.value ∙ begins_behind c.args.text.now c.args.first.now c.args.second.now (sym c.starts_with.ensures.value ∙ c.if-starts_with.true)

pub returns-else-starts_with : goal.returns-else-starts_with
returns-else-starts_with c = c.if-starts_with.false ∙ begins_otherwise c.args.text.now c.args.first.now c.args.second.now (sym c.starts_with.ensures.value ∙ c.if-starts_with.false)
