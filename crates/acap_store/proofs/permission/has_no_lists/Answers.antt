use Rattle.std.proofs.Common.{sym, ◌∙◌}
use Rattle.std.proofs.lemmas.Bool.{eqb-true}
use Rattle.acap_store.proofs.ListLemmas.{no_lists}
use Rattle.acap_store.proofs.permission.has_no_lists.Goals as goal

pub returns-in-Some : goal.returns-in-Some
returns-in-Some c = λ none. no_lists _ c.args.path.now c.in-Some.record.now c.in-Some.ensures (sym c.len.ensures ∙ eqb-true _ _ none)
