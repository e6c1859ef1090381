use Rattle.std.proofs.Common.{rules}
use Rattle.acap_grammar.proofs.Growing.{grows_next}
use Rattle.acap_grammar.proofs.rendering.append_rows.Goals as goal

pub returns-in_err-append_row : goal.returns-in_err-append_row
returns-in_err-append_row c = record { ok = search rules; grows = grows_next _ _ _ _ c.loop-row.invariant c.in_err-append_row.ensures.grows }
