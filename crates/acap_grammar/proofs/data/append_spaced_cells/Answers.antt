use Rattle.std.proofs.Common.{rules}
use Rattle.acap_grammar.proofs.Growing.{grows_after}
use Rattle.acap_grammar.proofs.data.append_spaced_cells.Goals as goal

pub returns-in_err-append_cell : goal.returns-in_err-append_cell
returns-in_err-append_cell c = record { ok = search rules; grows = grows_after _ _ _ _ _ _ c.loop-cell.invariant c.in_ok-push.ensures.items c.in_err-append_cell.ensures.grows }
