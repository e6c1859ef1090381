use Rattle.std.proofs.Common.{rules}
use Rattle.acap_grammar.proofs.Growing.{grows_after}
use Rattle.acap_grammar.proofs.data.append_spaced_lists.Goals as goal

pub returns-in_err-append_cells : goal.returns-in_err-append_cells
returns-in_err-append_cells c = record { ok = search rules; grows = grows_after _ _ _ _ _ _ c.loop-list.invariant c.in_ok-push.ensures.items c.in_err-append_cells.ensures.grows }
