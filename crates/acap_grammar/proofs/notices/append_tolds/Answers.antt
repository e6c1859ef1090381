use Rattle.std.proofs.Common.{rules}
use Rattle.acap_grammar.proofs.Growing.{grows_on}
use Rattle.acap_grammar.proofs.notices.append_tolds.Goals as goal

pub returns-in_err-append_told : goal.returns-in_err-append_told
returns-in_err-append_told c = record { ok = search rules; grows = grows_on _ _ _ c.loop-told.invariant.grows c.in_err-append_told.ensures.grows }
