use Rattle.std.proofs.Common.{rules}
use Rattle.acap_grammar.proofs.Growing.{grows_after}
use Rattle.acap_grammar.proofs.strings.append_spaced.Goals as goal

pub returns-in_err-append_string : goal.returns-in_err-append_string
returns-in_err-append_string c = record { ok = search rules; grows = grows_after _ _ _ _ _ _ c.loop-value.invariant c.in_ok-push.ensures.items c.in_err-append_string.ensures.grows }
