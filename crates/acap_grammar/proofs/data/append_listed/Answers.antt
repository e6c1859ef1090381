use Rattle.std.proofs.Common.{rules}
use Rattle.acap_grammar.proofs.Growing.{grows_after}
use Rattle.acap_grammar.proofs.data.append_listed.Goals as goal

pub returns-in_err-append_item : goal.returns-in_err-append_item
returns-in_err-append_item c = record { ok = search rules; grows = grows_after _ _ _ _ _ _ c.loop-item.invariant c.in_ok-push.ensures.items c.in_err-append_item.ensures.grows }
