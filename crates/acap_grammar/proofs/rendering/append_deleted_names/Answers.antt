use Rattle.std.proofs.Common.{rules}
use Rattle.acap_grammar.proofs.Growing.{grows_next}
use Rattle.acap_grammar.proofs.rendering.append_deleted_names.Goals as goal

pub returns-in_err-append_deleted_name : goal.returns-in_err-append_deleted_name
returns-in_err-append_deleted_name c = record { ok = search rules; grows = grows_next _ _ _ _ c.loop-name.invariant c.in_err-append_deleted_name.ensures.grows }
