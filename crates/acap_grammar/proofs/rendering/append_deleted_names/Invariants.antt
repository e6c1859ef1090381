use Rattle.std.proofs.Common.{◌≡◌, ◌++◌, take}
use Rattle.acap_grammar.specs.Replies.{deleted_names_form}
use Rattle.acap_grammar.proofs.rendering.append_deleted_names.Given as goal

abbrev pub invariant-loop-name : goal.invariant-loop-name
invariant-loop-name l = l.out.items ≡ l.initial.out.items ++ deleted_names_form l.tag (take l.name-index l.names)
