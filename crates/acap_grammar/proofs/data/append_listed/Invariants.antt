use Rattle.std.proofs.Common.{◌≡◌, ◌++◌, take}
use Rattle.acap_grammar.specs.Replies.{behind_spaces, item_form}
use Rattle.acap_grammar.proofs.data.append_listed.Given as goal

abbrev pub invariant-loop-item : goal.invariant-loop-item
invariant-loop-item l = l.out.items ≡ l.initial.out.items ++ behind_spaces item_form (take l.item-index l.items)
