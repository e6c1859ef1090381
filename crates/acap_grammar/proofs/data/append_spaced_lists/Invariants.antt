use Rattle.std.proofs.Common.{◌≡◌, ◌++◌, take}
use Rattle.acap_grammar.specs.Replies.{behind_spaces, list_form, cell_form}
use Rattle.acap_grammar.proofs.data.append_spaced_lists.Given as goal

abbrev pub invariant-loop-list : goal.invariant-loop-list
invariant-loop-list l = l.out.items ≡ l.initial.out.items ++ behind_spaces (list_form cell_form) (take l.list-index l.lists)
