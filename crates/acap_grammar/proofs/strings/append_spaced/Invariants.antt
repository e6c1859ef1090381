use Rattle.std.proofs.Common.{◌≡◌, ◌++◌, take}
use Rattle.acap_lexer.specs.Printing.{printed_form}
use Rattle.acap_grammar.specs.Replies.{behind_spaces}
use Rattle.acap_grammar.proofs.strings.append_spaced.Given as goal

abbrev pub invariant-loop-value : goal.invariant-loop-value
invariant-loop-value l = l.out.items ≡ l.initial.out.items ++ behind_spaces printed_form (take l.value-index l.values)
