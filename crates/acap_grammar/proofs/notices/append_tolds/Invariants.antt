use Rattle.std.proofs.Common.{◌≡◌, ◌++◌}
use Rattle.acap_lexer.specs.Printing.{Grows}
use Rattle.acap_grammar.specs.Replies.{tolds_form}
use Rattle.acap_grammar.proofs.notices.append_tolds.Given as goal

abbrev pub invariant-loop-told : goal.invariant-loop-told
invariant-loop-told l = record {
  printed : l.out.items ++ tolds_form l.told-iterator ≡ l.initial.out.items ++ tolds_form l.tolds;
  grows : Grows l.initial.out.items l.out.items;
}
