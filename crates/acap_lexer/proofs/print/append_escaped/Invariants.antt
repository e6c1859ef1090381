use Rattle.std.proofs.Common.{◌≡◌, ◌++◌, length}
use Rattle.acap_lexer.specs.Printing.{escaped_form, Grows}
use Rattle.acap_lexer.proofs.print.append_escaped.Given as goal

abbrev pub invariant-escapes : goal.invariant-escapes
invariant-escapes l = record {
  form : l.out.items ++ escaped_form l.left ≡ l.initial.out.items ++ escaped_form l.text;
  grows : Grows l.initial.out.items l.out.items;
}

abbrev pub decreases-escapes : goal.decreases-escapes
decreases-escapes l = length l.left
