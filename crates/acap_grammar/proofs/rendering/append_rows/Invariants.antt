use Rattle.std.proofs.Common.{◌≡◌, ◌++◌, take}
use Rattle.acap_grammar.specs.Replies.{rows_form}
use Rattle.acap_grammar.proofs.rendering.append_rows.Given as goal

abbrev pub invariant-loop-row : goal.invariant-loop-row
invariant-loop-row l = l.out.items ≡ l.initial.out.items ++ rows_form l.tag (take l.row-index l.rows)
