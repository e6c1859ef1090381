use Rattle.std.proofs.Common.{◌≡◌, drop}
use Rattle.acap_grammar.specs.Marks.{text_in}
use Rattle.acap_grammar.specs.Rows.{rows_of}
use Rattle.acap_grammar.proofs.words.find_text.Given as goal

abbrev pub invariant-loop-row : goal.invariant-loop-row
invariant-loop-row g l = text_in (rows_of (drop l.row-index l.table)) l.text ≡ text_in (rows_of l.table) l.text
