use Rattle.std.proofs.Common.{◌≡◌, ◌++◌, take}
use Rattle.acap_grammar.specs.Replies.{behind_spaces, cell_form}
use Rattle.acap_grammar.proofs.data.append_spaced_cells.Given as goal

abbrev pub invariant-loop-cell : goal.invariant-loop-cell
invariant-loop-cell l = l.out.items ≡ l.initial.out.items ++ behind_spaces cell_form (take l.cell-index l.cells)
