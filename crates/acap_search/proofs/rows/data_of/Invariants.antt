use Rattle.std.proofs.Common.{◌≡◌, map, take}
use Rattle.acap_search.specs.Rows.{datum}
use Rattle.acap_search.specs.Views.{answers_of}
use Rattle.acap_search.proofs.rows.data_of.Given as goal

abbrev pub invariant-loop-metadata : goal.invariant-loop-metadata
invariant-loop-metadata g l =
    l.cells.items ≡ map (datum (answers_of l.spot) l.attribute) (take l.metadata-index l.wanted)
