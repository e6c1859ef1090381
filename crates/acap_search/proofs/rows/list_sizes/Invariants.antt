use Rattle.std.proofs.Common.{◌≡◌, map, take}
use Rattle.acap_search.specs.Rows.{size_of}
use Rattle.acap_search.proofs.rows.list_sizes.Given as goal

abbrev pub invariant-loop-text : goal.invariant-loop-text
invariant-loop-text l = l.made.items ≡ map size_of (take l.text-index l.texts)
