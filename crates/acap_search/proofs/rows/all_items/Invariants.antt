use Rattle.std.proofs.Common.{◌≡◌, map, take}
use Rattle.acap_search.specs.Views.{item_at}
use Rattle.acap_search.proofs.rows.all_items.Given as goal

abbrev pub invariant-loop-asked : goal.invariant-loop-asked
invariant-loop-asked g l = l.items.items ≡ map (item_at l.spot) (take l.asked-index l.returns)
