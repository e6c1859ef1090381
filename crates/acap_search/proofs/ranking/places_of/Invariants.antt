use Rattle.std.proofs.Common.{◌≡◌, take}
use Rattle.acap_search.specs.Views.{places_at}
use Rattle.acap_search.proofs.ranking.places_of.Given as goal

abbrev pub invariant-loop-item : goal.invariant-loop-item
invariant-loop-item g l = l.places.items ≡ places_at l.spot (take l.item-index l.sort)
