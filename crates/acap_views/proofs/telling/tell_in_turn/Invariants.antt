use Rattle.std.proofs.Common.{◌≡◌, ◌++◌, take, drop}
use Rattle.acap_notices.specs.Batches.{all_told}
use Rattle.acap_views.specs.Listing.{as_contexts}
use Rattle.acap_views.specs.Telling.{after_updates, told_in_turn}
use Rattle.acap_views.proofs.telling.tell_in_turn.Given as goal

abbrev pub invariant-loop-at : goal.invariant-loop-at
invariant-loop-at l =
    all_told l.batches.items ++ told_in_turn (after_updates (as_contexts l.contexts) (take l.at l.names) l.last) (drop l.at l.names) l.last
    ≡ told_in_turn (as_contexts l.contexts) l.names l.last
