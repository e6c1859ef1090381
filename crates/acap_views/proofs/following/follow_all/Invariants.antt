use Rattle.std.proofs.Common.{◌≡◌, drop, map as each}
use Rattle.acap_views.specs.Followed.{EachFits, FitsContext}
use Rattle.acap_views.specs.Listing.{bare}
use Rattle.acap_views.proofs.FollowingLemmas.{after_each, through, context_turn}
use Rattle.acap_views.proofs.following.follow_all.Given as goal

abbrev pub invariant-loop-shifts : goal.invariant-loop-shifts
invariant-loop-shifts l = record {
  followed : through context_turn l.at l.shifts-iterator.rest.items (each bare l.contexts.items) ≡ after_each context_turn l.fn.turns (each bare l.fn.contexts.items);
  room : EachFits FitsContext l.shifts-iterator.rest.items (drop l.at l.contexts.items);
}
