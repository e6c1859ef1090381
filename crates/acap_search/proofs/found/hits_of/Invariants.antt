use Rattle.std.proofs.Common.{◌≡◌}
use Rattle.acap_search.proofs.found.hits_of.Given as goal

abbrev pub invariant-loop-finding : goal.invariant-loop-finding
invariant-loop-finding l = l.hits.items ≡ l.yielded
