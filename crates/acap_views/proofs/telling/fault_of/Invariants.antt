use Rattle.std.proofs.Common.{◌≡◌, drop}
use Rattle.acap_views.specs.Listing.{as_contexts}
use Rattle.acap_views.specs.Telling.{fault_of}
use Rattle.acap_views.proofs.telling.fault_of.Given as goal

abbrev pub invariant-loop-name : goal.invariant-loop-name
invariant-loop-name l = fault_of (as_contexts l.contexts) (drop l.name-index l.names) ≡ fault_of (as_contexts l.contexts) l.names
