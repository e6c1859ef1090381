use Rattle.std.proofs.Common.{◌≡◌, drop}
use Rattle.acap_entries.specs.Orders.{octets_cmp}
use Rattle.acap_ordmap.specs.Sorted.{InOrder}
use Rattle.acap_views.specs.Listing.{as_contexts}
use Rattle.acap_views.specs.Telling.{after_updates}
use Rattle.acap_views.proofs.contexts.tell_named.Given as goal

abbrev pub invariant-loop-name : goal.invariant-loop-name
invariant-loop-name l = record {
  order : InOrder octets_cmp l.contexts.items;
  told : after_updates (as_contexts l.contexts.items) (drop l.name-index l.names) l.last ≡ after_updates (as_contexts l.fn.contexts.items) l.names l.last;
}
