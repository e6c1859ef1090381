use Rattle.std.proofs.Common.{◌≡◌, ◌≤◌, length, vec_len, vec_capacity}
use Rattle.std.specs.FinMap as finite
use Rattle.acap_entries.specs.Orders.{octets_cmp}
use Rattle.acap_ordmap.specs.Sorted.{InOrder}
use Rattle.acap_grammar.specs.Printed.{printed_by_name}
use Rattle.acap_client.specs.Placing.{keyed}
use Rattle.acap_client.proofs.arranging.arranged.Given as goal

abbrev pub invariant-loop-row : goal.invariant-loop-row
invariant-loop-row l = record {
  order : InOrder octets_cmp (keyed l.arranged.items);
  rows : finite.from_sorted (keyed l.arranged.items) ≡ printed_by_name l.yielded;
  len : vec_len l.arranged ≤ length l.yielded;
  capacity : vec_capacity l.arranged ≡ vec_capacity l.fn.room;
}
