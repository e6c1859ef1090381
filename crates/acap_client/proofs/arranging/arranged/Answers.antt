use Rattle.std.proofs.Common.{◌∙◌, sym, ap, refl, length, arith, length-append, ◌∷◌, []}
use Rattle.acap_entries.specs.Orders.{octets_cmp}
use Rattle.acap_ordmap.proofs.MapLemmas.{from_sorted_none, none_in_order}
use Rattle.acap_client.specs.Placing.{with_first}
use Rattle.acap_client.proofs.Arranged.{pushed}
use Rattle.acap_client.proofs.arranging.arranged.Goals as goal

pub loop-row-init : goal.loop-row-init
loop-row-init c = record {
  order = rw c.requires.none (none_in_order octets_cmp);
  rows = rw c.requires.none (from_sorted_none octets_cmp);
  len = omega (arith, c.args.room.ok.0, ap length c.requires.none);
  capacity = refl;
}

pub loop-row-preserved : goal.loop-row-preserved
loop-row-preserved c = record {
  order = c.put_first.ensures.order;
  rows = c.put_first.ensures.rows ∙ ap (with_first c.in-Some.row) c.loop-row.invariant.rows ∙ sym (pushed c.loop-row.yielded c.in-Some.row);
  len = omega (arith, c.put_first.ensures.len, c.loop-row.invariant.len, length-append c.loop-row.yielded (c.in-Some.row ∷ []));
  capacity = c.put_first.ensures.capacity ∙ c.loop-row.invariant.capacity;
}
