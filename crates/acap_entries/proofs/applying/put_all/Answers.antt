use Rattle.acap_ordmap.proofs.MapLemmas.{insert_kept, put_in_order, remove_kept, without_in_order}
use Rattle.acap_entries.specs.Store.{path_cmp}
use Rattle.std.proofs.Common.{◌≡◌, ◌++◌, ◌∷◌, [], arith}
use Rattle.acap_entries.specs.declared.change.RecordEdit.TheVariants.{Put, Remove}
use Rattle.acap_entries.proofs.StoreLemmas.{after_writes-append, path_cmp_total, path_same}
use Rattle.acap_entries.proofs.applying.put_all.Goals as goal

pub loop-path-preserved-in-Put : goal.loop-path-preserved-in-Put
loop-path-preserved-in-Put c =
    let all : c.loop-path.left.items ≡ c.pop.new.self.items ++ (c.in-Some.path, Put c.in-Put.record) ∷ [] = cc (c.in-Some.ensures.items, c.in-Put.is) in
    record {
      room = omega (arith, c.in-Some.ensures.cases, c.put.ensures.room);
      sorted = rw c.put.ensures.entries (put_in_order path_cmp path_cmp_total _ _ _ c.loop-path.invariant.sorted);
      records = rw (c.put.ensures.entries, insert_kept path_cmp path_cmp_total _ _ _ c.loop-path.invariant.sorted, ← c.loop-path.invariant.records, all, after_writes-append);
    }

pub loop-path-preserved : goal.loop-path-preserved
loop-path-preserved c =
    let all : c.loop-path.left.items ≡ c.pop.new.self.items ++ (c.in-Some.path, Remove) ∷ [] = cc (c.in-Some.ensures.items, c.in-Remove.is) in
    record {
      room = omega (arith, c.in-Some.ensures.cases, c.take_out.ensures.room);
      sorted = rw c.take_out.ensures.entries (without_in_order path_cmp path_cmp_total _ _ c.loop-path.invariant.sorted);
      records = rw (c.take_out.ensures.entries, remove_kept path_cmp path_cmp_total path_same _ _ c.loop-path.invariant.sorted, ← c.loop-path.invariant.records, all, after_writes-append);
    }
