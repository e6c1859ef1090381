use Rattle.std.proofs.Common.{◌≡◌, map, drop, []}
use Rattle.acap_inherit.specs.Touched.{is_written_on}
use Rattle.acap_inherit.proofs.touching.is_managed.Given as goal

abbrev pub invariant-loop-member : goal.invariant-loop-member
invariant-loop-member l =
    let records = l.after.tree.now.store.records in
    record {
      managed : is_written_on l.after.writes.now records (map (λ d. d.now) (drop l.member-index l.member-items)) []
          ≡ is_written_on l.after.writes.now records (map (λ d. d.now) l.member-items) [];
    }
