use Rattle.std.proofs.Common.{◌≡◌, map, drop}
use Rattle.std.specs.List.{list_any}
use Rattle.acap_inherit.specs.Reaching.{is_written_in}
use Rattle.acap_inherit.proofs.reach.Reach.is_written_along.Given as goal

abbrev pub invariant-loop-member : goal.invariant-loop-member
invariant-loop-member l = record {
  along : list_any (is_written_in l.self.change.writes l.self.old.records) (map (λ d. d.now) (drop l.member-index l.member-items))
      ≡ list_any (is_written_in l.self.change.writes l.self.old.records) (map (λ d. d.now) l.member-items);
}
