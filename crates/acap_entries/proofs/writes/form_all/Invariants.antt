use Rattle.std.proofs.Common.{◌≡◌, true, length}
use Rattle.std.specs.List.{list_all}
use Rattle.acap_entries.specs.FullPaths.{is_well_formed}
use Rattle.acap_entries.proofs.writes.form_all.Given as goal

abbrev pub invariant-loop-first : goal.invariant-loop-first
invariant-loop-first l = list_all (λ e. is_well_formed e.0) l.left ≡ true → list_all (λ e. is_well_formed e.0) l.entries ≡ true

abbrev pub decreases-loop-first : goal.decreases-loop-first
decreases-loop-first l = length l.left
