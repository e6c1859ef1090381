use Rattle.std.proofs.Common.{◌≡◌, true, length, map as each}
use Rattle.std.specs.List.{list_all}
use Rattle.acap_entries.specs.FullPaths.{is_well_formed}
use Rattle.acap_machine.proofs.writing.form_entries.Given as goal

abbrev pub invariant-loop-first : goal.invariant-loop-first
invariant-loop-first l = list_all is_well_formed (each (λ e. e.path) l.left) ≡ true → list_all is_well_formed (each (λ e. e.path) l.entries) ≡ true

abbrev pub decreases-loop-first : goal.decreases-loop-first
decreases-loop-first l = length l.left
