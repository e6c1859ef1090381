use Rattle.std.proofs.Common.{◌≡◌, ◌++◌, map as each}
use Rattle.acap_views.proofs.undo.list_placed.Given as goal

abbrev pub invariant-loop-placed : goal.invariant-loop-placed
invariant-loop-placed l = record { made : each (λ hit. hit.now) l.hits.items ++ l.placed-iterator ≡ l.initial.placed-iterator }
