use Rattle.std.proofs.Common.{◌≡◌, ◌++◌, map as each}
use Rattle.std.specs.List.{filter}
use Rattle.acap_views.specs.Touching.{looks_into}
use Rattle.acap_views.proofs.touching.looked_into.Given as goal

abbrev pub invariant-loop-dataset : goal.invariant-loop-dataset
invariant-loop-dataset l = record {
  made : each (λ d. d.now) l.made.items ++ filter (looks_into l.ahead l.sought) l.dataset-iterator ≡ filter (looks_into l.ahead l.sought) l.initial.dataset-iterator;
}
