use Rattle.std.proofs.Common.{◌≡◌, ◌+◌, length}
use Rattle.acap_search.specs.Walks.{names_count}
use Rattle.acap_search.proofs.names_count.count_all.Given as goal

abbrev pub invariant-loop-name : goal.invariant-loop-name
invariant-loop-name g l = l.steps + length l._name-iterator ≡ l.initial.steps + names_count l.by
