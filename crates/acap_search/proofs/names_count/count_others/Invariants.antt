use Rattle.std.proofs.Common.{◌≡◌, ◌+◌, length}
use Rattle.acap_search.specs.Walks.{names_count}
use Rattle.acap_search.proofs.names_count.count_others.Given as goal

abbrev pub invariant-loop-name : goal.invariant-loop-name
invariant-loop-name g l = l.steps + length l._name-iterator + 1 ≡ l.initial.steps + names_count l.by
