use Rattle.std.proofs.Common.{◌≡◌, not, filter}
use Rattle.acap_store.specs.Deleting as rule
use Rattle.acap_store.proofs.deleting.keep_gone.Given as goal

abbrev pub invariant-loop-path : goal.invariant-loop-path
invariant-loop-path l = l.made ≡ filter (λ p. not (rule.exists_after l.tree.store.records l.writes p)) l.yielded
