use Rattle.std.proofs.Common.{◌≡◌, true, length, map as each}
use Rattle.acap_login.specs.Login.{are_named}
use Rattle.acap_login.proofs.users.form_names.Given as goal

abbrev pub invariant-loop-first : goal.invariant-loop-first
invariant-loop-first l = are_named (each (λ entry. (entry.0, entry.1.items)) l.left) ≡ true → are_named (each (λ entry. (entry.0, entry.1.items)) l.entries) ≡ true

abbrev pub decreases-loop-first : goal.decreases-loop-first
decreases-loop-first l = length l.left
