use Rattle.std.proofs.Common.{◌≡◌, map}
use Rattle.acap_search.proofs.found_matches.tell_findings.Given as goal

abbrev pub invariant-loop-finding : goal.invariant-loop-finding
invariant-loop-finding l = l.rows.items ≡ map (λ hit. hit.row) l.yielded
