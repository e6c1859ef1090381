use Rattle.std.proofs.Common.{◌≡◌, take, map as each}
use Rattle.acap_views.proofs.last_sent_list.each_hit.Given as goal

abbrev pub invariant-loop-hit : goal.invariant-loop-hit
invariant-loop-hit l = each (λ hit. hit.now) l.made.items ≡ take l.hit-index l.hit-items
