use Rattle.std.proofs.Common.{◌≡◌, ◌++◌, drop, flat_map}
use Rattle.acap_notices.specs.Batches.{all_told}
use Rattle.acap_views.proofs.TellingLemmas.{drained_entry}
use Rattle.acap_views.proofs.telling.drain.Given as goal

abbrev pub invariant-loop-entry : goal.invariant-loop-entry
invariant-loop-entry l = all_told l.batches.items ++ flat_map drained_entry (drop l.entry-index l.contexts) ≡ flat_map drained_entry l.contexts
