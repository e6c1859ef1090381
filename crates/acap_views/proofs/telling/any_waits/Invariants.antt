use Rattle.std.proofs.Common.{◌≡◌, drop}
use Rattle.std.specs.List.{list_any}
use Rattle.acap_views.proofs.TellingLemmas.{entry_waits}
use Rattle.acap_views.proofs.telling.any_waits.Given as goal

abbrev pub invariant-loop-entry : goal.invariant-loop-entry
invariant-loop-entry l = list_any entry_waits (drop l.entry-index l.contexts) ≡ list_any entry_waits l.contexts
