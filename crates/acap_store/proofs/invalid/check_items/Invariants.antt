use Rattle.std.proofs.Common.{◌≡◌, drop}
use Rattle.acap_store.specs.Invalid as rule
use Rattle.acap_store.proofs.invalid.check_items.Given as goal

abbrev pub invariant-loop-entry : goal.invariant-loop-entry
invariant-loop-entry l = rule.first_invalid l.tree.store.records l.meant (drop l.entry-index l.entry-items) ≡ rule.first_invalid l.tree.store.records l.meant l.meant.entries
