use Rattle.std.proofs.Common.{take}
use Rattle.acap_commands.specs.EntryOrder.{Orders}
use Rattle.acap_commands.proofs.entry_order.EntryOrder.of.Given as goal

abbrev pub invariant-loop-at : goal.invariant-loop-at
invariant-loop-at l = Orders l.order (take l.at l.entries)
