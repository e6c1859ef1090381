use Rattle.std.proofs.Common.{◌∙◌}
use Rattle.acap_commands.proofs.OrderLemmas.{tied_has}
use Rattle.acap_commands.proofs.entry_order.EntryOrder.has_path.Goals as goal

pub returns : goal.returns
returns c = c.place_of.ensures.tied ∙ tied_has c.args.entries.now c.args.self.now c.args.path.now c.requires
