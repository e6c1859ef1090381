-- A call as it stands in the history, and in the pass through which it was made.
use Rattle.std.specs.Prelude.{ℕ, ℤ}
use Rattle.acap_commands.specs.declared.event.Event.{Event}
use Rattle.acap_commands.specs.declared.reply.Reply.{Reply}
use Rattle.acap_locked.specs.declared.call.Call.{Call}
use Rattle.acap_locked.specs.declared.history_entry.HistoryEntry.{HistoryEntry}
use Rattle.acap_locked.specs.declared.item.Item.{Item}

abbrev pub call_of : Event → ℤ → Reply → Call
call_of event now reply = record { event = event; moment = now; reply = reply }

abbrev pub entry_of : ℕ → Call → HistoryEntry
entry_of seat call = record { seat = seat; exchange = call }

abbrev pub item_of : ℕ → ℕ → Call → Item
item_of epoch place call = record { epoch = epoch; place = place; exchange = call }
