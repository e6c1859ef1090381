-- What of a call may cross threads.
use denote.Param.Send.{IsSend, IsSync, sendable, view_send}
use denote.Param.SendFields.{declared_send, declared_sync, variants_send, variants_sync, FieldsHave}
use denote.RattleType.{RattleType}
use denote.Struct.Field.{u64-field}
use mathlib.Core.List.{[], ◌∷◌}
use Rattle.std.proofs.sync.ledger.Share.TheSendSync as of_share
use Rattle.std.specs.contracts.sync.ledger.Share as share
use Rattle.std.specs.contracts.vec.Vec as vec
use Rattle.std.specs.contracts.alloc.Global as heap
use Rattle.std.specs.contracts.impls.GlobalAllocator.TheImpl.{ghosts}
use Rattle.std.specs.declared.sync.ledger.Ledger as ledger
use Rattle.acap_locked.specs.declared.site.Site as site
use Rattle.acap_entries.specs.contracts.seat.Seat as seat
use Rattle.acap_locked.specs.contracts.pass.Pass as pass
use Rattle.acap_locked.specs.contracts.pass.Pass.TheInside as inside
use Rattle.std.proofs.Crossing.{crosses}
use Rattle.acap_commands.specs.contracts.command.Command as command
use Rattle.acap_commands.specs.contracts.event.Event as event
use Rattle.acap_locked.specs.contracts.call.Call as call
use Rattle.acap_locked.specs.contracts.shared_call.SharedCall as exchange
use Rattle.acap_locked.specs.contracts.item.Item as item
use Rattle.acap_commands.proofs.key.Key.TheLaws.TheKnot as knot
use Rattle.acap_commands.proofs.reply.Reply.TheSendSync as of_reply
use Rattle.acap_entries.proofs.moment.Moment.TheSendSync as of_moment
use Rattle.acap_commands.proofs.search_modifiers.Limit.TheSendSync as of_limit
use Rattle.acap_commands.proofs.search_modifiers.MakeContext.TheSendSync as of_make_context
use Rattle.acap_commands.proofs.object_name.ObjectName.TheSendSync as of_object_name
use Rattle.acap_commands.proofs.returns.ReturnItem.TheSendSync as of_return_item
use Rattle.acap_commands.proofs.search_modifiers.SortItem.TheSendSync as of_sort_item
use Rattle.acap_commands.proofs.store.StoreEntry.TheSendSync as of_store_entry
use Rattle.acap_commands.proofs.test.Test.TheSendSync as of_test
use Rattle.acap_entries.proofs.boxed.Boxed.TheSendSync as of_boxed
use Rattle.acap_entries.proofs.dataset.Dataset.TheSendSync as of_dataset
use Rattle.acap_entries.proofs.sequence.Sequence.TheSendSync as of_sequence
use Rattle.acap_entries.proofs.text.Text.TheSendSync as of_text
use Rattle.std.proofs.boxed.Box.TheSendSync as of_box

command_send : IsSend command.the_row
command_send = search (of_limit.the_send, of_make_context.the_send, of_object_name.the_send, of_return_item.the_send, of_sort_item.the_send, of_store_entry.the_send, of_test.the_send, of_boxed.the_send, of_dataset.the_send, of_moment.the_send, of_sequence.the_send, of_text.the_send, of_box.the_send, crosses, knot.crosses, sendable) depth 60 fits 20000

command_sync : IsSync command.the_row
command_sync = search (of_limit.the_sync, of_make_context.the_sync, of_object_name.the_sync, of_return_item.the_sync, of_sort_item.the_sync, of_store_entry.the_sync, of_test.the_sync, of_boxed.the_sync, of_dataset.the_sync, of_moment.the_sync, of_sequence.the_sync, of_text.the_sync, of_box.the_sync, crosses, knot.crosses, sendable) depth 60 fits 20000

event_send : IsSend event.the_row
event_send = variants_send event.enum ((search (of_text.the_send, crosses, sendable) depth 60 fits 20000, tt), ((command_send, tt), (tt, (tt, tt))))

event_sync : IsSync event.the_row
event_sync = variants_sync event.enum ((search (of_text.the_sync, crosses, sendable) depth 60 fits 20000, tt), ((command_sync, tt), (tt, (tt, tt))))

call_send : IsSend call.the_row
call_send = declared_send call.the_type (event_send, (of_moment.the_send, (of_reply.the_send, tt)))

call_sync : IsSync call.the_row
call_sync = declared_sync call.the_type (event_sync, (of_moment.the_sync, (of_reply.the_sync, tt)))

exchange_of : IsSend call.the_row → IsSync call.the_row → IsSend exchange.the_row
exchange_of c y = search (sendable, crosses) depth 20

exchange_sync_of : IsSend call.the_row → IsSync call.the_row → IsSync exchange.the_row
exchange_sync_of c y = search (sendable, crosses) depth 20

pub exchange_send : IsSend exchange.the_row
exchange_send = exchange_of call_send call_sync

item_of : IsSend exchange.the_row → IsSend item.the_row
item_of e = declared_send item.the_type (search sendable depth 20, (search sendable depth 20, (e, tt)))

item_sync_of : IsSync exchange.the_row → IsSync item.the_row
item_sync_of e = declared_sync item.the_type (search sendable depth 20, (search sendable depth 20, (e, tt)))

pub item_send : IsSend item.the_row
item_send = item_of exchange_send

pub item_sync : IsSync item.the_row
item_sync = item_sync_of (exchange_sync_of call_send call_sync)

items_of : IsSend item.the_row → IsSend (vec.the_row item.the_row heap.the_row ghosts)
items_of i = search (sendable, crosses) depth 20

pub items_send : IsSend (vec.the_row item.the_row heap.the_row ghosts)
items_send = items_of item_send

pass_fields : (S : RattleType) (h : ledger.Ghosts S.Denot)
    → FieldsHave IsSend (seat.the_field ∷ share.the_field S h ∷ vec.the_field item.the_row heap.the_row ghosts ∷ vec.the_field item.the_row heap.the_row ghosts ∷ u64-field ∷ u64-field ∷ [])
pass_fields S h = (
  search (sendable, crosses) depth 20,
  (
    of_share.the_send S h,
    (
      items_send,
      (items_send, (search (sendable, crosses) depth 20, (search (sendable, crosses) depth 20, tt))),
    ),
  ),
)

pub pass_send : (S : RattleType) (g : site.Ghosts S.Denot) (h : ledger.Ghosts S.Denot) → IsSend (pass.the_row S g h)
pass_send S g h = view_send _ _ _ _ _ (declared_send (inside.the_type S g h) (pass_fields S h))
