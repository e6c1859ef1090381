-- The contexts of all seats may go to another thread.
use denote.Param.Send.{IsSend, sendable, view_send}
use denote.Param.SendFields.{declared_send}
use Rattle.std.proofs.Crossing.{crosses}
use Rattle.acap_commands.proofs.key.Key.TheLaws.TheKnot as knot
use Rattle.acap_commands.proofs.returns.ReturnItem.TheSendSync as of_return_item
use Rattle.acap_commands.proofs.search_modifiers.SortItem.TheSendSync as of_sort_item
use Rattle.acap_entries.proofs.dataset.Dataset.TheSendSync as of_dataset
use Rattle.acap_entries.proofs.moment.Moment.TheSendSync as of_moment
use Rattle.acap_entries.proofs.sequence.Sequence.TheSendSync as of_sequence
use Rattle.acap_entries.proofs.text.Text.TheSendSync as of_text
use Rattle.acap_entries.proofs.seat.Seat.TheSendSync as of_seat
use Rattle.acap_views.proofs.context_lists.ContextLists.TheSendSync as of_held
use Rattle.std.proofs.option.Option.TheSendSync as of_option
use Rattle.acap_entries.proofs.tree.Tree.TheSendSync as of_tree
use Rattle.acap_inherit.proofs.resolved.Resolved.TheSendSync as of_resolved
use Rattle.acap_rights.proofs.realm.Realm.TheSendSync as of_realm
use Rattle.acap_machine.specs.contracts.state.State as state
use Rattle.acap_machine.specs.contracts.state.State.TheInside as state_inside
use Rattle.acap_search.specs.contracts.query.SearchSpec as sought
use Rattle.acap_views.specs.contracts.open_context.OpenContext as context
use Rattle.acap_views.specs.contracts.open_context.OpenContext.TheInside as context_inside
use Rattle.acap_views.specs.contracts.seat_contexts.SeatContexts as sitting
use Rattle.acap_views.specs.contracts.seat_contexts.SeatContexts.TheInside as sitting_inside
use Rattle.acap_views.specs.contracts.views.Views as views
use Rattle.acap_views.specs.contracts.views.Views.TheInside as views_inside

sought_send : IsSend sought.the_row
sought_send = declared_send sought.the_type (
  of_dataset.the_send,
  (
    search (of_option.the_send, crosses, sendable) depth 60 fits 20000,
    (
      search sendable depth 20,
      (
        search (knot.crosses, crosses, sendable) depth 60 fits 20000,
        (
          search (of_option.the_send, of_sort_item.the_send, of_sequence.the_send, crosses, sendable) depth 60 fits 20000,
          (search (of_option.the_send, of_return_item.the_send, of_sequence.the_send, crosses, sendable) depth 60 fits 20000, tt),
        ),
      ),
    ),
  ),
)

context_send : IsSend context.the_row
context_send = view_send _ _ _ _ _ (declared_send context_inside.the_type (sought_send, (search sendable depth 20, (of_moment.the_send, (of_held.the_send, tt)))))

sitting_send : IsSend sitting.the_row
sitting_send = view_send _ _ _ _ _ (declared_send sitting_inside.the_type (
  search (of_text.the_send, crosses, sendable) depth 60 fits 20000,
  (search (context_send, of_text.the_send, crosses, sendable) depth 60 fits 20000, tt),
))

pub views_send : IsSend views.the_row
views_send = view_send _ _ _ _ _ (declared_send views_inside.the_type (
  search (crosses, sendable) depth 20,
  (search (sitting_send, of_seat.the_send, crosses, sendable) depth 60 fits 20000, tt),
))

pub state_send : IsSend state.the_row
state_send = view_send _ _ _ _ _ (declared_send state_inside.the_type (
  search (crosses, sendable) depth 20,
  (
    of_realm.the_send,
    (
      of_tree.the_send,
      (of_resolved.the_send, (views_send, (search sendable depth 20, tt))),
    ),
  ),
))
