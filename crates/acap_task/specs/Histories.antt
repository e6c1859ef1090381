-- What a session's calls say of the history of a served machine [RFC 2244 section 2].
use Rattle.std.specs.Prelude.{◌≡◌, ◌⊎◌, ◌==◌, ℕ, List, [], ◌∷◌, ◌++◌, map, if◌then◌else◌}
use Rattle.acap_locked.specs.declared.call.Call.{Call}
use Rattle.acap_locked.specs.declared.history_entry.HistoryEntry.{HistoryEntry}
use Rattle.acap_locked.specs.declared.item.Item.{Item}
use Rattle.acap_locked.specs.Passes.{items_from}
use Rattle.acap_task.specs.Desks.{EndsAlike, exchange_of}

-- the calls of a seat in a history, in their order
abbrev pub calls_at : ℕ → List HistoryEntry → List Call
calls_at seat [] = []
calls_at seat (e ∷ es) = if e.seat == seat then e.exchange ∷ calls_at seat es else calls_at seat es

-- the list ends so
pub record IsLastOf (short long : List Call) : Type 0 where
  pub front : List Call
  pub is : long ≡ front ++ short

-- Where a pass has exactly its seat's calls in the history, as it has when the book is closed, a session's
-- own record of its calls ends with all calls of the seat, or is how these end: whichever is shorter.
abbrev pub HistoryLaw : Type 0
HistoryLaw = (calls items : List Item) (epoch seat : ℕ) (history : List HistoryEntry)
    → EndsAlike calls items → items ≡ items_from epoch seat 0 history
    → IsLastOf (calls_at seat history) (map exchange_of calls)
    ⊎ IsLastOf (map exchange_of calls) (calls_at seat history)
