-- What a session's calls say of the history of a served machine.
use Rattle.std.proofs.Common.{◌≡◌, ◌==◌, ◌+◌, ℕ, Bool, true, false, List, [], ◌∷◌, ◌++◌, map, if◌then◌else◌, refl, sym, ◌∙◌, ap, inl, inr}
use Rattle.std.proofs.lemmas.List.{map-append}
use Rattle.acap_locked.specs.declared.call.Call.{Call}
use Rattle.acap_locked.specs.declared.history_entry.HistoryEntry.{HistoryEntry}
use Rattle.acap_locked.specs.declared.item.Item.{Item}
use Rattle.acap_locked.specs.Notes.{item_of}
use Rattle.acap_locked.specs.Passes.{items_from}
use Rattle.acap_task.specs.Desks.{exchange_of}
use Rattle.acap_task.specs.Histories.{HistoryLaw, calls_at}

one_more : (b : Bool) (epoch place : ℕ) (e : HistoryEntry) (items : List Item) (calls : List Call) → map exchange_of items ≡ calls
    → map exchange_of (if b then item_of epoch place e.exchange ∷ items else items) ≡ (if b then e.exchange ∷ calls else calls)
one_more true epoch place e items calls is = ap (λ xs. e.exchange ∷ xs) is
one_more false epoch place e items calls is = is

exchanged : (epoch seat place : ℕ) (history : List HistoryEntry) → map exchange_of (items_from epoch seat place history) ≡ calls_at seat history
exchanged epoch seat place [] = refl
exchanged epoch seat place (e ∷ es) =
    one_more (e.seat == seat) epoch place e (items_from epoch seat (place + 1) es) (calls_at seat es) (exchanged epoch seat (place + 1) es)

pub history_law : HistoryLaw
history_law calls items epoch seat history (inl e) is = inl (record {
  front = map exchange_of e.front;
  is = ap (map exchange_of) e.is ∙ map-append exchange_of e.front items ∙ ap (λ xs. map exchange_of e.front ++ xs) (ap (map exchange_of) is ∙ exchanged epoch seat 0 history);
})
history_law calls items epoch seat history (inr e) is = inr (record {
  front = map exchange_of e.front;
  is = sym (exchanged epoch seat 0 history) ∙ sym (ap (map exchange_of) is) ∙ ap (map exchange_of) e.is ∙ map-append exchange_of e.front calls;
})
