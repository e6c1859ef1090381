-- Of what a desk keeps and its pass's items the shorter is how the other ends.
use Rattle.std.proofs.Common.{◌≡◌, ◌⊎◌, ℤ, List, [], ◌∷◌, ◌++◌, IfOk, OnErr, Result, Ok, Err, sym, ◌∙◌, ap, subst, append_assoc, append-nil, inl, inr}
use mathlib.Core.Logic.{∥∥₁_map}
use Rattle.acap_commands.specs.declared.event.Event.{Event}
use Rattle.acap_commands.specs.declared.event.Fault.{Fault}
use Rattle.acap_commands.specs.declared.reply.Reply.{Reply}
use Rattle.acap_locked.specs.declared.call.Answer.{Answer}
use Rattle.acap_locked.specs.declared.item.PassContents.{PassContents}
use Rattle.acap_locked.specs.declared.item.Item.{Item}
use Rattle.acap_task.specs.Desks.{EndsAlike, EndsWith, HasCalled}

pub ends_first : (calls items : List Item) → calls ≡ [] → ∥ EndsAlike calls items ∥₁
ends_first calls items none = ∣ inr (record { front = items; is = sym (append-nil items) ∙ ap (λ xs. items ++ xs) (sym none) }) ∣₁

-- both have one more
ends_more : (long short : List Item) (item : Item) → EndsWith long short → EndsWith (long ++ item ∷ []) (short ++ item ∷ [])
ends_more long short item e = record { front = e.front; is = ap (λ xs. xs ++ item ∷ []) e.is ∙ append_assoc e.front short (item ∷ []) }

ends_both : (calls items : List Item) (item : Item) → EndsAlike calls items → EndsAlike (calls ++ item ∷ []) (items ++ item ∷ [])
ends_both calls items item (inl e) = inl (ends_more calls items item e)
ends_both calls items item (inr e) = inr (ends_more items calls item e)

ends_as : (calls items new_calls new_items : List Item) (item : Item) → new_calls ≡ calls ++ item ∷ []
    → ((new_items ≡ items ++ item ∷ []) ⊎ (new_items ≡ item ∷ [])) → EndsAlike calls items → EndsAlike new_calls new_items
ends_as calls items new_calls new_items item c (inl i) e =
    subst (λ xs. EndsAlike xs new_items) (sym c) (subst (λ xs. EndsAlike (calls ++ item ∷ []) xs) (sym i) (ends_both calls items item e))
ends_as calls items new_calls new_items item c (inr i) e = inl (record { front = calls; is = c ∙ ap (λ xs. calls ++ xs) (sym i) })

ends_ok : (calls items new_calls new_items : List Item) (event : Event) (now : ℤ) (reply : Reply) → HasCalled event now reply items calls new_items new_calls
    → EndsAlike calls items → EndsAlike new_calls new_items
ends_ok calls items new_calls new_items event now reply h e = ends_as calls items new_calls new_items h.item h.in_record h.in_pass e

ends_err : (calls new_calls : List Item) (pass new_pass : PassContents) → (new_pass ≡ pass) × (new_calls ≡ calls) → EndsAlike calls pass.items → EndsAlike new_calls new_pass.items
ends_err calls new_calls pass new_pass same e =
    subst (λ xs. EndsAlike xs new_pass.items) (sym same.1) (subst (λ (p : PassContents). EndsAlike calls p.items) (sym same.0) e)

pub ends_call : (calls new_calls : List Item) (pass new_pass : PassContents) (event : Event) (now : ℤ) (result : Result Answer Fault) → ∥ EndsAlike calls pass.items ∥₁
    → IfOk result (λ answer. HasCalled event now answer.reply pass.items calls new_pass.items new_calls) → OnErr result ((new_pass ≡ pass) × (new_calls ≡ calls))
    → ∥ EndsAlike new_calls new_pass.items ∥₁
ends_call calls new_calls pass new_pass event now (Ok answer) e ok err = ∥∥₁_map e (λ x. ends_ok calls pass.items new_calls new_pass.items event now answer.reply ok x)
ends_call calls new_calls pass new_pass event now (Err fault) e ok err = ∥∥₁_map e (λ x. ends_err calls new_calls pass new_pass err x)
