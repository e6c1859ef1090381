-- What is told agrees with what is done, step by step.
use Rattle.std.proofs.Common.{◌≡◌, ℕ, ℤ, ◌+◌, List, [], ◌∷◌, ◌++◌, map, Option, Some, None, Result, Ok, Err, refl, sym, ◌∙◌, ap, subst, append_assoc, append-nil, arith, inl, inr}
use Rattle.std.proofs.lemmas.List.{map-append}
use Rattle.acap_commands.specs.declared.event.Event.{Event}
use Rattle.acap_commands.specs.declared.event.Fault.{Fault}
use Rattle.acap_dialogue.specs.Running as running
use Rattle.acap_dialogue.specs.Running.{fault_count}
use Rattle.acap_locked.specs.declared.call.Answer.{Answer}
use Rattle.acap_locked.specs.declared.call.Call.{Call}
use Rattle.acap_task.specs.Kept.{Agrees, IsPicked, as_told, count_told}
use Rattle.acap_task.specs.Told.{DeskTold, adds, after_call, up}
use Rattle.acap_task.specs.Turns.{reply_in}

-- what is told more of agrees with more
pub agrees_adds : {A : Type 0} (told : Option (List A)) (xs more : List A) → Agrees told xs → Agrees (adds told more) (xs ++ more)
agrees_adds None xs more h = tt
agrees_adds (Some a) xs more h = ap (λ ys. ys ++ more) h

pub agrees_as : {A : Type 0} (told : Option A) (x y : A) → x ≡ y → Agrees told x → Agrees told y
agrees_as None x y e h = tt
agrees_as (Some a) x y e h = h ∙ e

pub counted_up : (n : ℕ) → up (count_told n) ≡ count_told (n + 1)
counted_up n = omega arith

-- ---- a desk

-- what it tells grows by these calls, and by so many faults
pub record Goes (d e : DeskTold) (calls : List running.Call) (faults : ℕ) : Type 0 where
  pub told : (cs : List Call) → Agrees d.calls cs → Agrees e.calls (cs ++ map as_told calls)
  pub counts : (n : ℕ) → d.faults ≡ count_told n → e.faults ≡ count_told (n + faults)

pub goes_nowhere : (d e : DeskTold) → e ≡ d → Goes d e [] 0
goes_nowhere d e same = record {
  told = λ cs h. subst (λ (x : DeskTold). Agrees x.calls (cs ++ [])) (sym same) (agrees_as d.calls cs (cs ++ []) (sym (append-nil cs)) h);
  counts = λ n h. ap (λ (x : DeskTold). x.faults) same ∙ h ∙ ap count_told (omega arith);
}

-- a call
pub goes_by_call : (d e : DeskTold) (event : Event) (clock : ℤ) (outcome : Result Answer Fault) → e ≡ after_call d event clock outcome
    → Goes d e (running.call_of clock (Some event) (Some (reply_in outcome))) (fault_count (Some (reply_in outcome)))
goes_by_call d e event clock (Ok answer) is = record {
  told = λ cs h. subst (λ (x : DeskTold). Agrees x.calls (cs ++ map as_told (record { event = event; clock = clock; reply = answer.reply } ∷ []))) (sym is) (agrees_adds d.calls cs _ h);
  counts = λ n h. ap (λ (x : DeskTold). x.faults) is ∙ h ∙ ap count_told (omega arith);
}
goes_by_call d e event clock (Err fault) is = record {
  told = λ cs h. subst (λ (x : DeskTold). Agrees x.calls (cs ++ [])) (sym is) (agrees_as d.calls cs (cs ++ []) (sym (append-nil cs)) h);
  counts = λ n h. ap (λ (x : DeskTold). x.faults) is ∙ ap up h ∙ counted_up n;
}

-- one after the other
pub goes_on : {d e f : DeskTold} {xs ys : List running.Call} {m n : ℕ} → Goes d e xs m → Goes e f ys n → Goes d f (xs ++ ys) (m + n)
goes_on {d} {e} {f} {xs} {ys} {m} {n} g h = record {
  told = λ cs a. agrees_as f.calls _ _ (append_assoc cs (map as_told xs) (map as_told ys) ∙ ap (λ zs. cs ++ zs) (sym (map-append as_told xs ys))) (h.told _ (g.told cs a));
  counts = λ k a. h.counts (k + m) (g.counts k a) ∙ ap count_told (omega arith);
}

-- the same, where they are called otherwise
pub goes_as : {d e : DeskTold} {xs ys : List running.Call} {m n : ℕ} → Goes d e xs m → ys ≡ xs → n ≡ m → Goes d e ys n
goes_as {d} {e} {xs} {ys} {m} g p q = subst (λ k. Goes d e ys k) (sym q) (subst (λ zs. Goes d e zs m) (sym p) g)

-- ---- a source

-- one more that is used, and one that isn't
pub picked_more : {A : Type 0} (used given : List A) (m : A) → IsPicked used given → IsPicked (used ++ m ∷ []) (given ++ m ∷ [])
picked_more used [] m h = inr ([], ap (λ us. us ++ m ∷ []) h, refl)
picked_more used (g ∷ gs) m (inl h) = inl (picked_more used gs m h)
picked_more used (g ∷ gs) m (inr h) = inr (h.0 ++ m ∷ [], ap (λ us. us ++ m ∷ []) h.1, picked_more h.0 gs m h.2)

pub picked_still : {A : Type 0} (used given : List A) (m : A) → IsPicked used given → IsPicked used (given ++ m ∷ [])
picked_still used [] m h = inl h
picked_still used (g ∷ gs) m (inl h) = inl (picked_still used gs m h)
picked_still used (g ∷ gs) m (inr h) = inr (h.0, h.1, picked_still h.0 gs m h.2)
