-- The first refusal of two lists, one after the other.
use Rattle.std.proofs.Common.{◌≡◌, ℕ, ℤ, Option, Some, None, List, [], ◌∷◌, ◌++◌, refl, ap, ◌∙◌}
use Rattle.std.specs.Option.{option_or}
use Rattle.acap_entries.specs.declared.change.Change.{Change}
use Rattle.acap_commands.specs.declared.refusal.Refusal.{Refusal}
use Rattle.acap_store.specs.Refusing.{first_of}
use Rattle.acap_store.specs.Limits.{gives_large}
use Rattle.acap_store.specs.Planning.{unless_refused, written_at, refusals_by_terms, refusals_by_room, refusals_of, room_refusal, change_of, planned_for}
use Rattle.acap_store.specs.Writing.{written_for}
use Rattle.acap_store.specs.declared.write.ResolvedWrite.{ResolvedWrite}
use Rattle.acap_entries.specs.Store.{Store}
use Rattle.acap_rights.specs.declared.realm.Realm.{Realm}
use Rattle.std.specs.Prelude.{Result, Ok, Err}
use Rattle.std.specs.Result.{IsErr, IsErrAnd}
use Rattle.acap_commands.specs.Answers.{IsAnswer, IsCheck}

both : (xs ys : List (Option Refusal)) → first_of (xs ++ ys) ≡ option_or (first_of xs) (first_of ys)
both [] ys = refl
both (None ∷ xs) ys = both xs ys
both (Some refusal ∷ xs) ys = refl

-- one of the first list is the answer
refused_first : (xs ys : List (Option Refusal)) (change : Change) (refusal : Refusal) → first_of xs ≡ Some refusal → unless_refused (first_of (xs ++ ys)) change ≡ Err refusal
refused_first xs ys change refusal e = ap (λ o. unless_refused o change) (both xs ys ∙ ap (λ o. option_or o (first_of ys)) e)

-- where there is none, one of the second
refused_then : (xs ys : List (Option Refusal)) (change : Change) (refusal : Refusal) → first_of xs ≡ None → first_of ys ≡ Some refusal → unless_refused (first_of (xs ++ ys)) change ≡ Err refusal
refused_then xs ys change refusal none e = ap (λ o. unless_refused o change) (both xs ys ∙ (ap (λ o. option_or o (first_of ys)) none ∙ e))

-- ---- the answer to what a command means

pub by_terms : (s : Store) (realm : Realm) (user : List ℕ) (meant : ResolvedWrite) (now : ℤ) (refusal : Refusal)
    → IsCheck (first_of (refusals_by_terms s.records realm user meant)) (Err refusal) → IsAnswer (Err refusal) (planned_for s realm user meant now)
unfolding planned_for refusals_of
by_terms s realm user meant now refusal h =
    λ aside. refused_first (refusals_by_terms s.records realm user meant) (refusals_by_room s (gives_large meant.entries) (written_for s.records user meant.entries (written_at s now)) now)
    (change_of s user meant.entries (written_at s now)) refusal (h aside)

pub by_room : (s : Store) (realm : Realm) (user : List ℕ) (meant : ResolvedWrite) (now : ℤ) (refusal : Refusal) → first_of (refusals_by_terms s.records realm user meant) ≡ None
    → IsCheck (room_refusal s (gives_large meant.entries) (written_for s.records user meant.entries (written_at s now)) now) (Err refusal) → IsAnswer (Err refusal) (planned_for s realm user meant now)
unfolding planned_for refusals_of
by_room s realm user meant now refusal none h =
    λ aside. refused_then (refusals_by_terms s.records realm user meant) (refusals_by_room s (gives_large meant.entries) (written_for s.records user meant.entries (written_at s now)) now)
    (change_of s user meant.entries (written_at s now)) refusal none (h aside)

-- ---- an error that is handed on

pub failed_with : {A : Type 0} (result : Result A Refusal) (refusal : Refusal) → IsErr result × IsErrAnd result (λ e. e ≡ refusal) → result ≡ Err refusal
failed_with (Ok made) refusal h = absurd (cc (h.0))
failed_with (Err e) refusal h = ap Err h.1
