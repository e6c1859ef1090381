-- A seat at which no context looks at a touched entry stays as it is.
use Rattle.std.proofs.Common.{◌≡◌, ℕ, ◌+◌, ◌==◌, ◌≤◌, Bool, true, false, cond, nat_lt, List, [], ◌∷◌, ◌++◌, length, refl, sym, ◌∙◌, ap, arith}
use Rattle.std.proofs.lemmas.Bool.{eqb-true, ltb-true}
use Rattle.std.proofs.lemmas.List.Sums.{sum_by-cons}
use Rattle.std.specs.Cmp.{first_so, second_so}
use Rattle.std.specs.List.{Contains}
use Rattle.acap_notices.specs.Waiting.{notices_pending}
use Rattle.acap_notices.specs.declared.notice.Notice.{Notice}
use Rattle.acap_rights.specs.declared.realm.Realm.{Realm}
use Rattle.acap_search.specs.Matches.{Match}
use Rattle.acap_entries.specs.Store.{Store}
use Rattle.acap_ordmap.proofs.Logic.{Contains-here, Contains-there}
use Rattle.acap_views.specs.Contexts.{Kept, Snapshot, Live, Freed, Context}
use Rattle.acap_views.specs.Current.{IsCurrentKept, IsCurrentContext}
use Rattle.acap_views.specs.Plans.{is_still, unless_still, shifts_count}
use Rattle.acap_views.specs.Preparing.{kept_after, context_after, contexts_after}
use Rattle.acap_views.specs.EntryUpdates.{EntryUpdate}

none_more : (n : ℕ) (b : Bool) → n ≤ notices_pending → nat_lt notices_pending (n + 0) ≡ b → b ≡ false
none_more n true h e = absurd (omega (arith, h, ltb-true _ _ e))
none_more n false h e = refl

none_added : (ns : List Notice) → ns ++ [] ≡ ns
none_added [] = refl
none_added (n ∷ ns) = ap (λ t. n ∷ t) (none_added ns)

kept_still : (enumerated : Bool) (last : List Match) (kept : Kept) → IsCurrentKept last enumerated kept → kept_after enumerated [] kept ≡ kept
kept_still enumerated last (Snapshot shown) i = refl
kept_still enumerated last (Live shown now pending) i =
    ap (λ b. cond b Freed (Live shown now (pending ++ []))) (none_more (length pending) _ i.few refl) ∙ ap (Live shown now) (none_added pending)
kept_still enumerated last Freed i = refl

no_shifts : (shifts : List EntryUpdate) → (length shifts == 0) ≡ true → shifts ≡ []
no_shifts [] e = refl
no_shifts (s ∷ shifts) e = absurd (omega (arith, eqb-true _ _ e))

module _ (store : Store) (realm : Realm) (user : List ℕ) where
  context_still : (shifts : List EntryUpdate) (context : Context) → (length shifts == 0) ≡ true → IsCurrentContext store realm user context → context_after shifts context ≡ context
  context_still shifts context e i =
      ap (λ ss. context_after ss context) (no_shifts shifts e) ∙ (λ j. record context { kept = kept_still context.enumerated _ context.kept i.kept j })

  contexts_still : (turns : List (List EntryUpdate)) (es : List (List ℕ × Context)) → is_still turns ≡ true → ((e : List ℕ × Context) → Contains es e → IsCurrentContext store realm user e.1)
      → contexts_after turns es ≡ es
  contexts_still [] es s i = refl
  contexts_still (shifts ∷ turns) [] s i = refl
  contexts_still (shifts ∷ turns) (e ∷ es) s i = λ j.
      (e.0, context_still shifts e.1 (first_so _ _ s) (i e (Contains-here e es)) j) ∷ contexts_still turns es (second_so _ _ s) (λ x k. i x (Contains-there e x es k)) j

  pub contexts_trimmed : (turns : List (List EntryUpdate)) (es : List (List ℕ × Context)) → ((e : List ℕ × Context) → Contains es e → IsCurrentContext store realm user e.1)
      → contexts_after (unless_still turns) es ≡ contexts_after turns es
  contexts_trimmed turns es i = elim (is_still turns) as (λ b. is_still turns ≡ b → contexts_after (cond b [] turns) es ≡ contexts_after turns es) [
    | true ↦ λ s. sym (contexts_still turns es s i)
    | false ↦ λ s. refl
  ] refl

-- and no entry is counted for it

none_counted : (turns : List (List EntryUpdate)) → is_still turns ≡ true → shifts_count turns ≡ 0
none_counted [] s = refl
none_counted (shifts ∷ turns) s =
    let none : length shifts ≡ 0 = ap length (no_shifts shifts (first_so _ _ s)) in
    sum_by-cons length shifts turns ∙ omega (arith, none, none_counted turns (second_so _ _ s))

pub count_trimmed : (turns : List (List EntryUpdate)) → shifts_count (unless_still turns) ≡ shifts_count turns
count_trimmed turns = elim (is_still turns) as (λ b. is_still turns ≡ b → shifts_count (cond b [] turns) ≡ shifts_count turns) [
  | true ↦ λ s. sym (none_counted turns s)
  | false ↦ λ s. refl
] refl
