-- Where no context may look at a touched entry, nothing is looked at, and nothing becomes of any.
use Rattle.std.proofs.Common.{◌≡◌, ℕ, ◌+◌, ◌==◌, Bool, true, false, cond, ◌&&◌, List, [], ◌∷◌, length, refl, sym, ◌∙◌, ap, map as each, if◌then◌else◌}
use Rattle.std.specs.Prelude.{is_some}
use Rattle.std.specs.List.{sum_by}
use Rattle.std.proofs.lemmas.List.Sums.{sum_by-cons}
use Rattle.std.proofs.lemmas.Bool.{and_left, or_from}
use Rattle.acap_entries.specs.declared.path.Path.{Path}
use Rattle.acap_ordmap.proofs.Logic.{first_not, second_not, None_from_is_some}
use Rattle.acap_inherit.specs.Reaching.{TouchesNoOther}
use Rattle.acap_search.specs.declared.query.SearchSpec.{SearchSpec}
use Rattle.acap_views.specs.PlannedChanges.{Planned, store_ahead, reaching}
use Rattle.acap_views.specs.Contexts.{Kept, Snapshot, Live, Freed, Context}
use Rattle.acap_views.specs.Keeping.{RoomyContext}
use Rattle.acap_views.specs.Plans.{work_in, needed_in, is_still, unless_still}
use Rattle.acap_views.specs.Preparing.{shift_for, shifts_if, needed_if}
use Rattle.acap_views.specs.EntryUpdates.{EntryUpdate, due_among}
use Rattle.acap_views.specs.Touching.{is_asked, looked_at_by, may_look, any_may_look, may_be_in, any_may_be_in}
use Rattle.acap_views.specs.Work.{is_live}
use Rattle.acap_views.proofs.TouchingLemmas.{in_no_dataset, says_touched}
use Rattle.acap_views.proofs.TurnLemmas.{work_there, shifts_there}

alone_no : (a : Bool) → (a && true) ≡ false → a ≡ false
alone_no true e = cc
alone_no false e = refl

-- a live context that may not look looks at nothing
module _ (plan : Planned) (sought : SearchSpec) where
  none_looked : is_asked plan sought ≡ false → looked_at_by plan sought ≡ []
  none_looked e = sym (in_no_dataset plan sought (second_not (is_some sought.depth) _ e) (None_from_is_some sought.depth (first_not _ _ e)))

  pub kept_silent : (user : List ℕ) (kept : Kept) → (is_asked plan sought && is_live kept) ≡ false
      → ((if is_live kept then length (looked_at_by plan sought) else 0) ≡ 0)
      × (needed_if kept (shifts_if kept (each (shift_for plan.old.records (store_ahead plan).records plan.realm user sought) (looked_at_by plan sought))) ≡ [])
  kept_silent user (Snapshot shown) e = (refl, refl)
  kept_silent user Freed e = (refl, refl)
  kept_silent user (Live shown now pending) e =
      let none = none_looked (alone_no _ e) in
      (ap length none, ap (λ (paths : List Path). due_among now (length pending) (each (shift_for plan.old.records (store_ahead plan).records plan.realm user sought) paths)) none)

module _ (plan : Planned) (user : List ℕ) where
  work_silent : (context : Context) → may_look plan context ≡ false → work_in plan context ≡ 0
  work_silent context e = (kept_silent plan context.sought user context.kept e).0

  shifts_silent : (context : Context) → may_look plan context ≡ false → needed_in plan user context ≡ []
  shifts_silent context e = (kept_silent plan context.sought user context.kept e).1

  pub no_work : (es : List (List ℕ × RoomyContext)) → any_may_look plan es ≡ false → sum_by (work_there plan) es ≡ 0
  no_work [] e = refl
  no_work (x ∷ es) e =
      sum_by-cons (work_there plan) x es
      ∙ (λ i. work_silent x.1.context (first_not _ _ e) i + no_work es (second_not (may_look plan x.1.context) _ e) i)

  all_still : (es : List (List ℕ × RoomyContext)) → any_may_look plan es ≡ false → is_still (each (shifts_there plan user) es) ≡ true
  all_still [] e = refl
  all_still (x ∷ es) e =
      ap (λ (shifts : List EntryUpdate). (length shifts == 0) && is_still (each (shifts_there plan user) es)) (shifts_silent x.1.context (first_not _ _ e))
      ∙ all_still es (second_not (may_look plan x.1.context) _ e)

  pub no_turns : (es : List (List ℕ × RoomyContext)) → any_may_look plan es ≡ false → [] ≡ unless_still (each (shifts_there plan user) es)
  no_turns es e = sym (ap (λ b. cond b [] (each (shifts_there plan user) es)) (all_still es e))

-- ---- where nothing is touched outside of a dataset

module _ (plan : Planned) (only : List ℕ) (no_other : TouchesNoOther (reaching plan) only) where
  not_asked : (sought : SearchSpec) → may_be_in only sought ≡ false → is_asked plan sought ≡ false
  not_asked sought e =
      or_from _ _ (first_not _ _ e)
      (sym (says_touched plan (reaching plan) sought.dataset false refl (no_other sought.dataset (second_not (is_some sought.depth) _ e))))

  pub none_elsewhere : (es : List (List ℕ × RoomyContext)) → any_may_be_in only es ≡ false → any_may_look plan es ≡ false
  none_elsewhere [] e = refl
  none_elsewhere (x ∷ es) e =
      or_from (may_look plan x.1.context) _
      (and_left _ _ (not_asked x.1.context.sought (first_not _ _ e)))
      (none_elsewhere es (second_not (may_be_in only x.1.context.sought) _ e))
