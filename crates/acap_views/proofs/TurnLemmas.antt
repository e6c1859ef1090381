-- What a change that is about to be committed comes to, context by context and seat by seat.
use Rattle.std.proofs.Common.{◌≡◌, ℕ, ◌+◌, ◌<◌, ◌≤◌, List, [], ◌∷◌, length, take, get_or, Result, Ok, Err, refl, sym, ◌∙◌, ap, subst, arith, map as each}
use Rattle.std.proofs.lemmas.List.Sums.{sum_by-cons, sum_by_more, sum_by_more_le}
use Rattle.std.specs.Cmp.{nat_cmp_total}
use Rattle.std.specs.FinMap as table
use Rattle.std.specs.FinMap.{nat_cmp-IsAntisymmetric}
use Rattle.std.specs.List.{sum_by}
use Rattle.std.specs.Ordering.{nat_cmp}
use Rattle.acap_entries.specs.Orders.{octets_cmp}
use Rattle.acap_ordmap.specs.Sorted.{InOrder}
use Rattle.std.specs.Result.{IsErr}
use Rattle.acap_entries.specs.declared.path.Path.{Path}
use Rattle.acap_search.specs.Counting.{IsCounted}
use Rattle.acap_search.specs.declared.query.SearchSpec.{SearchSpec}
use Rattle.acap_views.specs.PlannedChanges.{Planned, store_ahead}
use Rattle.acap_views.specs.Contexts.{Context}
use Rattle.acap_views.specs.Keeping.{RoomyContext, RoomyContexts, RoomyOccupant, contexts_in, occupant_in}
use Rattle.acap_views.specs.Listing.{as_seated, bare, bare_seat}
use Rattle.acap_views.specs.Plans.{live_shifts, work_in, needed_in, work_at, turns_by, unless_still, work_of, needed_of}
use Rattle.acap_views.specs.Preparing.{shift_for}
use Rattle.acap_views.specs.ContextViews.{ContextView, shift_in}
use Rattle.acap_views.specs.Seats.{Occupant, Seated}
use Rattle.acap_views.specs.EntryUpdates.{EntryUpdate}
use Rattle.acap_views.specs.Touching.{looked_at_by}
use Rattle.acap_views.proofs.KeepingLemmas.{listed_entries}
use Rattle.acap_views.proofs.ValueLemmas.{entries_kept}

-- ---- sums over lists that loops go through

module _ {E : Type 0} (w : E → ℕ) where
  pub part_counted : (items : List E) (i : ℕ) (e : E) → i < length items → e ≡ get_or items i e → sum_by w (take i items) + w e ≤ sum_by w items
  part_counted items i e h g = subst (λ x. sum_by w (take i items) + w x ≤ sum_by w items) (sym g) (sum_by_more_le w items i e h)

  pub one_counted : (items : List E) (i : ℕ) (e : E) → i < length items → e ≡ get_or items i e → sum_by w (take (i + 1) items) ≡ sum_by w (take i items) + w e
  one_counted items i e h g = sum_by_more w items i e h ∙ ap (λ x. sum_by w (take i items) + w x) (sym g)

sum_each : {A B : Type 0} (f : A → B) (w : B → ℕ) (xs : List A) → sum_by w (each f xs) ≡ sum_by (λ x. w (f x)) xs
sum_each f w [] = refl
sum_each f w (x ∷ xs) = sum_by-cons w (f x) (each f xs) ∙ (ap (λ n. w (f x) + n) (sum_each f w xs) ∙ sym (sum_by-cons (λ x. w (f x)) x xs))

each_each : {A B C : Type 0} (f : A → B) (k : B → C) (xs : List A) → each k (each f xs) ≡ each (λ x. k (f x)) xs
each_each f k [] = refl
each_each f k (x ∷ xs) = ap (λ t. k (f x) ∷ t) (each_each f k xs)

-- ---- the contexts of a seat, and the seats

abbrev pub work_there : Planned → List ℕ × RoomyContext → ℕ
work_there plan entry = work_in plan entry.1.context

abbrev pub shifts_there : Planned → List ℕ → List ℕ × RoomyContext → List EntryUpdate
shifts_there plan user entry = needed_in plan user entry.1.context

abbrev pub seat_work : Planned → ℕ × RoomyOccupant → ℕ
seat_work plan entry = work_at plan (occupant_in entry.1)

abbrev pub seat_turns : Planned → ℕ × RoomyOccupant → List (List EntryUpdate)
seat_turns plan entry = turns_by (needed_in plan) (occupant_in entry.1)

module _ (plan : Planned) (es : List (List ℕ × RoomyContext)) (o : RoomyOccupant) (h : InOrder octets_cmp es) (v : table.from_sorted es ≡ o.contexts) where
  pub work_listed : work_at plan (occupant_in o) ≡ sum_by (work_there plan) es
  work_listed =
      ap (λ (cs : RoomyContexts). sum_by (work_in plan) (table.values (contexts_in cs))) (sym v)
      ∙ (ap (λ (xs : List (List ℕ × Context)). sum_by (work_in plan) (each (λ (x : List ℕ × Context). x.1) xs)) (listed_entries es h)
      ∙ (sum_each (λ (x : List ℕ × Context). x.1) (work_in plan) (each bare es) ∙ sum_each bare (λ (x : List ℕ × Context). work_in plan x.1) es))

  pub turns_listed : turns_by (needed_in plan) (occupant_in o) ≡ unless_still (each (shifts_there plan o.user) es)
  turns_listed = ap unless_still (
      ap (λ (cs : RoomyContexts). each (needed_in plan o.user) (table.values (contexts_in cs))) (sym v)
      ∙ (ap (λ (xs : List (List ℕ × Context)). each (needed_in plan o.user) (each (λ (x : List ℕ × Context). x.1) xs)) (listed_entries es h)
      ∙ (each_each (λ (x : List ℕ × Context). x.1) (needed_in plan o.user) (each bare es) ∙ each_each bare (λ (x : List ℕ × Context). needed_in plan o.user x.1) es)))

module _ (plan : Planned) (es : List (ℕ × RoomyOccupant)) (s : Seated) (h : InOrder nat_cmp es) (v : as_seated es ≡ s) where
  pub seats_work : work_of plan s ≡ sum_by (seat_work plan) es
  seats_work =
      ap (λ (x : Seated). sum_by (work_at plan) (table.values x)) (sym v)
      ∙ (ap (λ (xs : List (ℕ × Occupant)). sum_by (work_at plan) (each (λ (x : ℕ × Occupant). x.1) xs)) (entries_kept nat_cmp_total nat_cmp-IsAntisymmetric occupant_in es h)
      ∙ (sum_each (λ (x : ℕ × Occupant). x.1) (work_at plan) (each bare_seat es) ∙ sum_each bare_seat (λ (x : ℕ × Occupant). work_at plan x.1) es))

  pub seats_turns : needed_of plan s ≡ each (seat_turns plan) es
  seats_turns =
      ap (λ (x : Seated). each (turns_by (needed_in plan)) (table.values x)) (sym v)
      ∙ (ap (λ (xs : List (ℕ × Occupant)). each (turns_by (needed_in plan)) (each (λ (x : ℕ × Occupant). x.1) xs)) (entries_kept nat_cmp_total nat_cmp-IsAntisymmetric occupant_in es h)
      ∙ (each_each (λ (x : ℕ × Occupant). x.1) (turns_by (needed_in plan)) (each bare_seat es) ∙ each_each bare_seat (λ (x : ℕ × Occupant). turns_by (needed_in plan) x.1) es))

-- ---- of a live context

pub made_live : (plan : Planned) (user : List ℕ) (sought : SearchSpec) (scene : ContextView) (paths : List Path)
    → scene.old ≡ plan.old.records → scene.new ≡ (store_ahead plan).records → scene.realm ≡ plan.realm → scene.user ≡ user → scene.sought ≡ sought → paths ≡ looked_at_by plan sought
    → each (shift_in scene) paths ≡ live_shifts plan user sought
made_live plan user sought scene paths old new realm seen same e = λ i. each (shift_for (old i) (new i) (realm i) (seen i) (same i)) (e i)

-- ---- counts

pub counted_within : {X F : Type 0} (r : Result X F) (old now w : ℕ) → IsCounted r old now w → (old ≤ now) × (now ≤ old + w)
counted_within (Ok x) old now w h = (omega (arith, h), omega (arith, h))
counted_within (Err e) old now w h = h

pub counted_err : {X F : Type 0} (r : Result X F) (start before now w part total whole : ℕ) → IsErr r → before ≡ start + part → (before ≤ now) × (now ≤ before + w) → part + w ≤ whole → total ≡ whole
    → IsCounted r start now total
counted_err (Ok x) start before now w part total whole h b t p e = absurd (cc (h))
counted_err (Err y) start before now w part total whole h b t p e = (omega (arith, b, t.0), omega (arith, b, t.1, p, e))
