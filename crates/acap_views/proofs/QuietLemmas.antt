-- Where no context follows the store, a change changes none, and looks at nothing for them.
use Rattle.std.proofs.Common.{◌≡◌, ℕ, ◌+◌, Bool, true, false, cond, ◌||◌, Some, None, List, [], ◌∷◌, length, refl, sym, ◌∙◌, ap, subst, map as each, if◌then◌else◌}
use Rattle.std.specs.Cmp.{IsTotalOrder, nat_cmp_total}
use Rattle.std.specs.Cmp.Lexicographic.{nat_list_cmp_total}
use Rattle.std.specs.FinMap as table
use Rattle.std.specs.FinMap.{FinMap, find, nat_cmp-IsAntisymmetric, same_map, IsAntisymmetric}
use Rattle.std.specs.List.{list_any, sum_by}
use Rattle.std.specs.Option.{option_map}
use Rattle.std.specs.Ordering.{eq_by_cmp, nat_cmp}
use Rattle.std.specs.declared.cmp.Ordering.{Ordering}
use Rattle.std.proofs.lemmas.List.Sums.{sum_by-cons}
use Rattle.acap_entries.specs.Orders.{octets_cmp}
use Rattle.acap_ordmap.specs.Sorted.{InOrder}
use Rattle.acap_entries.specs.Store.{Store, Written}
use Rattle.acap_ordmap.proofs.Logic.{first_not, second_not}
use Rattle.acap_entries.proofs.StoreLemmas.{octets_same}
use Rattle.acap_notices.specs.declared.notice.Notice.{Notice}
use Rattle.acap_rights.specs.declared.realm.Realm.{Realm}
use Rattle.acap_search.specs.Matches.{Match}
use Rattle.acap_views.specs.Changing.{follows, changed_context, changed_occupant, changed_seats}
use Rattle.acap_views.specs.Contexts.{Kept, Snapshot, Live, Freed, Context}
use Rattle.acap_views.specs.Keeping.{RoomyContext, RoomyOccupant, occupant_in}
use Rattle.acap_views.specs.Listing.{as_contexts, as_seated, bare, bare_seat, live_entry, live_seat}
use Rattle.acap_views.specs.Maps.{each_value}
use Rattle.acap_views.specs.Seats.{Occupant, Seated}
use Rattle.acap_views.specs.Work.{is_live, any_live, has_live, touched_for, work_for, touched_within}
use Rattle.acap_views.proofs.KeepingLemmas.{listed_entries}
use Rattle.acap_views.proofs.ShownLemmas.{get_value}
use Rattle.acap_views.proofs.ValueLemmas.{entries_kept}

-- ---- none of a list

module _ {X : Type 0} (p : X → Bool) where
  found_none : {K : Type 0} (R : K → K → Ordering) (q : K) (es : List (K × X)) (x : X) → list_any p (each (λ e. e.1) es) ≡ false → find R q es ≡ Some x → p x ≡ false
  found_none R q [] x none e = absurd cc
  found_none R q (e ∷ es) x none f =
      elim (eq_by_cmp R q e.0) as (λ b. cond b (Some e.1) (find R q es) ≡ Some x → p x ≡ false) [
        | true ↦ λ g. (let same : e.1 ≡ x = cc in subst (λ y. p y ≡ false) same (first_not _ _ none))
        | false ↦ λ g. found_none R q es x (second_not _ _ none) g
      ] f

  got_none : {K : Type 0} {R : K → K → Ordering} (m : FinMap R X) (q : K) (x : X) → list_any p (table.values m) ≡ false → table.get m q ≡ Some x → p x ≡ false
  got_none {K} {R} m q x none e = found_none R q (table.entries m) x none (sym (table.get-entries m q) ∙ e)

  each_same : {K : Type 0} {R : K → K → Ordering} → IsTotalOrder R → IsAntisymmetric R → (f : X → X) → ((x : X) → p x ≡ false → f x ≡ x)
      → (m : FinMap R X) → list_any p (table.values m) ≡ false → each_value f m ≡ m
  each_same o a f same m none =
      same_map o a _ _ (λ q. get_value o f m q
      ∙ elim (table.get m q) as (λ r. table.get m q ≡ r → option_map f r ≡ r) [
        | None ↦ λ e. refl
        | Some x ↦ λ e. ap Some (same x (got_none m q x none e))
      ] refl)

  sum_none : (w : X → ℕ) → ((x : X) → p x ≡ false → w x ≡ 0) → (xs : List X) → list_any p xs ≡ false → sum_by w xs ≡ 0
  sum_none w zero [] none = refl
  sum_none w zero (x ∷ xs) none = sum_by-cons w x xs ∙ (λ i. zero x (first_not _ _ none) i + sum_none w zero xs (second_not _ _ none) i)

-- ---- no context changes

kept_same : (notices : List Notice) (after : List Match) (kept : Kept) → is_live kept ≡ false → follows notices after kept ≡ kept
kept_same notices after (Snapshot shown) e = refl
kept_same notices after (Live shown now pending) e = absurd cc
kept_same notices after Freed e = refl

context_same : (realm : Realm) (old new : Store) (user : List ℕ) (context : Context) → is_live context.kept ≡ false → changed_context realm old new user context ≡ context
context_same realm old new user context e = ap (λ kept. record context { kept = kept }) (kept_same _ _ context.kept e)

occupant_same : (realm : Realm) (old new : Store) (occupant : Occupant) → any_live occupant.contexts ≡ false → changed_occupant realm old new occupant ≡ occupant
occupant_same realm old new occupant e =
    ap (λ contexts. record occupant { contexts = contexts })
    (each_same (λ (c : Context). is_live c.kept) nat_list_cmp_total octets_same (changed_context realm old new occupant.user) (λ c f. context_same realm old new occupant.user c f) occupant.contexts e)

pub quiet_same : (realm : Realm) (old new : Store) (seats : Seated) → has_live seats ≡ false → changed_seats realm old new seats ≡ seats
quiet_same realm old new seats e =
    each_same (λ (o : Occupant). any_live o.contexts) nat_cmp_total nat_cmp-IsAntisymmetric (changed_occupant realm old new) (λ o f. occupant_same realm old new o f) seats e

pub quiet_work : (written : Written) (old new : Store) (seats : Seated) → has_live seats ≡ false → touched_within written old new seats ≡ 0
quiet_work written old new seats e =
    sum_none (λ (o : Occupant). any_live o.contexts) (λ o. sum_by (work_for written old new) (table.values o.contexts))
    (λ o f. sum_none (λ (c : Context). is_live c.kept) (work_for written old new) (λ c g. ap (λ b. if b then length (touched_for written old new c) else 0) g) (table.values o.contexts) f)
    (table.values seats) e

pub same_seats : (seats : Seated) → table.from_entries (table.entries seats) ≡ seats
same_seats seats = same_map nat_cmp_total nat_cmp-IsAntisymmetric _ _ (λ q. table.get-from_entries nat_cmp_total (table.entries seats) q ∙ sym (table.get-entries seats q))

-- ---- the contexts and seats as they are kept

live_bare : (es : List (List ℕ × RoomyContext)) → list_any (λ (c : Context). is_live c.kept) (each (λ e. e.1) (each bare es)) ≡ list_any live_entry es
live_bare [] = refl
live_bare (e ∷ es) = ap (λ b. live_entry e || b) (live_bare es)

pub live_listed : (es : List (List ℕ × RoomyContext)) → InOrder octets_cmp es → any_live (as_contexts es) ≡ list_any live_entry es
live_listed es h = ap (λ (xs : List (List ℕ × Context)). list_any (λ (c : Context). is_live c.kept) (each (λ e. e.1) xs)) (listed_entries es h) ∙ live_bare es

seats_bare : (es : List (ℕ × RoomyOccupant)) → list_any (λ (o : Occupant). any_live o.contexts) (each (λ e. e.1) (each bare_seat es)) ≡ list_any live_seat es
seats_bare [] = refl
seats_bare (e ∷ es) = ap (λ b. live_seat e || b) (seats_bare es)

pub seats_listed : (es : List (ℕ × RoomyOccupant)) → InOrder nat_cmp es → has_live (as_seated es) ≡ list_any live_seat es
seats_listed es h =
    ap (λ (xs : List (ℕ × Occupant)). list_any (λ (o : Occupant). any_live o.contexts) (each (λ e. e.1) xs)) (entries_kept nat_cmp_total nat_cmp-IsAntisymmetric occupant_in es h)
    ∙ seats_bare es
