-- What a search finds is what is matched, in order.
use Rattle.std.proofs.Common.{◌≡◌, ℕ, zero, suc, ◌<◌, ◌+◌, Bool, true, false, cond, Option, Some, None, List, [], ◌∷◌, length, get_or, sym, ◌∙◌, ap, subst, arith}
use Rattle.std.specs.Cmp.{IsStrictWeakOrder}
use Rattle.std.specs.List.Sorted.{IsPermutation, IsSortedBy}
use Rattle.std.specs.Option.{option_map_or}
use Rattle.std.proofs.lemmas.List.Sorted.{IsPermutation-refl, IsPermutation-trans, IsPermutation-cons, IsPermutation-sym, IsPermutation-middle}
use Rattle.acap_entries.specs.declared.path.Path.{Path}
use Rattle.acap_commands.specs.declared.search_modifiers.SortItem.{SortItem}
use Rattle.acap_search.specs.Fresh.{Sight, is_among, tuple_of}
use Rattle.acap_search.specs.Keys.{holds}
use Rattle.acap_search.specs.Laws.{FreshLaw}
use Rattle.acap_search.specs.Matches.{Match, match_lt, put_by, sorted_from, sorted_by, ordered_by}
use Rattle.acap_search.specs.Rows.{Names, items_of, stars_of}
use Rattle.acap_search.specs.Tuples.{match_of}
use Rattle.acap_search.specs.Walks.{quest_of, hits_over}
use Rattle.acap_search.specs.declared.query.SearchSpec.{SearchSpec}
use Rattle.acap_search.proofs.OrderLemmas.{match_weak}
use Rattle.acap_search.proofs.SortLemmas.{Rises, sorted_by_rises}
use Rattle.acap_search.proofs.TupleLemmas.{made_is}
use Rattle.acap_search.proofs.WalkLemmas.{fresh_is}

-- ---- a sort moves and takes nothing away

module _ {X : Type 0} (lt : X → X → Bool) where
  put_moves : (x : X) (ys : List X) → IsPermutation (x ∷ ys) (put_by lt x ys)
  put_moves x [] = IsPermutation-refl (x ∷ [])
  put_moves x (y ∷ ys) =
      elim (lt y x) as (λ b. IsPermutation (x ∷ y ∷ ys) (cond b (y ∷ put_by lt x ys) (x ∷ y ∷ ys))) [
        | true ↦ IsPermutation-trans (x ∷ y ∷ ys) (y ∷ x ∷ ys) (y ∷ put_by lt x ys) (IsPermutation-sym (y ∷ x ∷ ys) (x ∷ y ∷ ys) (IsPermutation-middle (y ∷ []) x ys)) (IsPermutation-cons y (x ∷ ys) (put_by lt x ys) (put_moves x ys))
        | false ↦ IsPermutation-refl (x ∷ y ∷ ys)
      ]

  sorted_moves : (xs : List X) → IsPermutation xs (sorted_from lt xs)
  sorted_moves [] = IsPermutation-refl []
  sorted_moves (x ∷ xs) = IsPermutation-trans (x ∷ xs) (x ∷ sorted_from lt xs) (put_by lt x (sorted_from lt xs)) (IsPermutation-cons x xs (sorted_from lt xs) (sorted_moves xs)) (put_moves x (sorted_from lt xs))

  pub order_moves : (xs : List X) → IsPermutation xs (sorted_by lt xs)
  unfolding sorted_by
  order_moves xs = sorted_moves xs

moved : (sort : Option (List SortItem)) (ms : List Match) → IsPermutation ms (ordered_by sort ms)
moved None ms = IsPermutation-refl ms
moved (Some sort) ms = order_moves match_lt ms

-- ---- a list that rises is sorted

module _ {X : Type 0} (lt : X → X → Bool) (o : IsStrictWeakOrder lt) where
  rises_next : (xs : List X) (k : ℕ) (d : X) → Rises lt o xs → suc k < length xs → lt (get_or xs (suc k) d) (get_or xs k d) ≡ false
  rises_next [] k d r h = absurd (omega arith)
  rises_next (x ∷ []) k d r h = absurd (omega arith)
  rises_next (x ∷ y ∷ ys) zero d r h = r.0.0
  rises_next (x ∷ y ∷ ys) (suc k) d r h = rises_next (y ∷ ys) k d r.1 (omega arith)

  rises_sorted : (xs : List X) → Rises lt o xs → IsSortedBy lt xs
  rises_sorted xs r k d low h =
      let next : k + 1 ≡ suc k = omega arith in
      ap (λ n. lt (get_or xs n d) (get_or xs k d)) next ∙ rises_next xs k d r (omega (arith, h))

-- ---- rows

untold : (sight : Sight) (sought : SearchSpec) (path : Path) (found : Match) → sought.returns ≡ None → tuple_of sight sought path ≡ Some found → found.row.items ≡ []
untold sight sought path found e h =
    let stars : List ℕ → Names = stars_of (sight.answers path).read (sight.attributes path) in
    let same = (made_is (is_among sight.paths path) (holds sought.key None (sight.answers path)) (match_of sought path (sight.answers path) stars) found h).1.1 in
    ap (λ (m : Match). m.row.items) (sym same) ∙ ap (λ returns. option_map_or (items_of (sight.answers path) stars) returns []) e

pub fresh_law : FreshLaw
fresh_law = record {
  all = λ records realm user sought. moved sought.sort _;
  order = λ records realm user sought.
      rises_sorted match_lt match_weak _ (subst (Rises match_lt match_weak) (fresh_is records realm user sought) (sorted_by_rises match_lt match_weak (hits_over (quest_of records realm user sought))));
  untold = untold;
}
