-- What follows of lists of items in their own order.
use Rattle.std.proofs.Common.{◌≡◌, ℕ, zero, suc, ◌<◌, ◌≤◌, true, false, cond, List, [], ◌∷◌, ◌++◌, length, get_or, set, take, drop, Option, Some, None, refl, sym, ap, subst, ◌∙◌, arith}
use Rattle.std.specs.Option.{option_map}
use Rattle.std.specs.declared.cmp.Ordering.{Ordering}
use Rattle.std.specs.declared.cmp.Ordering.TheVariants.{Less, Equal, Greater}
use Rattle.std.specs.Ordering.{is_eq, is_lt, ordering_reverse, eq_by_cmp}
use Rattle.std.specs.Cmp.{IsTotalOrder, tied_itself}
use Rattle.std.specs.List.{slice_get, insert, remove}
use Rattle.std.proofs.lemmas.Option.{slice_get-get_or, get_or_from_slice_get}
use Rattle.acap_ordmap.specs.Sorted.{place, is_tied, found, without, entry_of, put_in, InOrder}
use Rattle.acap_ordmap.specs.Ranks.{units, Ascending, rank_of, item_at, with_item, without_item}
use Rattle.acap_ordmap.specs.RankLaws.{own_keys, RankLaw}
use Rattle.acap_ordmap.proofs.SortedLemmas.{tied_lt, entry_tied, entry_absent, put_in_tied, put_in_absent, without_tied, without_absent}
use Rattle.acap_ordmap.proofs.Halves.{equal_at}
use Rattle.acap_ordmap.proofs.MapLemmas.{put_in_order, without_in_order}
use Rattle.acap_ordmap.proofs.RankLemmas.{items, items_units, items_get, put_items, without_items, item_entry, ascending, in_order, place_rank, rank_cons}

-- ---- edits of entries, and what they make of the keys

items_take : {K X : Type 0} (es : List (K × X)) (i : ℕ) → items (take i es) ≡ take i (items es)
items_take es zero = refl
items_take [] (suc i) = refl
items_take {K} (x ∷ es) (suc i) = ap (λ (t : List K). x.0 ∷ t) (items_take es i)

items_drop : {K X : Type 0} (es : List (K × X)) (i : ℕ) → items (drop i es) ≡ drop i (items es)
items_drop es zero = refl
items_drop [] (suc i) = refl
items_drop (x ∷ es) (suc i) = items_drop es i

items_append : {K X : Type 0} (a b : List (K × X)) → items (a ++ b) ≡ items a ++ items b
items_append [] b = refl
items_append {K} (x ∷ a) b = ap (λ (t : List K). x.0 ∷ t) (items_append a b)

items_insert : {K X : Type 0} (es : List (K × X)) (i : ℕ) (e : K × X) → items (insert es i e) ≡ insert (items es) i e.0
items_insert {K} es i e =
    items_append (take i es) (e ∷ drop i es)
    ∙ ap (λ (t : List K). t ++ e.0 ∷ items (drop i es)) (items_take es i)
    ∙ ap (λ (t : List K). take i (items es) ++ e.0 ∷ t) (items_drop es i)

items_remove : {K X : Type 0} (es : List (K × X)) (i : ℕ) → items (remove es i) ≡ remove (items es) i
items_remove {K} es i =
    items_append (take i es) (drop (suc i) es)
    ∙ ap (λ (t : List K). t ++ items (drop (suc i) es)) (items_take es i)
    ∙ ap (λ (t : List K). take i (items es) ++ t) (items_drop es (suc i))

items_set : {K X : Type 0} (es : List (K × X)) (i : ℕ) (d : K × X) (v : X) → items (set es i ((get_or es i d).0, v)) ≡ items es
items_set [] i d v = refl
items_set (x ∷ es) zero d v = refl
items_set {K} (x ∷ es) (suc i) d v = ap (λ (t : List K). x.0 ∷ t) (items_set es i d v)

items_keyed : {K : Type 0} (xs : List K) → items (own_keys xs) ≡ xs
items_keyed [] = refl
items_keyed {K} (x ∷ xs) = ap (λ (t : List K). x ∷ t) (items_keyed xs)

within : {A : Type 0} (xs : List A) (i : ℕ) (x : A) → slice_get xs i ≡ Some x → i < length xs
within [] i x e = cc
within (y ∷ xs) zero x e = omega arith
within (y ∷ xs) (suc i) x e = omega (arith, within xs i x e)

units_get : {K : Type 0} (xs : List K) (i : ℕ) (d : K) → (get_or (units xs) i (d, tt)).0 ≡ get_or xs i d
units_get [] i d = refl
units_get (x ∷ xs) zero d = refl
units_get (x ∷ xs) (suc i) d = units_get xs i d

units_length : {K : Type 0} (xs : List K) → length (units xs) ≡ length xs
units_length [] = refl
units_length (x ∷ xs) = ap suc (units_length xs)

module _ {K : Type 0} (R : K → K → Ordering) (o : IsTotalOrder R) where
  order_of : (xs : List K) → Ascending R xs → InOrder R (units xs)
  order_of xs h = in_order R (units xs) (subst (λ (t : List K). Ascending R t) (sym (items_units xs)) h)

  rank_is : (k : K) (xs : List K) → Ascending R xs → place R k (units xs) ≡ rank_of R k xs
  rank_is k xs h = place_rank R o k (units xs) (order_of xs h) ∙ ap (λ (t : List K). rank_of R k t) (items_units xs)

  item_is : (k : K) (xs : List K) → option_map (λ (e : K × Unit {0}). e.0) (entry_of R k (units xs)) ≡ item_at R k xs
  item_is k xs = item_entry R k (units xs) ∙ ap (λ (t : List K). item_at R k t) (items_units xs)

  -- a key that ties with no entry has no item
  none_tied : (k : K) (xs : List K) → Ascending R xs → is_tied R k (units xs) ≡ false → item_at R k xs ≡ None
  none_tied k xs h t = sym (item_is k xs) ∙ ap (λ (e : Option (K × Unit {0})). option_map (λ (e : K × Unit {0}). e.0) e) (entry_absent R o k (units xs) (order_of xs h) t)

  one_tied : (k d : K) (xs : List K) → Ascending R xs → is_tied R k (units xs) ≡ true → item_at R k xs ≡ Some (get_or (units xs) (place R k (units xs)) (d, tt)).0
  one_tied k d xs h t = sym (item_is k xs) ∙ ap (λ (e : Option (K × Unit {0})). option_map (λ (e : K × Unit {0}). e.0) e) (entry_tied R o k (units xs) (d, tt) (order_of xs h) t)

  is_tied_if : (k x : K) (xs : List K) → Ascending R xs → item_at R k xs ≡ Some x → is_tied R k (units xs) ≡ true
  is_tied_if k x xs h e = elim (is_tied R k (units xs)) as (λ b. is_tied R k (units xs) ≡ b → b ≡ true) [
    | true ↦ λ t. refl
    | false ↦ λ t. let none = none_tied k xs h t in absurd (cc (e, none))
  ] refl

  not_tied_if : (k : K) (xs : List K) → Ascending R xs → item_at R k xs ≡ None → is_tied R k (units xs) ≡ false
  not_tied_if k xs h e = elim (is_tied R k (units xs)) as (λ b. is_tied R k (units xs) ≡ b → b ≡ false) [
    | true ↦ λ t. let one = one_tied k k xs h t in absurd (cc (e, one))
    | false ↦ λ t. refl
  ] refl

  there : (k x : K) (xs : List K) → Ascending R xs → item_at R k xs ≡ Some x → slice_get xs (rank_of R k xs) ≡ Some x
  there k x xs h e =
      let es = units xs in
      let t = is_tied_if k x xs h e in
      let p = place R k es in
      ap (λ n. slice_get xs n) (sym (rank_is k xs h))
      ∙ ap (λ (ys : List K). slice_get ys p) (sym (items_units xs))
      ∙ sym (items_get es p)
      ∙ ap (λ (y : Option (K × Unit {0})). option_map (λ (e : K × Unit {0}). e.0) y) (slice_get-get_or es p (x, tt) (tied_lt R k es t))
      ∙ sym (one_tied k x xs h t) ∙ e

  own : (i : ℕ) (x : K) (xs : List K) → Ascending R xs → slice_get xs i ≡ Some x → rank_of R x xs ≡ i
  own i x xs h e =
      let lt : i < length (units xs) = omega (arith, within xs i x e, units_length xs) in
      let here : (get_or (units xs) i (x, tt)).0 ≡ x = units_get xs i x ∙ get_or_from_slice_get xs i x x e in
      sym (rank_is x xs h) ∙ (equal_at R o x (units xs) i (x, tt) (order_of xs h) lt (ap (λ y. R x y) here ∙ tied_itself o x)).0

  below : (k l x : K) → R k l ≡ Less → cond (is_lt (R x k)) 1 0 ≤ cond (is_lt (R x l)) 1 0
  below k l x p = elim (R x k) as (λ r. R x k ≡ r → cond (is_lt r) 1 0 ≤ cond (is_lt (R x l)) 1 0) [
    | Less ↦ λ q. rw (o.trans x k l q p) (omega arith)
    | Equal ↦ λ q. omega arith
    | Greater ↦ λ q. omega arith
  ] refl

  rises : (k l : K) (xs : List K) → R k l ≡ Less → rank_of R k xs ≤ rank_of R l xs
  unfolding rank_of
  rises k l [] p = omega arith
  rises k l (x ∷ xs) p =
      let a = rank_cons R k x xs in
      let b = rank_cons R l x xs in
      omega (arith, a, b, below k l x p, rises k l xs p)

  strictly : (k l x : K) (xs : List K) → R k l ≡ Less → item_at R k xs ≡ Some x → rank_of R k xs < rank_of R l xs
  unfolding item_at
  strictly k l x [] p = λ e. cc
  strictly k l x (y ∷ xs) p = elim (R k y) as (λ r. R k y ≡ r → cond (is_eq r) (Some y) (item_at R k xs) ≡ Some x → rank_of R k (y ∷ xs) < rank_of R l (y ∷ xs)) [
    | Less ↦ λ q e. omega (arith, rank_cons R k y xs, rank_cons R l y xs, below k l y p, strictly k l x xs p e)
    | Equal ↦ λ q e.
        let back : R y k ≡ Equal = o.antisymm y k ∙ ap ordering_reverse q in
        let low : ◌≡◌ {A = ℕ} (cond (is_lt (R y k)) 1 0) 0 = ap (λ r. cond (is_lt r) 1 0) back in
        let high : ◌≡◌ {A = ℕ} (cond (is_lt (R y l)) 1 0) 1 = ap (λ r. cond (is_lt r) 1 0) (o.congr y k l back ∙ p) in
        omega (arith, rank_cons R k y xs, rank_cons R l y xs, low, high, rises k l xs p)
    | Greater ↦ λ q e. omega (arith, rank_cons R k y xs, rank_cons R l y xs, below k l y p, strictly k l x xs p e)
  ] refl

  put_new : (x : K) (xs : List K) → Ascending R xs → item_at R x xs ≡ None → with_item R x xs ≡ insert xs (rank_of R x xs) x
  put_new x xs h e =
      let es = units xs in
      ap (λ (t : List K). with_item R x t) (sym (items_units xs)) ∙ sym (put_items R x tt es)
      ∙ ap items (put_in_absent R x tt es (not_tied_if x xs h e)) ∙ items_insert es (place R x es) (x, tt)
      ∙ ap (λ (t : List K). insert t (place R x es) x) (items_units xs) ∙ ap (λ n. insert xs n x) (rank_is x xs h)

  put_tied : (x y : K) (xs : List K) → Ascending R xs → item_at R x xs ≡ Some y → with_item R x xs ≡ xs
  put_tied x y xs h e =
      let es = units xs in
      ap (λ (t : List K). with_item R x t) (sym (items_units xs)) ∙ sym (put_items R x tt es)
      ∙ ap items (put_in_tied R x tt es (x, tt) (is_tied_if x y xs h e)) ∙ items_set es (place R x es) (x, tt) tt ∙ items_units xs

  taken : (k x : K) (xs : List K) → Ascending R xs → item_at R k xs ≡ Some x → without_item R k xs ≡ remove xs (rank_of R k xs)
  taken k x xs h e =
      let es = units xs in
      ap (λ (t : List K). without_item R k t) (sym (items_units xs)) ∙ sym (without_items R k es)
      ∙ ap items (without_tied R o k es (order_of xs h) (is_tied_if k x xs h e)) ∙ items_remove es (place R k es)
      ∙ ap (λ (t : List K). remove t (place R k es)) (items_units xs) ∙ ap (λ n. remove xs n) (rank_is k xs h)

  absent : (k : K) (xs : List K) → Ascending R xs → item_at R k xs ≡ None → without_item R k xs ≡ xs
  absent k xs h e =
      let es = units xs in
      ap (λ (t : List K). without_item R k t) (sym (items_units xs)) ∙ sym (without_items R k es)
      ∙ ap items (without_absent R o k es (order_of xs h) (not_tied_if k xs h e)) ∙ items_units xs

  after_put : (x : K) (xs : List K) → Ascending R xs → Ascending R (with_item R x xs)
  after_put x xs h =
      let es = units xs in
      subst (λ (t : List K). Ascending R t) (put_items R x tt es ∙ ap (λ (t : List K). with_item R x t) (items_units xs)) (ascending R (put_in R x tt es) (put_in_order R o es x tt (order_of xs h)))

  after_take : (k : K) (xs : List K) → Ascending R xs → Ascending R (without_item R k xs)
  after_take k xs h =
      let es = units xs in
      subst (λ (t : List K). Ascending R t) (without_items R k es ∙ ap (λ (t : List K). without_item R k t) (items_units xs)) (ascending R (without R k es) (without_in_order R o es k (order_of xs h)))

  as_found : (k : K) (xs : List K) → item_at R k xs ≡ found R k (own_keys xs)
  unfolding item_at found
  as_found k [] = refl
  as_found k (x ∷ xs) = elim (eq_by_cmp R k x) as (λ b. cond b (Some x) (item_at R k xs) ≡ cond b (Some x) (found R k (own_keys xs))) [
    | true ↦ refl
    | false ↦ as_found k xs
  ]

  pub rank_holds : RankLaw R
  rank_holds = record {
    there = there;
    own = own;
    rises = rises;
    strictly = strictly;
    put_new = put_new;
    put_tied = put_tied;
    taken = taken;
    absent = absent;
    after_put = after_put;
    after_take = after_take;
    as_found = as_found;
    as_put = λ x xs. sym (put_items R x x (own_keys xs) ∙ ap (λ (t : List K). with_item R x t) (items_keyed xs));
    as_without = λ k xs. sym (without_items R k (own_keys xs) ∙ ap (λ (t : List K). without_item R k t) (items_keyed xs));
  }
