-- Finite maps with other values: what stands where, and what an edit makes of them.
use Rattle.std.proofs.Common.{◌≡◌, ℕ, Bool, true, false, cond, ◌&&◌, T, Option, Some, None, List, [], ◌∷◌, length, is_some, refl, sym, ◌∙◌, ap, subst, map as each}
use Rattle.std.specs.Cmp.{IsTotalOrder}
use Rattle.std.specs.FinMap as table
use Rattle.std.specs.FinMap.{FinMap, IsAntisymmetric, is_sorted, same_map}
use Rattle.std.specs.FinMap.Entries.{below_all}
use Rattle.std.specs.List.{filter_map}
use Rattle.std.specs.Option.{option_map}
use Rattle.std.specs.Ordering.{eq_by_cmp, is_eq, is_lt}
use Rattle.std.specs.declared.cmp.Ordering.{Ordering}
use Rattle.std.specs.declared.cmp.Ordering.TheVariants.{Less, Equal, Greater}
use Rattle.acap_ordmap.specs.Sorted.{InOrder, place, is_tied}
use Rattle.std.proofs.lemmas.List.{length-map}
use Rattle.acap_ordmap.proofs.Logic.{None_from_is_some}
use Rattle.acap_views.specs.Maps.{each_value}
use Rattle.acap_views.proofs.ShownLemmas.{get_value}

pub sorted : {K X : Type 0} (R : K → K → Ordering) (es : List (K × X)) → InOrder R es → T (is_sorted R es)
sorted R es h = subst T (sym h.rises) tt

pub in_order : {K X : Type 0} (R : K → K → Ordering) (es : List (K × X)) → is_sorted R es ≡ true → InOrder R es
in_order R es h = record { rises = h }

-- the place of a key in a slice, as that in its list
pub tied_in : {K X : Type 0} (R : K → K → Ordering) (k : K) (slice es : List (K × X)) (r b : Bool) → r ≡ is_tied R k slice → r ≡ b → slice ≡ es → is_tied R k es ≡ b
tied_in R k slice es r b t e s = sym (ap (is_tied R k) s) ∙ (sym t ∙ e)

pub place_in : {K X : Type 0} (R : K → K → Ordering) (k : K) (slice es : List (K × X)) (at : ℕ) → at ≡ place R k slice → slice ≡ es → at ≡ place R k es
place_in R k slice es at p s = p ∙ ap (place R k) s

pub tied_slice : {K X : Type 0} (R : K → K → Ordering) (k : K) (slice es : List (K × X)) (r : Bool) → r ≡ is_tied R k slice → slice ≡ es → is_tied R k es ≡ true → r ≡ true
tied_slice R k slice es r t s e = t ∙ (ap (is_tied R k) s ∙ e)

-- a list in order is the entries of the map that is made of it
module _ {K X : Type 0} {R : K → K → Ordering} (o : IsTotalOrder R) (same : IsAntisymmetric R) where
  pub from_entries_sorted : (es : List (K × X)) → T (is_sorted R es) → table.from_entries {R = R} es ≡ table.from_sorted es
  from_entries_sorted es h = same_map o same _ _ (λ q. table.get-from_entries o es q ∙ sym (table.get-from_sorted R es q h))

  pub entries_made : (es : List (K × X)) → T (is_sorted R es) → table.entries (table.from_entries {R = R} es) ≡ es
  entries_made es h = ap table.entries (from_entries_sorted es h) ∙ table.entries-from_sorted R es h

through : {X Y : Type 0} (f : X → Y) (b : Bool) (x : X) (o : Option X) → option_map f (cond b (Some x) o) ≡ cond b (Some (f x)) (option_map f o)
through f true x o = refl
through f false x o = refl

out_of : {X Y : Type 0} (f : X → Y) (b : Bool) (o : Option X) → option_map f (cond b None o) ≡ cond b None (option_map f o)
out_of f true o = refl
out_of f false o = refl

some_either : {X Y : Type 0} (f : X → Y) (o : Option X) → is_some (option_map f o) ≡ is_some o
some_either f None = refl
some_either f (Some x) = refl

module _ {K X Y : Type 0} {R : K → K → Ordering} (o : IsTotalOrder R) (same : IsAntisymmetric R) (f : X → Y) where
  abbrev entry : K × X → K × Y
  entry e = (e.0, f e.1)

  all_made : (es : List (K × X)) → filter_map (λ e. option_map (λ y. (e.0, y)) (Some (f e.1))) es ≡ each entry es
  all_made [] = refl
  all_made (e ∷ es) = ap (λ t. entry e ∷ t) (all_made es)

  below_made : (k : K) (es : List (K × X)) → below_all R k (each entry es) ≡ below_all R k es
  below_made k [] = refl
  below_made k (e ∷ es) = ap (λ b. is_lt (R k e.0) && b) (below_made k es)

  pub sorted_made : (es : List (K × X)) → is_sorted R (each entry es) ≡ is_sorted R es
  sorted_made [] = refl
  sorted_made (e ∷ es) = λ i. below_made e.0 es i && sorted_made es i

  pub value_made : (m : FinMap R X) → each_value f m ≡ table.from_entries (each entry (table.entries m))
  value_made m = ap (λ es. table.from_entries es) (all_made (table.entries m))

  pub entries_value : (m : FinMap R X) → table.entries (each_value f m) ≡ each entry (table.entries m)
  entries_value m =
      ap table.entries (value_made m)
      ∙ entries_made o same (each entry (table.entries m)) (subst T (sym (sorted_made (table.entries m))) (table.entries_sorted m))

  pub entries_kept : (es : List (K × X)) → InOrder R es → table.entries (each_value f (table.from_sorted {R = R} es)) ≡ each entry es
  entries_kept es h = entries_value (table.from_sorted es) ∙ ap (each entry) (table.entries-from_sorted R es (sorted R es h))

  second_made : (es : List (K × X)) → each (λ e. e.1) (each entry es) ≡ each f (each (λ e. e.1) es)
  second_made [] = refl
  second_made (e ∷ es) = ap (λ t. f e.1 ∷ t) (second_made es)

  pub values_value : (m : FinMap R X) → table.values (each_value f m) ≡ each f (table.values m)
  values_value m = ap (each (λ e. e.1)) (entries_value m) ∙ second_made (table.entries m)

  pub insert_value : (m : FinMap R X) (k : K) (v : X) → each_value f (table.insert m k v) ≡ table.insert (each_value f m) k (f v)
  insert_value m k v = same_map o same _ _ (λ q.
      get_value o f (table.insert m k v) q ∙ ap (option_map f) (table.get-insert o m k v q) ∙ through f (eq_by_cmp R q k) v (table.get m q)
      ∙ sym (table.get-insert o (each_value f m) k (f v) q ∙ ap (cond (eq_by_cmp R q k) (Some (f v))) (get_value o f m q)))

  pub remove_value : (m : FinMap R X) (k : K) → each_value f (table.remove m k) ≡ table.remove (each_value f m) k
  remove_value m k = same_map o same _ _ (λ q.
      get_value o f (table.remove m k) q ∙ ap (option_map f) (table.get-remove o m k q) ∙ out_of f (eq_by_cmp R q k) (table.get m q)
      ∙ sym (table.get-remove o (each_value f m) k q ∙ ap (cond (eq_by_cmp R q k) None) (get_value o f m q)))

  pub empty_value : each_value f (table.empty {X = X} {R = R}) ≡ table.empty
  empty_value = same_map o same _ _ (λ q.
      get_value o f table.empty q ∙ ap (option_map f) (table.get-empty R q) ∙ sym (table.get-empty R q))

  pub has_value : (m : FinMap R X) (q : K) → table.contains_key (each_value f m) q ≡ table.contains_key m q
  has_value m q = ap (λ r. is_some r) (get_value o f m q) ∙ some_either f (table.get m q)

  pub len_value : (m : FinMap R X) → table.len (each_value f m) ≡ table.len m
  len_value m =
      table.len-entries (each_value f m) ∙ ap length (entries_value m) ∙ length-map (table.entries m) entry ∙ sym (table.len-entries m)

pub remove_missing : {K X : Type 0} {R : K → K → Ordering} (o : IsTotalOrder R) (same : IsAntisymmetric R) (m : FinMap R X) (k : K) → table.contains_key m k ≡ false → table.remove m k ≡ m
remove_missing {R = R} o same m k h = same_map o same _ _ (λ q.
    table.get-remove o m k q
    ∙ elim (R q k) as (λ r. R q k ≡ r → cond (is_eq r) None (table.get m q) ≡ table.get m q) [
      | Less ↦ λ t. refl
      | Equal ↦ λ t. sym (ap (table.get m) (same q k t) ∙ None_from_is_some (table.get m k) h)
      | Greater ↦ λ t. refl
    ] refl)
