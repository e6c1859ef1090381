-- Finite maps kept as entries in order.
use Rattle.std.proofs.Common.{IsTrue, length, ◌≡◌, Bool, true, false, not, cond, T, List, [], None, refl, sym, ap, subst, ◌∙◌}
use Rattle.std.specs.declared.cmp.Ordering.{Ordering}
use Rattle.std.specs.declared.cmp.Ordering.TheVariants.{Equal}
use Rattle.std.specs.Ordering.{eq_by_cmp, is_eq}
use Rattle.std.specs.Cmp.{IsTotalOrder, alike_right, eq_by_cmp_equiv}
use Rattle.std.specs.FinMap.{IsAntisymmetric, find, put, get, insert, remove, empty, entries, from_sorted, entries-from_sorted, get-from_sorted, same_entries_map, entries-insert, same_map, get-remove, empty_of_len, len, len-entries}
use Rattle.std.specs.FinMap.Entries.{find-where_key, is_sorted-where_key, is_sorted-put}
use Rattle.acap_ordmap.specs.Sorted.{without, found, put_in, InOrder}
use Rattle.acap_ordmap.proofs.Logic.{IsTrue_from_T}

in_order : (b : Bool) → IsTrue b → T b
in_order b h = subst T (sym h) tt

alike : {K : Type 0} {R : K → K → Ordering} → IsTotalOrder R → (k q x : K) → R q x ≡ Equal → eq_by_cmp R k x ≡ eq_by_cmp R k q
alike o k q x t = ap is_eq (sym (alike_right o q x k t))

turned : {A : Type 0} (b : Bool) (x y : A) → cond (not b) x y ≡ cond b y x
turned true x y = refl
turned false x y = refl

module _ {K X : Type 0} (R : K → K → Ordering) where
  pub from_sorted_none : from_sorted {X = X} {R = R} [] ≡ empty
  from_sorted_none = empty_of_len (from_sorted []) (len-entries (from_sorted []) ∙ ap (λ es. length es) (entries-from_sorted R [] tt))

  pub entries_kept : (es : List (K × X)) → InOrder R es → entries (from_sorted {R = R} es) ≡ es
  entries_kept es h = entries-from_sorted R es (in_order _ h.rises)

  pub len_kept : (es : List (K × X)) → InOrder R es → len (from_sorted {R = R} es) ≡ length es
  len_kept es h = len-entries (from_sorted es) ∙ ap (λ es. length es) (entries_kept es h)

  pub none_in_order : InOrder {X = X} R []
  none_in_order = record { rises = refl }

  module _ (o : IsTotalOrder R) where
    pub get_found : (es : List (K × X)) (q : K) → InOrder R es → get (from_sorted {R = R} es) q ≡ find R q es
    get_found es q h = get-from_sorted R es q (in_order _ h.rises)

    pub get_kept : (es : List (K × X)) (q : K) → InOrder R es → get (from_sorted {R = R} es) q ≡ found R q es
    unfolding found
    get_kept es q h = get-from_sorted R es q (in_order _ h.rises)

    pub insert_kept : (es : List (K × X)) (k : K) (v : X) → InOrder R es → from_sorted {R = R} (put_in R k v es) ≡ insert (from_sorted es) k v
    unfolding put_in
    insert_kept es k v h =
        same_entries_map _ _ (entries-from_sorted R _ (is_sorted-put R o k v es (in_order _ h.rises)) ∙ sym (entries-insert o _ k v ∙ ap (put R k v) (entries-from_sorted R es (in_order _ h.rises))))

    pub put_in_order : (es : List (K × X)) (k : K) (v : X) → InOrder R es → InOrder R (put_in R k v es)
    unfolding put_in
    put_in_order es k v h = record { rises = IsTrue_from_T _ (is_sorted-put R o k v es (in_order _ h.rises)) }

    pub without_in_order : (es : List (K × X)) (k : K) → InOrder R es → InOrder R (without R k es)
    unfolding without
    without_in_order es k h = record { rises = IsTrue_from_T _ (is_sorted-where_key R _ es (in_order _ h.rises)) }

    pub remove_kept : IsAntisymmetric R → (es : List (K × X)) (k : K) → InOrder R es → from_sorted {R = R} (without R k es) ≡ remove (from_sorted es) k
    unfolding without found
    remove_kept same es k h = same_map o same _ _ (λ q.
        get_kept _ q (without_in_order es k h) ∙ find-where_key R _ q (λ x t. ap not (alike o k q x t)) es ∙ turned (eq_by_cmp R k q) _ _ ∙ ap (λ b. cond b None (find R q es)) ((eq_by_cmp_equiv o).symm k q)
        ∙ sym (get-remove o _ k q ∙ ap (cond (eq_by_cmp R q k) None) (get_kept es q h)))
