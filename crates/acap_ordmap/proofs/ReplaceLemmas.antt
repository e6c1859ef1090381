-- One entry in the place of another: in its leaf, and among all.
use Rattle.std.proofs.Common.{◌≡◌, ℕ, suc, ◌+◌, ◌-◌, ◌<◌, ◌≤◌, true, false, not, cond, T, List, [], ◌∷◌, ◌++◌, length, get_or, set, take, drop, Some, refl, sym, ap, subst, ◌∙◌, arith, length-append}
use Rattle.std.specs.declared.cmp.Ordering.{Ordering}
use Rattle.std.specs.declared.cmp.Ordering.TheVariants.{Less, Equal, Greater}
use Rattle.std.specs.Ordering.{is_eq}
use Rattle.std.specs.Cmp.{IsTotalOrder}
use Rattle.std.specs.List.{insert}
use Rattle.std.specs.FinMap.{put, is_sorted}
use Rattle.std.specs.FinMap.Entries.{by_order, below_all}
use Rattle.std.proofs.lemmas.List.{length-set, set-append_left, set-append_right}
use Rattle.std.proofs.lemmas.List.Edits.{length-insert}
use Rattle.acap_ordmap.specs.Sorted.{place, is_tied, without, entry_of, put_in, InOrder}
use Rattle.acap_ordmap.specs.Leaves.{contents, before, weight, AreFilled}
use Rattle.acap_ordmap.specs.Replacing.{LiesAt, replaced}
use Rattle.std.proofs.lemmas.Bool.{false_from_ne_true}
use Rattle.std.proofs.lemmas.List.{get_or-append-add}
use Rattle.std.proofs.Math.ListN.{get_or-append}
use Rattle.acap_ordmap.proofs.Halves.{equal_at, less_at, greater_at}
use Rattle.acap_ordmap.proofs.SortedLemmas.{lower_equal, equal_kept, place_le, tied_lt, entry_tied, put_in_absent, without_absent}
use Rattle.acap_ordmap.proofs.LeafLemmas.{joined_at, joined_set, before_next, filled_at, filled_set, joined_set_length, leaf_in_order, entry_in_leaf, put_in_leaf, place_of_leaf, tied_in_leaf, without_none}
use Rattle.acap_ordmap.proofs.WeightLemmas.{weight_set}
use Rattle.acap_ordmap.proofs.Logic.{first_T, second_T, Less_from_T}

module _ {K X : Type 0} (R : K → K → Ordering) (o : IsTotalOrder R) where
  put_below : (k : K) (v : X) (es : List (K × X)) → T (below_all R k es) → put R k v es ≡ (k, v) ∷ es
  put_below k v [] h = refl
  put_below k v (x ∷ es) h = ap (λ r. by_order r ((k, v) ∷ x ∷ es) ((x.0, v) ∷ es) (x ∷ put R k v es)) (Less_from_T _ (first_T _ _ h))

  -- an entry whose key is there takes its place
  set_there : (k : K) (v : X) (es : List (K × X)) → T (is_sorted R es) → is_tied R k es ≡ true → set es (place R k es) (k, v) ≡ put R k v (without R k es)
  unfolding without
  set_there k v [] h = λ e. cc
  set_there k v (x ∷ es) h = elim (R k x.0) as (λ r. R k x.0 ≡ r → by_order r false true (is_tied R k es) ≡ true
      → set (x ∷ es) (by_order r 0 0 (suc (place R k es))) (k, v) ≡ put R k v (cond (not (is_eq r)) (x ∷ without R k es) (without R k es))) [
        | Less ↦ λ p e. cc
        | Equal ↦ λ p e. sym (ap (λ (t : List (K × X)). put R k v t) (equal_kept R o k x.0 es p (first_T _ _ h)) ∙ put_below k v es (lower_equal R o k x.0 es p (first_T _ _ h)))
        | Greater ↦ λ p e.
            ap (λ (t : List (K × X)). x ∷ t) (set_there k v es (second_T _ _ h) e)
            ∙ sym (ap (λ r. by_order r ((k, v) ∷ x ∷ without R k es) ((x.0, v) ∷ without R k es) (x ∷ put R k v (without R k es))) p)
      ] refl

  pub set_tied : (k : K) (v : X) (es : List (K × X)) → InOrder R es → is_tied R k es ≡ true → set es (place R k es) (k, v) ≡ replaced R k v es
  unfolding put_in
  set_tied k v es h t = set_there k v es (subst T (sym h.rises) tt) t

  -- the same of its leaf
  set_in_leaf : (ls : List (List (K × X))) (i n : ℕ) (y : K × X) → i < length ls → n < length (get_or ls i [])
      → contents (set ls i (set (get_or ls i []) n y)) ≡ set (contents ls) (before ls i + n) y
  set_in_leaf ls i n y at within =
      let front = contents (take i ls) in
      let leaf = get_or ls i [] in
      let back = contents (drop (suc i) ls) in
      let less : before ls i + n - before ls i ≡ n = omega arith in
      joined_set ls i _ at
      ∙ ap (λ (t : List (K × X)). front ++ t) (sym (set-append_left leaf back n y within))
      ∙ ap (λ m. front ++ set (leaf ++ back) m y) (sym less)
      ∙ sym (set-append_right front (leaf ++ back) (before ls i) (before ls i + n) y refl (omega arith))
      ∙ ap (λ (t : List (K × X)). set t (before ls i + n) y) (sym (joined_at ls i at))

  -- an entry of a leaf, among all
  index_among : (ls : List (List (K × X))) (i n : ℕ) → i < length ls → n < length (get_or ls i []) → before ls i + n < length (contents ls)
  index_among ls i n at within =
      let front = contents (take i ls) in
      let leaf = get_or ls i [] in
      let back = contents (drop (suc i) ls) in
      omega (arith, within, ap length (joined_at ls i at), length-append front (leaf ++ back), length-append leaf back)

  read_among : (ls : List (List (K × X))) (i n : ℕ) (e : K × X) → i < length ls → n < length (get_or ls i []) → get_or (contents ls) (before ls i + n) e ≡ get_or (get_or ls i []) n e
  read_among ls i n e at within =
      let front = contents (take i ls) in
      let leaf = get_or ls i [] in
      let back = contents (drop (suc i) ls) in
      ap (λ (es : List (K × X)). get_or es (before ls i + n) e) (joined_at ls i at) ∙ get_or-append-add front (leaf ++ back) n e ∙ get_or-append leaf back e n within

  lies_there : (k : K) (ls : List (List (K × X))) (i n : ℕ) → i < length ls → n < length (get_or ls i []) → place R k (get_or ls i []) ≡ n → place R k (contents ls) ≡ before ls i + n → LiesAt R k ls i n
  lies_there k ls i n at within here all =
      let next = before_next ls i at in
      record {
        among = record {
          rise = omega arith;
          within = omega (arith, at);
          from = omega (arith, all);
          until = omega (arith, all, next, within);
          tied = λ _. omega (arith, all, next, within);
        };
        place = sym here;
      }

  module _ (k : K) (ls : List (List (K × X))) (i n : ℕ) (e : K × X) (h : InOrder R (contents ls)) (at : i < length ls) (within : n < length (get_or ls i [])) (read : e ≡ get_or (get_or ls i []) n e) where
    -- a key that ties with it stands there
    pub ties_there : R k e.0 ≡ Equal → LiesAt R k ls i n × (is_tied R k (contents ls) ≡ true)
    ties_there tie =
        let here = equal_at R o k (get_or ls i []) n e (leaf_in_order R ls i h at) within (ap (λ (y : K × X). R k y.0) (sym read) ∙ tie) in
        let all = equal_at R o k (contents ls) (before ls i + n) e h (index_among ls i n at within) (ap (λ (y : K × X). R k y.0) (read_among ls i n e at within ∙ sym read) ∙ tie) in
        (lies_there k ls i n at within here.0 all.0, all.1)

    -- and one that is less, and greater than the entry before it, belongs there
    pub belongs_there : (d : K × X) → 0 < n → d ≡ get_or (get_or ls i []) (n - 1) d → R k e.0 ≡ Less → R k d.0 ≡ Greater → LiesAt R k ls i n × (is_tied R k (contents ls) ≡ false)
    belongs_there d some front less more =
        let leaf = get_or ls i [] in
        let order = leaf_in_order R ls i h at in
        let fore : n - 1 < length leaf = omega (arith, within) in
        let above = greater_at R o k leaf (n - 1) d order fore (ap (λ (y : K × X). R k y.0) (sym front) ∙ more) in
        let below = less_at R o k leaf n e order within (ap (λ (y : K × X). R k y.0) (sym read) ∙ less) in
        let over = greater_at R o k (contents ls) (before ls i + (n - 1)) d h (index_among ls i (n - 1) at fore) (ap (λ (y : K × X). R k y.0) (read_among ls i (n - 1) d at fore ∙ sym front) ∙ more) in
        let under = less_at R o k (contents ls) (before ls i + n) e h (index_among ls i n at within) (ap (λ (y : K × X). R k y.0) (read_among ls i n e at within ∙ sym read) ∙ less) in (
          lies_there k ls i n at within (omega (arith, above, below.0, some)) (omega (arith, over, under.0, some)),
          false_from_ne_true (is_tied R k (contents ls)) (λ t. omega (arith, over, under.1 t, some)),
        )

  module _ (k : K) (ls : List (List (K × X))) (i n : ℕ) (lies : LiesAt R k ls i n) where
    pub leaf_there : i < length ls
    leaf_there = omega (arith, lies.among.within)

    pub there_within : is_tied R k (contents ls) ≡ true → n < length (get_or ls i [])
    there_within t = let in_leaf = tied_lt R k (get_or ls i []) (tied_in_leaf R k ls i lies.among ∙ t) in omega (arith, in_leaf, lies.place)

    pub at_most : n ≤ length (get_or ls i [])
    at_most = let most = place_le R k (get_or ls i []) in omega (arith, most, lies.place)

    pub exchanged : (v : X) → InOrder R (contents ls) → is_tied R k (contents ls) ≡ true → contents (set ls i (set (get_or ls i []) n (k, v))) ≡ replaced R k v (contents ls)
    exchanged v h t =
        let index : before ls i + n ≡ place R k (contents ls) = omega (arith, lies.place, place_of_leaf R k ls i lies.among) in
        set_in_leaf ls i n (k, v) leaf_there (there_within t)
        ∙ ap (λ m. set (contents ls) m (k, v)) index
        ∙ set_tied k v (contents ls) h t

    pub exchanged_filled : (v : X) → AreFilled ls → AreFilled (set ls i (set (get_or ls i []) n (k, v)))
    exchanged_filled v f = let some = filled_at ls i f leaf_there in filled_set ls i _ f (omega (arith, some, length-set (get_or ls i []) n (k, v)))

    pub exchanged_length : (v : X) → length (contents (set ls i (set (get_or ls i []) n (k, v)))) ≡ length (contents ls)
    exchanged_length v = omega (arith, joined_set_length ls i (set (get_or ls i []) n (k, v)) leaf_there, length-set (get_or ls i []) n (k, v))

    pub exchanged_weight : (v : X) → weight (set ls i (set (get_or ls i []) n (k, v))) ≤ weight ls
    exchanged_weight v = omega (arith, weight_set ls i (set (get_or ls i []) n (k, v)) 0 leaf_there (omega (arith, length-set (get_or ls i []) n (k, v))))

    pub exchanged_for : (d : K × X) → d ≡ get_or (get_or ls i []) n d → InOrder R (contents ls) → is_tied R k (contents ls) ≡ true → Some d ≡ entry_of R k (contents ls)
    exchanged_for d read h t =
        let leaf = get_or ls i [] in
        ap Some (read ∙ ap (λ m. get_or leaf m d) lies.place)
        ∙ sym (entry_tied R o k leaf d (leaf_in_order R ls i h leaf_there) (tied_in_leaf R k ls i lies.among ∙ t))
        ∙ entry_in_leaf R o k ls i h lies.among

    pub inserted : (v : X) → is_tied R k (contents ls) ≡ false → contents (set ls i (insert (get_or ls i []) n (k, v))) ≡ put_in R k v (contents ls)
    inserted v t =
        let leaf = get_or ls i [] in
        ap (λ m. contents (set ls i (insert leaf m (k, v)))) lies.place
        ∙ ap (λ (es : List (K × X)). contents (set ls i es)) (sym (put_in_absent R k v leaf (tied_in_leaf R k ls i lies.among ∙ t)))
        ∙ put_in_leaf R k v ls i lies.among

    pub inserted_filled : (v : X) → AreFilled ls → AreFilled (set ls i (insert (get_or ls i []) n (k, v)))
    inserted_filled v f = filled_set ls i _ f (omega (arith, length-insert (get_or ls i []) n (k, v) at_most))

    pub inserted_length : (v : X) → length (contents (set ls i (insert (get_or ls i []) n (k, v)))) ≡ length (contents ls) + 1
    inserted_length v = omega (arith, joined_set_length ls i (insert (get_or ls i []) n (k, v)) leaf_there, length-insert (get_or ls i []) n (k, v) at_most)

    pub inserted_weight : (v : X) → weight (set ls i (insert (get_or ls i []) n (k, v))) ≤ weight ls + 1
    inserted_weight v = weight_set ls i (insert (get_or ls i []) n (k, v)) 1 leaf_there (omega (arith, length-insert (get_or ls i []) n (k, v) at_most))

  -- an entry whose key is nowhere takes none's
  pub replaced_absent : (k : K) (v : X) (es : List (K × X)) → InOrder R es → is_tied R k es ≡ false → replaced R k v es ≡ put_in R k v es
  replaced_absent k v es h t = ap (λ (es : List (K × X)). put_in R k v es) (without_absent R o k es h t)

  -- it stands among those that there are then
  pub within_replaced : (k : K) (v : X) (es : List (K × X)) → InOrder R es → place R k es < length (replaced R k v es)
  within_replaced k v es h = elim (is_tied R k es) as (λ b. is_tied R k es ≡ b → place R k es < length (replaced R k v es)) [
    | true ↦ λ t. omega (arith, ap length (set_tied k v es h t), length-set es (place R k es) (k, v), tied_lt R k es t)
    | false ↦ λ t. omega (arith, ap length (replaced_absent k v es h t ∙ put_in_absent R k v es t), length-insert es (place R k es) (k, v) (place_le R k es), place_le R k es)
  ] refl

pub replaced_none : {K X : Type 0} (R : K → K → Ordering) (k : K) (v : X) (ls : List (List (K × X))) → length ls ≡ 0 → put_in R k v (contents ls) ≡ replaced R k v (contents ls)
replaced_none R k v ls h = ap (put_in R k v) (without_none R k ls h)
