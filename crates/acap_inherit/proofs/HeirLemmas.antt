-- The heirs of a base lie together in the index, and level by level they are those with it on their chains.
use Rattle.std.proofs.Common.{◌≡◌, ◌⊎◌, inl, inr, ℕ, zero, suc, ◌+◌, ◌-◌, ◌<◌, ◌≤◌, Bool, true, false, not, cond, List, [], ◌∷◌, ◌++◌, map as each, length, take, drop, Some, None, arith, refl, sym, ap, subst, ◌∙◌, append-nil, append_assoc}
use Rattle.std.specs.Prelude.{slice_get, filter}
use Rattle.std.specs.List.{flat_map, slice_index_or}
use Rattle.std.specs.FinMap.{IsAntisymmetric}
use Rattle.std.specs.declared.cmp.Ordering.{Ordering}
use Rattle.std.specs.declared.cmp.Ordering.TheVariants.{Less, Equal, Greater}
use Rattle.std.specs.Ordering.{eq_by_cmp, is_eq, ordering_then, ordering_reverse}
use Rattle.std.specs.Cmp.{tied_itself}
use Rattle.std.specs.Cmp.Lexicographic.{nat_list_cmp_total, same_text, texts_ties}
use Rattle.std.proofs.lemmas.List.{take-append-drop, nil_from_length}
use Rattle.std.proofs.lemmas.List.Elements.{filter-append}
use Rattle.std.proofs.lemmas.List.{map-append}
use Rattle.std.proofs.lemmas.Option.{get_or_from_slice_get, slice_get_within}
use Rattle.acap_entries.specs.Orders.{octets_cmp, octets_eq}
use Rattle.acap_ordmap.specs.Ranks.{Ascending, rank_of, item_at, with_item}
use Rattle.acap_ordmap.proofs.RankLaws.{rank_holds}
use Rattle.acap_entries.proofs.StoreLemmas.{octets_same}
use Rattle.acap_ordmap.proofs.Logic.{Equal_from_is_eq, one_fewer, both_Equal}
use Rattle.acap_inherit.specs.Index.{link_cmp, heirs_in}
use Rattle.acap_inherit.specs.Touched.{ordered_among}
use Rattle.acap_inherit.specs.Touching.{with_heirs}
use Rattle.acap_inherit.specs.declared.link.Link.{Link}
use Rattle.acap_inherit.proofs.IndexLemmas.{link_total}

-- the key before all heirs of a base
abbrev pub least_heir : List ℕ → Link
least_heir base = record { base = base; heir = [] }

link_same : IsAntisymmetric link_cmp
link_same a b e =
    let parts = both_Equal _ _ e in
    let base = octets_same _ _ parts.0 in
    let heir = octets_same _ _ parts.1 in
    λ i. record { base = base i; heir = heir i }

-- ---- parts of lists

of_taken : {A : Type 0} (n : ℕ) (xs : List A) (j : ℕ) (x : A) → slice_get (take n xs) j ≡ Some x → (j < n) × (slice_get xs j ≡ Some x)
of_taken zero xs j x e = cc
of_taken (suc n) [] j x e = cc
of_taken (suc n) (y ∷ ys) zero x e = (omega arith, e)
of_taken (suc n) (y ∷ ys) (suc j) x e = let h = of_taken n ys j x e in (omega (arith, h.0), h.1)

of_dropped : {A : Type 0} (n : ℕ) (xs : List A) (j : ℕ) (x : A) → slice_get (drop n xs) j ≡ Some x → slice_get xs (n + j) ≡ Some x
of_dropped zero xs j x e = let same : j ≡ zero + j = omega arith in subst (λ k. slice_get xs k ≡ Some x) same e
of_dropped (suc n) [] j x e = cc
of_dropped (suc n) (y ∷ ys) j x e = let same : suc (n + j) ≡ suc n + j = omega arith in subst (λ k. slice_get (y ∷ ys) k ≡ Some x) same (of_dropped n ys j x e)

drop_next : {A : Type 0} (xs : List A) (i : ℕ) (x : A) → slice_get xs i ≡ Some x → drop i xs ≡ x ∷ drop (i + 1) xs
drop_next [] i x e = cc
drop_next (y ∷ ys) zero x e = let same : y ≡ x = cc in ap (λ z. z ∷ ys) same
drop_next (y ∷ ys) (suc i) x e = drop_next ys i x e ∙ (let same : suc (i + 1) ≡ suc i + 1 = omega arith in ap (λ k. x ∷ drop k (y ∷ ys)) same)

drop_past : {A : Type 0} (xs : List A) (i : ℕ) → slice_get xs i ≡ None → drop i xs ≡ []
drop_past [] zero e = refl
drop_past [] (suc i) e = refl
drop_past (y ∷ ys) zero e = cc
drop_past (y ∷ ys) (suc i) e = drop_past ys i e

-- ---- where heirs lie

others : (base : List ℕ) (xs : List Link) → ((j : ℕ) (x : Link) → slice_get xs j ≡ Some x → octets_eq base x.base ≡ false) → heirs_in xs base ≡ []
others base [] h = refl
others base (x ∷ xs) h =
    ap (λ b. each (λ (l : Link). l.heir) (cond b (x ∷ filter (λ l. octets_eq base l.base) xs) (filter (λ l. octets_eq base l.base) xs))) (h zero x refl)
    ∙ others base xs (λ j y e. h (suc j) y e)

parts : (base : List ℕ) (n : ℕ) (xs : List Link) → heirs_in xs base ≡ heirs_in (take n xs) base ++ heirs_in (drop n xs) base
parts base n xs =
    let test : Link → Bool = λ l. octets_eq base l.base in
    ap (λ ys. heirs_in ys base) (sym (take-append-drop n xs))
    ∙ (ap (each (λ (l : Link). l.heir)) (filter-append test (take n xs) (drop n xs))
    ∙ map-append (λ (l : Link). l.heir) (filter test (take n xs)) (filter test (drop n xs)))

-- the least key of a base is the pair itself, or less
lower : (base other heir : List ℕ) → base ≡ other → (least_heir base ≡ record { base = other; heir = heir }) ⊎ (link_cmp (least_heir base) (record { base = other; heir = heir }) ≡ Less)
lower base other [] e = inl (λ i. record { base = e i; heir = [] })
lower base other (y ∷ ys) e = inr (ap (λ r. ordering_then r Less) (ap (octets_cmp base) (sym e) ∙ tied_itself nat_list_cmp_total base))

-- what stands before the rank of that key is of another base
earlier : (base : List ℕ) (xs : List Link) (i : ℕ) (x : Link) → Ascending link_cmp xs → slice_get xs i ≡ Some x → i < rank_of link_cmp (least_heir base) xs → octets_eq base x.base ≡ false
earlier base xs i x a e lt =
    let law = rank_holds link_cmp link_total in
    let own : rank_of link_cmp x xs ≡ i = law.own i x xs a e in
    elim (octets_eq base x.base) as (λ b. octets_eq base x.base ≡ b → b ≡ false) [
      | false ↦ λ _. refl
      | true ↦ λ t. elim (lower base x.base x.heir (same_text base x.base (sym t))) as (λ _. true ≡ false) [
        | inl same ↦ let ranks : rank_of link_cmp (least_heir base) xs ≡ rank_of link_cmp x xs = ap (λ k. rank_of link_cmp k xs) same in absurd (omega (arith, lt, own, ranks))
        | inr less ↦ let ranks = law.rises (least_heir base) x xs less in absurd (omega (arith, lt, own, ranks))
      ]
    ] refl

pub from_first : (base : List ℕ) (xs : List Link) (n : ℕ) → Ascending link_cmp xs → n ≡ rank_of link_cmp (least_heir base) xs → heirs_in (drop n xs) base ≡ heirs_in xs base
from_first base xs n a e =
    sym (parts base n xs
    ∙ ap (λ front. front ++ heirs_in (drop n xs) base) (others base (take n xs) (λ j x f. let t = of_taken n xs j x f in earlier base xs j x a t.1 (omega (arith, t.0, e)))))

found_at : (xs : List Link) (i : ℕ) (x : Link) → slice_get xs i ≡ Some x → item_at link_cmp x xs ≡ Some x
unfolding item_at
found_at [] i x e = cc
found_at (y ∷ ys) zero x e =
    let same : y ≡ x = cc in
    ap (λ z. cond (eq_by_cmp link_cmp x z) (Some z) (item_at link_cmp x ys)) same
    ∙ ap (λ r. cond (is_eq r) (Some x) (item_at link_cmp x ys)) (tied_itself link_total x)
found_at (y ∷ ys) (suc i) x e =
    elim (eq_by_cmp link_cmp x y) as (λ b. eq_by_cmp link_cmp x y ≡ b → cond b (Some y) (item_at link_cmp x ys) ≡ Some x) [
      | true ↦ λ t. ap Some (sym (link_same x y (Equal_from_is_eq _ t)))
      | false ↦ λ _. found_at ys i x e
    ] refl

-- from that rank on a pair of another base is of a greater one
greater : (base : List ℕ) (xs : List Link) (i : ℕ) (x : Link) → Ascending link_cmp xs → slice_get xs i ≡ Some x → rank_of link_cmp (least_heir base) xs ≤ i → octets_eq base x.base ≡ false → octets_cmp base x.base ≡ Less
greater base xs i x a e le f =
    let law = rank_holds link_cmp link_total in
    let own : rank_of link_cmp x xs ≡ i = law.own i x xs a e in
    elim (octets_cmp base x.base) as (λ r. octets_cmp base x.base ≡ r → r ≡ Less) [
      | Less ↦ λ _. refl
      | Equal ↦ λ t. let tied : true ≡ false = sym (texts_ties base x.base ∙ ap is_eq t) ∙ f in cc
      | Greater ↦ λ t.
          let back : octets_cmp x.base base ≡ Less = nat_list_cmp_total.antisymm x.base base ∙ ap ordering_reverse t in
          let less : link_cmp x (least_heir base) ≡ Less = ap (λ r. ordering_then r (octets_cmp x.heir [])) back in
          let ranks = law.strictly x (least_heir base) x xs less (found_at xs i x e) in
          absurd (omega (arith, le, own, ranks))
    ] refl

beyond : (base : List ℕ) (x y : Link) → octets_cmp base x.base ≡ Less → link_cmp x y ≡ Less → octets_eq base y.base ≡ false
beyond base x y l h =
    let less : octets_cmp base y.base ≡ Less =
    elim (octets_cmp x.base y.base) as (λ r. octets_cmp x.base y.base ≡ r → ordering_then r (octets_cmp x.heir y.heir) ≡ Less → octets_cmp base y.base ≡ Less) [
      | Less ↦ λ e _. nat_list_cmp_total.trans base x.base y.base l e
      | Equal ↦ λ e _. subst (λ b. octets_cmp base b ≡ Less) (octets_same x.base y.base e) l
      | Greater ↦ λ _ k. cc
    ] refl h in
    texts_ties base y.base ∙ ap is_eq less

rises_between : (xs : List Link) (i k : ℕ) (x y : Link) → Ascending link_cmp xs → slice_get xs i ≡ Some x → slice_get xs k ≡ Some y → i < k → link_cmp x y ≡ Less
rises_between xs i k x y a e f lt =
    let first = get_or_from_slice_get xs i x x e in
    let second = get_or_from_slice_get xs k y x f in
    subst (λ u. link_cmp u y ≡ Less) first (subst (λ v. link_cmp (slice_index_or xs i x) v ≡ Less) second (a.rises i k x lt (slice_get_within xs k y f)))

apart : (base : List ℕ) (xs : List Link) (i : ℕ) (x : Link) → Ascending link_cmp xs → slice_get xs i ≡ Some x → octets_cmp base x.base ≡ Less → octets_eq base x.base ≡ false
    → (j : ℕ) (y : Link) → slice_get (x ∷ drop (i + 1) xs) j ≡ Some y → octets_eq base y.base ≡ false
apart base xs i x a e l n zero y f = let same : x ≡ y = cc in subst (λ (z : Link). octets_eq base z.base ≡ false) same n
apart base xs i x a e l n (suc j) y f =
    beyond base x y l (rises_between xs i ((i + 1) + j) x y a e (of_dropped (i + 1) xs j y f) (omega arith))

pub no_more_heirs : (base : List ℕ) (x : Link) (xs : List Link) (i : ℕ) (front : List (List ℕ)) {all : List (List ℕ)} → Ascending link_cmp xs → slice_get xs i ≡ Some x → rank_of link_cmp (least_heir base) xs ≤ i
    → octets_eq base x.base ≡ false → front ++ heirs_in (drop i xs) base ≡ all → front ≡ all
no_more_heirs base x xs i front a e le n h =
    let none : heirs_in (drop i xs) base ≡ [] =
    ap (λ ys. heirs_in ys base) (drop_next xs i x e) ∙ others base (x ∷ drop (i + 1) xs) (apart base xs i x a e (greater base xs i x a e le n) n) in
    sym (append-nil front) ∙ (ap (λ rest. front ++ rest) (sym none) ∙ h)

pub none_left : (base : List ℕ) (xs : List Link) (i : ℕ) (front : List (List ℕ)) {all : List (List ℕ)} → slice_get xs i ≡ None → front ++ heirs_in (drop i xs) base ≡ all → front ≡ all
none_left base xs i front e h =
    sym (append-nil front) ∙ (ap (λ ys. front ++ heirs_in ys base) (sym (drop_past xs i e)) ∙ h)

pub one_heir : (base : List ℕ) (x : Link) (xs : List Link) (i : ℕ) (front after : List (List ℕ)) (heir : List ℕ) {all : List (List ℕ)} → slice_get xs i ≡ Some x → octets_eq base x.base ≡ true
    → after ≡ front ++ heir ∷ [] → heir ≡ x.heir → front ++ heirs_in (drop i xs) base ≡ all → after ++ heirs_in (drop (i + 1) xs) base ≡ all
one_heir base x xs i front after heir e t p q h =
    let rest = heirs_in (drop (i + 1) xs) base in
    let kept = filter (λ l. octets_eq base l.base) (drop (i + 1) xs) in
    let next : heirs_in (drop i xs) base ≡ x.heir ∷ rest =
    ap (λ ys. heirs_in ys base) (drop_next xs i x e) ∙ ap (λ b. each (λ (l : Link). l.heir) (cond b (x ∷ kept) kept)) t in
    ap (λ ys. ys ++ rest) (p ∙ ap (λ z. front ++ z ∷ []) q)
    ∙ (append_assoc front (x.heir ∷ []) rest ∙ (ap (λ ys. front ++ ys) (sym next) ∙ h))

-- ---- items among others

pub among_last : {K : Type 0} (R : K → K → Ordering) (xs acc : List K) (x : K) → ordered_among R (xs ++ x ∷ []) acc ≡ ordered_among R xs (with_item R x acc)
among_last R [] acc x = refl
among_last R (y ∷ xs) acc x = ap (with_item R y) (among_last R xs acc x)

-- ---- level by level

none_further : (k : ℕ) (links : List Link) (acc : List (List ℕ)) → with_heirs k links [] acc ≡ acc
unfolding with_heirs
none_further zero links acc = refl
none_further (suc k) links acc = none_further k links acc

one_level : (k : ℕ) (links : List Link) (level acc : List (List ℕ)) → with_heirs (suc k) links level acc ≡ with_heirs k links (flat_map (heirs_in links) level) (ordered_among octets_cmp level acc)
unfolding with_heirs
one_level k links level acc = refl

pub next_level : (n i : ℕ) (links : List Link) (level acc : List (List ℕ)) (all heirs found : List (List ℕ)) → i < n → heirs ≡ flat_map (heirs_in links) level → found ≡ ordered_among octets_cmp level acc
    → with_heirs (n - i) links level acc ≡ all → with_heirs (n - (i + 1)) links heirs found ≡ all
next_level n i links level acc all heirs found lt e f h =
    (λ t. with_heirs (n - (i + 1)) links (e t) (f t))
    ∙ (sym (one_level (n - (i + 1)) links level acc) ∙ (ap (λ k. with_heirs k links level acc) (sym (one_fewer n i lt)) ∙ h))

pub stopped : (n i : ℕ) (links : List Link) (level acc : List (List ℕ)) (all heirs found : List (List ℕ)) → i < n → heirs ≡ flat_map (heirs_in links) level → found ≡ ordered_among octets_cmp level acc
    → length heirs ≡ 0 → with_heirs (n - i) links level acc ≡ all → found ≡ all
stopped n i links level acc all heirs found lt e f none h =
    sym (none_further (n - (i + 1)) links found)
    ∙ (ap (λ level. with_heirs (n - (i + 1)) links level found) (sym (nil_from_length heirs none)) ∙ next_level n i links level acc all heirs found lt e f h)

pub finished : (n i : ℕ) (links : List Link) (level acc : List (List ℕ)) (all found : List (List ℕ)) → n ≤ i → found ≡ ordered_among octets_cmp level acc
    → with_heirs (n - i) links level acc ≡ all → found ≡ all
unfolding with_heirs
finished n i links level acc all found le f h =
    let none : n - i ≡ 0 = omega arith in
    f ∙ (ap (λ k. with_heirs k links level acc) (sym none) ∙ h)

-- ---- a test of two texts, one of them read from an item

turned : (b c : Bool) → not b ≡ c → b ≡ not c
turned true c e = ap not e
turned false c e = ap not e

pub unlike : (base other slice : List ℕ) (b : Bool) → slice ≡ other → b ≡ not (octets_eq base slice) → b ≡ true → octets_eq base other ≡ false
unlike base other slice b e f t = ap (octets_eq base) (sym e) ∙ turned (octets_eq base slice) true (sym f ∙ t)

pub like : (base other slice : List ℕ) (b : Bool) → slice ≡ other → b ≡ not (octets_eq base slice) → b ≡ false → octets_eq base other ≡ true
like base other slice b e f t = ap (octets_eq base) (sym e) ∙ turned (octets_eq base slice) false (sym f ∙ t)
