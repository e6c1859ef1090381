-- Entries that lie in leaves: what an edit of the key's leaf makes of all.
use Rattle.std.proofs.Common.{◌≡◌, ℕ, zero, suc, ◌+◌, ◌<◌, ◌≤◌, Bool, true, false, not, cond, T, List, [], ◌∷◌, ◌++◌, length, get_or, set, take, drop, Option, Some, None, IfSome, IfNone, ◌==◌, refl, sym, ap, subst, ◌∙◌, arith, length-append, length-take, length-drop, take-append-drop, ◌-◌, append_assoc, append-nil, ◌⊎◌, inl, inr}
use Rattle.std.specs.declared.cmp.Ordering.{Ordering}
use Rattle.std.specs.declared.cmp.Ordering.TheVariants.{Less, Equal, Greater}
use Rattle.std.specs.Ordering.{is_eq}
use Rattle.std.specs.Cmp.{IsTotalOrder}
use Rattle.std.specs.List.{insert, remove, list_all}
use Rattle.std.specs.FinMap.{find, put, is_sorted}
use Rattle.std.specs.FinMap.Entries.{by_order, below_all}
use Rattle.acap_ordmap.specs.Sorted.{place, is_tied, without, found, entry_of, put_in, InOrder}
use Rattle.acap_ordmap.specs.Leaves.{contents, before, is_filled, AreFilled, IsAmong, IsBehind}
use Rattle.std.proofs.lemmas.List.{get_or-append-add, get_or_default}
use Rattle.std.proofs.Math.Seq.{drop-append_seam, drop-drop, take-length}
use Rattle.std.proofs.Math.ListN.{get_or-append}
use Rattle.std.proofs.lemmas.Bool.{false_from_ne_true}
use borrow.Author.Tests.{eqb-true}
use Rattle.acap_ordmap.proofs.SortedLemmas.{below_missing, below_kept, equal_kept, without_absent, found_absent, below_entry, entry_absent, put_in_absent, place_le, tied_lt}
use Rattle.acap_ordmap.proofs.Halves.{less_at, equal_at, greater_at}
use Rattle.acap_ordmap.proofs.Logic.{first_T, second_T, both_T, IsTrue_from_T}

-- ---- where a leaf lies among all

pub joined_at : {A : Type 0} (ls : List (List A)) (i : ℕ) → i < length ls → contents ls ≡ contents (take i ls) ++ (get_or ls i [] ++ contents (drop (suc i) ls))
joined_at [] i h = absurd (omega arith)
joined_at (x ∷ ls) zero h = refl
joined_at {A} (x ∷ ls) (suc i) h = ap (λ (t : List A). x ++ t) (joined_at ls i (omega arith)) ∙ sym (append_assoc x (contents (take i ls)) _)

pub joined_set : {A : Type 0} (ls : List (List A)) (i : ℕ) (y : List A) → i < length ls → contents (set ls i y) ≡ contents (take i ls) ++ (y ++ contents (drop (suc i) ls))
joined_set [] i y h = absurd (omega arith)
joined_set (x ∷ ls) zero y h = refl
joined_set {A} (x ∷ ls) (suc i) y h = ap (λ (t : List A). x ++ t) (joined_set ls i y (omega arith)) ∙ sym (append_assoc x (contents (take i ls)) _)

before_suc : {A : Type 0} (ls : List (List A)) (i : ℕ) → i < length ls → before ls (suc i) ≡ before ls i + length (get_or ls i [])
before_suc [] i h = absurd (omega arith)
before_suc (x ∷ ls) zero h = omega (arith, length-append x [])
before_suc (x ∷ ls) (suc i) h = omega (arith, before_suc ls i (omega arith), length-append x (contents (take i ls)), length-append x (contents (take (suc i) ls)))

pub before_next : {A : Type 0} (ls : List (List A)) (i : ℕ) → i < length ls → before ls (i + 1) ≡ before ls i + length (get_or ls i [])
before_next ls i h = let e : i + 1 ≡ suc i = omega arith in rw e (before_suc ls i h)

pub before_all : {A : Type 0} (ls : List (List A)) (i : ℕ) → length ls ≤ i → before ls i ≡ length (contents ls)
before_all [] zero h = refl
before_all [] (suc i) h = refl
before_all (x ∷ ls) zero h = absurd (omega arith)
before_all (x ∷ ls) (suc i) h = omega (arith, before_all ls i (omega arith), length-append x (contents (take i ls)), length-append x (contents ls))

-- how many entries there are once a leaf is another
pub joined_set_length : {A : Type 0} (ls : List (List A)) (i : ℕ) (y : List A) → i < length ls → length (contents (set ls i y)) + length (get_or ls i []) ≡ length (contents ls) + length y
joined_set_length ls i y h =
    let a = contents (take i ls) in
    let b = get_or ls i [] in
    let c = contents (drop (suc i) ls) in
    omega (arith, ap length (joined_set ls i y h), ap length (joined_at ls i h), length-append a (y ++ c), length-append y c, length-append a (b ++ c), length-append b c)

-- a leaf that was looked at
pub leaf_read : {A : Type 0} (ls : List (List A)) (i : ℕ) (leaf : List A) → i < length ls → leaf ≡ get_or ls i leaf → get_or ls i [] ≡ leaf
leaf_read ls i leaf lt is = sym (is ∙ get_or_default ls i leaf [] lt)

-- ---- leaves that each have an entry

positive : {A : Type 0} (leaf : List A) → T (is_filled leaf) → 0 < length leaf
positive [] h = absurd h
positive (x ∷ xs) h = omega arith

is_positive : {A : Type 0} (leaf : List A) → 0 < length leaf → T (is_filled leaf)
is_positive [] h = absurd (omega arith)
is_positive (x ∷ xs) h = tt

abbrev are_filled : {A : Type 0} → List (List A) → Bool
are_filled ls = list_all is_filled ls

filled_within : {A : Type 0} (ls : List (List A)) (i : ℕ) → T (are_filled ls) → i < length ls → 0 < length (get_or ls i [])
filled_within [] i h lt = absurd (omega arith)
filled_within (x ∷ ls) zero h lt = positive _ (first_T _ _ h)
filled_within (x ∷ ls) (suc i) h lt = filled_within ls i (second_T _ _ h) (omega arith)

set_filled : {A : Type 0} (ls : List (List A)) (i : ℕ) (y : List A) → T (are_filled ls) → 0 < length y → T (are_filled (set ls i y))
set_filled [] i y h lt = tt
set_filled (x ∷ ls) zero y h lt = both_T _ _ (is_positive _ lt) (second_T _ _ h)
set_filled (x ∷ ls) (suc i) y h lt = both_T _ _ (first_T _ _ h) (set_filled ls i y (second_T _ _ h) lt)

insert_filled : {A : Type 0} (ls : List (List A)) (i : ℕ) (y : List A) → T (are_filled ls) → 0 < length y → T (are_filled (insert ls i y))
insert_filled [] zero y h lt = both_T _ _ (is_positive _ lt) tt
insert_filled [] (suc i) y h lt = both_T _ _ (is_positive _ lt) tt
insert_filled (x ∷ ls) zero y h lt = both_T _ _ (is_positive _ lt) h
insert_filled (x ∷ ls) (suc i) y h lt = both_T _ _ (first_T _ _ h) (insert_filled ls i y (second_T _ _ h) lt)

pub filled_at : {A : Type 0} (ls : List (List A)) (i : ℕ) → AreFilled ls → i < length ls → 0 < length (get_or ls i [])
filled_at ls i h lt = filled_within ls i (subst T (sym h.each) tt) lt

pub filled_set : {A : Type 0} (ls : List (List A)) (i : ℕ) (y : List A) → AreFilled ls → 0 < length y → AreFilled (set ls i y)
filled_set ls i y h lt = record { each = IsTrue_from_T _ (set_filled ls i y (subst T (sym h.each) tt) lt) }

pub filled_insert : {A : Type 0} (ls : List (List A)) (i : ℕ) (y : List A) → AreFilled ls → 0 < length y → AreFilled (insert ls i y)
filled_insert ls i y h lt = record { each = IsTrue_from_T _ (insert_filled ls i y (subst T (sym h.each) tt) lt) }

-- ---- a leaf that is taken apart, or away

pub joined_insert : {A : Type 0} (ls : List (List A)) (i : ℕ) (y : List A) → i ≤ length ls → contents (insert ls i y) ≡ contents (take i ls) ++ (y ++ contents (drop i ls))
joined_insert ls zero y h = refl
joined_insert [] (suc i) y h = absurd (omega arith)
joined_insert {A} (x ∷ ls) (suc i) y h = ap (λ (t : List A). x ++ t) (joined_insert ls i y (omega arith)) ∙ sym (append_assoc x (contents (take i ls)) _)

-- a leaf gives its later entries to one right after it
split_suc : {A : Type 0} (ls : List (List A)) (i : ℕ) (earlier later : List A) → i < length ls → earlier ++ later ≡ get_or ls i [] → contents (insert (set ls i earlier) (suc i) later) ≡ contents ls
split_suc [] i earlier later h e = absurd (omega arith)
split_suc {A} (x ∷ ls) zero earlier later h e = sym (append_assoc earlier later (contents ls)) ∙ ap (λ (t : List A). t ++ contents ls) e
split_suc {A} (x ∷ ls) (suc i) earlier later h e = ap (λ (t : List A). x ++ t) (split_suc ls i earlier later (omega arith) e)

pub joined_split : {A : Type 0} (ls : List (List A)) (i : ℕ) (earlier later : List A) → i < length ls → earlier ++ later ≡ get_or ls i [] → contents (insert (set ls i earlier) (i + 1) later) ≡ contents ls
joined_split ls i earlier later h e = let next : i + 1 ≡ suc i = omega arith in rw next (split_suc ls i earlier later h e)

whole_behind : {A : Type 0} (es : List A) (x : A) → take (length es) es ++ x ∷ drop (length es) es ≡ es ++ x ∷ []
whole_behind [] x = refl
whole_behind {A} (y ∷ es) x = ap (λ (t : List A). y ∷ t) (whole_behind es x)

-- ---- the first entry of a leaf, among all

first_behind : {A : Type 0} (a b c : List A) (d : A) → 0 < length b → get_or (a ++ (b ++ c)) (length a) d ≡ get_or b 0 d
first_behind a b c d h = let e : length a ≡ length a + 0 = omega arith in rw e (get_or-append-add a (b ++ c) 0 d ∙ get_or-append b c d 0 h)

pub first_at : {A : Type 0} (ls : List (List A)) (i : ℕ) (d : A) → i < length ls → 0 < length (get_or ls i []) → get_or (contents ls) (before ls i) d ≡ get_or (get_or ls i []) 0 d
first_at {A} ls i d h filled = ap (λ (es : List A). get_or es (before ls i) d) (joined_at ls i h) ∙ first_behind (contents (take i ls)) (get_or ls i []) (contents (drop (suc i) ls)) d filled

pub before_lt : {A : Type 0} (ls : List (List A)) (i : ℕ) → i < length ls → 0 < length (get_or ls i []) → before ls i < length (contents ls)
before_lt ls i h filled =
    let e = ap length (joined_at ls i h) in
    omega (arith, e, length-append (contents (take i ls)) (get_or ls i [] ++ contents (drop (suc i) ls)), length-append (get_or ls i []) (contents (drop (suc i) ls)))

-- what a look at the first entry of a leaf tells
pub record IsFirst {A : Type 0} (ls : List (List A)) (i : ℕ) (x : A) : Type 0 where
  pub within : i < length ls
  pub index : before ls i < length (contents ls)
  pub read : x ≡ get_or (contents ls) (before ls i) x

pub is_first : {A : Type 0} (ls : List (List A)) (i : ℕ) (leaf : List A) (x : A) → AreFilled ls → i < length ls → leaf ≡ get_or ls i leaf → x ≡ get_or leaf 0 x → IsFirst ls i x
is_first {A} ls i leaf x f lt is read =
    let filled = filled_at ls i f lt in
    let whole : leaf ≡ get_or ls i [] = is ∙ get_or_default ls i leaf [] lt in
    record {
      within = lt;
      index = before_lt ls i lt filled;
      read = read ∙ ap (λ (l : List A). get_or l 0 x) whole ∙ sym (first_at ls i x lt filled);
    }

module _ {K X : Type 0} (R : K → K → Ordering) (o : IsTotalOrder R) where
  pub leaf_less : (k : K) (ls : List (List (K × X))) (i : ℕ) (x : K × X) → InOrder R (contents ls) → IsFirst ls i x → R k x.0 ≡ Less → (place R k (contents ls) ≤ before ls i) × (is_tied R k (contents ls) ≡ true → place R k (contents ls) < before ls i)
  leaf_less k ls i x h at e = less_at R o k (contents ls) (before ls i) x h at.index (ap (λ (y : K × X). R k y.0) (sym at.read) ∙ e)

  leaf_equal : (k : K) (ls : List (List (K × X))) (i : ℕ) (x : K × X) → InOrder R (contents ls) → IsFirst ls i x → R k x.0 ≡ Equal → before ls i ≤ place R k (contents ls)
  leaf_equal k ls i x h at e = let found = equal_at R o k (contents ls) (before ls i) x h at.index (ap (λ (y : K × X). R k y.0) (sym at.read) ∙ e) in omega (arith, found.0)

  leaf_greater : (k : K) (ls : List (List (K × X))) (i : ℕ) (x : K × X) → InOrder R (contents ls) → IsFirst ls i x → R k x.0 ≡ Greater → before ls i ≤ place R k (contents ls)
  leaf_greater k ls i x h at e = let above = greater_at R o k (contents ls) (before ls i) x h at.index (ap (λ (y : K × X). R k y.0) (sym at.read) ∙ e) in omega (arith, above)

  pub leaf_from : (k : K) (ls : List (List (K × X))) (i : ℕ) (x : K × X) → InOrder R (contents ls) → IsFirst ls i x → (R k x.0 ≡ Equal) ⊎ (R k x.0 ≡ Greater) → before ls i ≤ place R k (contents ls)
  leaf_from k ls i x h at (inl e) = leaf_equal k ls i x h at e
  leaf_from k ls i x h at (inr e) = leaf_greater k ls i x h at e

module _ {K X : Type 0} (R : K → K → Ordering) where
  -- ---- a key whose place is after some entries

  place_past : (k : K) (a r : List (K × X)) → length a ≤ place R k (a ++ r) → (place R k (a ++ r) ≡ length a + place R k r) × (is_tied R k (a ++ r) ≡ is_tied R k r)
  place_past k [] r = λ h. (omega arith, refl)
  place_past k (x ∷ a) r = elim (R k x.0) as (λ o. suc (length a) ≤ by_order o 0 0 (suc (place R k (a ++ r))) → (by_order o 0 0 (suc (place R k (a ++ r))) ≡ suc (length a) + place R k r) × (by_order o false true (is_tied R k (a ++ r)) ≡ is_tied R k r)) [
    | Less ↦ λ h. absurd (omega arith)
    | Equal ↦ λ h. absurd (omega arith)
    | Greater ↦ λ h. let rest = place_past k a r (omega arith) in (omega (arith, rest.0), rest.1)
  ]

  place_within : (k : K) (b c : List (K × X)) → place R k (b ++ c) ≤ length b → (is_tied R k (b ++ c) ≡ true → place R k (b ++ c) < length b) → (place R k b ≡ place R k (b ++ c)) × (is_tied R k b ≡ is_tied R k (b ++ c))
  place_within k [] c = λ h t. (omega arith, elim (is_tied R k c) as (λ v. (v ≡ true → place R k c < 0) → false ≡ v) [ true ↦ λ t. absurd (omega (arith, t refl)) | false ↦ λ t. refl ] t)
  place_within k (x ∷ b) c = elim (R k x.0) as (λ o. by_order o 0 0 (suc (place R k (b ++ c))) ≤ suc (length b) → (by_order o false true (is_tied R k (b ++ c)) ≡ true → by_order o 0 0 (suc (place R k (b ++ c))) < suc (length b)) → (by_order o 0 0 (suc (place R k b)) ≡ by_order o 0 0 (suc (place R k (b ++ c)))) × (by_order o false true (is_tied R k b) ≡ by_order o false true (is_tied R k (b ++ c)))) [
    | Less ↦ λ h t. (refl, refl)
    | Equal ↦ λ h t. (refl, refl)
    | Greater ↦ λ h t. let rest = place_within k b c (omega arith) (λ e. omega (arith, t e)) in (ap suc rest.0, rest.1)
  ]

  put_past : (k : K) (v : X) (a r : List (K × X)) → length a ≤ place R k (a ++ r) → put R k v (a ++ r) ≡ a ++ put R k v r
  put_past k v [] r = λ h. refl
  put_past k v (x ∷ a) r = elim (R k x.0) as (λ o. suc (length a) ≤ by_order o 0 0 (suc (place R k (a ++ r))) → by_order o ((k, v) ∷ x ∷ (a ++ r)) ((x.0, v) ∷ (a ++ r)) (x ∷ put R k v (a ++ r)) ≡ x ∷ (a ++ put R k v r)) [
    | Less ↦ λ h. absurd (omega arith)
    | Equal ↦ λ h. absurd (omega arith)
    | Greater ↦ λ h. ap (λ t. x ∷ t) (put_past k v a r (omega arith))
  ]

  put_before : (k : K) (v : X) (c : List (K × X)) → place R k c ≤ 0 → (is_tied R k c ≡ true → place R k c < 0) → put R k v c ≡ (k, v) ∷ c
  put_before k v [] = λ h t. refl
  put_before k v (x ∷ c) = elim (R k x.0) as (λ o. by_order o 0 0 (suc (place R k c)) ≤ 0 → (by_order o false true (is_tied R k c) ≡ true → by_order o 0 0 (suc (place R k c)) < 0) → by_order o ((k, v) ∷ x ∷ c) ((x.0, v) ∷ c) (x ∷ put R k v c) ≡ (k, v) ∷ x ∷ c) [
    | Less ↦ λ h t. refl
    | Equal ↦ λ h t. absurd (omega (arith, t refl))
    | Greater ↦ λ h t. absurd (omega arith)
  ]

  put_within : (k : K) (v : X) (b c : List (K × X)) → place R k (b ++ c) ≤ length b → (is_tied R k (b ++ c) ≡ true → place R k (b ++ c) < length b) → put R k v (b ++ c) ≡ put R k v b ++ c
  put_within k v [] c = put_before k v c
  put_within k v (x ∷ b) c = elim (R k x.0) as (λ o. by_order o 0 0 (suc (place R k (b ++ c))) ≤ suc (length b) → (by_order o false true (is_tied R k (b ++ c)) ≡ true → by_order o 0 0 (suc (place R k (b ++ c))) < suc (length b)) → by_order o ((k, v) ∷ x ∷ (b ++ c)) ((x.0, v) ∷ (b ++ c)) (x ∷ put R k v (b ++ c)) ≡ by_order o ((k, v) ∷ x ∷ b) ((x.0, v) ∷ b) (x ∷ put R k v b) ++ c) [
    | Less ↦ λ h t. refl
    | Equal ↦ λ h t. refl
    | Greater ↦ λ h t. ap (λ s. x ∷ s) (put_within k v b c (omega arith) (λ e. omega (arith, t e)))
  ]

  -- ---- the parts before, in and after the leaf of a key

  record Lies (k : K) (a b c : List (K × X)) : Type 0 where
    from : length a ≤ place R k (a ++ (b ++ c))
    until : place R k (b ++ c) ≤ length b
    tied : is_tied R k (b ++ c) ≡ true → place R k (b ++ c) < length b

  lies : (k : K) (ls : List (List (K × X))) (i : ℕ) → IsAmong R k ls i (i + 1) → Lies k (contents (take i ls)) (get_or ls i []) (contents (drop (suc i) ls))
  lies k ls i h =
      let at : i < length ls = omega (arith, h.within) in
      let e = joined_at ls i at in
      let from = subst (λ (es : List (K × X)). before ls i ≤ place R k es) e h.from in
      let moved = place_past k (contents (take i ls)) (get_or ls i [] ++ contents (drop (suc i) ls)) from in
      let next = before_next ls i at in
      let whole = ap (λ (es : List (K × X)). place R k es) e in
      record {
        from = from;
        until = omega (arith, moved.0, next, whole, h.until);
        tied = λ t. omega (arith, moved.0, next, whole, h.tied (ap (λ (es : List (K × X)). is_tied R k es) e ∙ moved.1 ∙ t));
      }

  pub put_in_leaf : (k : K) (v : X) (ls : List (List (K × X))) (i : ℕ) → IsAmong R k ls i (i + 1) → contents (set ls i (put_in R k v (get_or ls i []))) ≡ put_in R k v (contents ls)
  unfolding put_in
  put_in_leaf k v ls i h =
      let at : i < length ls = omega (arith, h.within) in
      let l = lies k ls i h in
      joined_set ls i _ at
      ∙ ap (λ (t : List (K × X)). contents (take i ls) ++ t) (sym (put_within k v (get_or ls i []) (contents (drop (suc i) ls)) l.until l.tied))
      ∙ sym (put_past k v (contents (take i ls)) (get_or ls i [] ++ contents (drop (suc i) ls)) l.from)
      ∙ ap (λ (es : List (K × X)). put R k v es) (sym (joined_at ls i at))

  pub put_in_behind : (k : K) (v : X) (es : List (K × X)) → IsBehind R k es → put_in R k v es ≡ es ++ (k, v) ∷ []
  put_in_behind k v es h = put_in_absent R k v es h.absent ∙ ap (λ n. take n es ++ (k, v) ∷ drop n es) h.place ∙ whole_behind es (k, v)

  pub behind_none : (k : K) → IsBehind {X = X} R k []
  behind_none k = record { place = refl; absent = refl }

  -- a key after the last leaf's entries is after all
  pub behind_all : (k : K) (ls : List (List (K × X))) (i : ℕ) → i + 1 ≡ length ls → IsAmong R k ls i (i + 1) → IsBehind R k (get_or ls i []) → IsBehind R k (contents ls)
  behind_all k ls i last h b =
      let at : i < length ls = omega arith in
      let l = lies k ls i h in
      let e = joined_at ls i at in
      let moved = place_past k (contents (take i ls)) (get_or ls i [] ++ contents (drop (suc i) ls)) l.from in
      let inside = place_within k (get_or ls i []) (contents (drop (suc i) ls)) l.until l.tied in
      let all = before_all ls (i + 1) (omega arith) in
      let next = before_next ls i at in
      record {
        place = ap (λ (es : List (K × X)). place R k es) e ∙ moved.0 ∙ omega (arith, inside.0, b.place, all, next);
        absent = ap (λ (es : List (K × X)). is_tied R k es) e ∙ moved.1 ∙ sym inside.1 ∙ b.absent;
      }

  pub among_all : (k : K) (ls : List (List (K × X))) → 0 < length ls → IsAmong R k ls 0 (length ls)
  among_all k ls some =
      let all = before_all ls (length ls) (omega arith) in
      record {
        rise = some;
        within = omega arith;
        from = omega arith;
        until = omega (arith, all, place_le R k (contents ls));
        tied = λ t. omega (arith, all, tied_lt R k (contents ls) t);
      }

-- ---- the entries of a leaf are in order, and answer for its keys

below_front : {K X : Type 0} (R : K → K → Ordering) (l : K) (a r : List (K × X)) → T (below_all R l (a ++ r)) → T (below_all R l a)
below_front R l [] r h = tt
below_front R l (x ∷ a) r h = both_T _ _ (first_T _ _ h) (below_front R l a r (second_T _ _ h))

sorted_front : {K X : Type 0} (R : K → K → Ordering) (a r : List (K × X)) → T (is_sorted R (a ++ r)) → T (is_sorted R a)
sorted_front R [] r h = tt
sorted_front R (x ∷ a) r h = both_T _ _ (below_front R x.0 a r (first_T _ _ h)) (sorted_front R a r (second_T _ _ h))

sorted_rest : {K X : Type 0} (R : K → K → Ordering) (a r : List (K × X)) → T (is_sorted R (a ++ r)) → T (is_sorted R r)
sorted_rest R [] r h = h
sorted_rest R (x ∷ a) r h = sorted_rest R a r (second_T _ _ h)

module _ {K X : Type 0} (R : K → K → Ordering) where
  pub leaf_in_order : (ls : List (List (K × X))) (i : ℕ) → InOrder R (contents ls) → i < length ls → InOrder R (get_or ls i [])
  leaf_in_order ls i h lt =
      let whole = subst (λ (es : List (K × X)). T (is_sorted R es)) (joined_at ls i lt) (subst T (sym h.rises) tt) in
      record { rises = IsTrue_from_T _ (sorted_front R (get_or ls i []) _ (sorted_rest R (contents (take i ls)) _ whole)) }

  put_grows : (k : K) (v : X) (es : List (K × X)) → (length es ≤ length (put R k v es)) × (0 < length (put R k v es))
  put_grows k v [] = (omega arith, omega arith)
  put_grows k v (x ∷ es) = elim (R k x.0) as (λ o. (suc (length es) ≤ length (by_order o ((k, v) ∷ x ∷ es) ((x.0, v) ∷ es) (x ∷ put R k v es))) × (0 < length (by_order o ((k, v) ∷ x ∷ es) ((x.0, v) ∷ es) (x ∷ put R k v es)))) [
    | Less ↦ (omega arith, omega arith)
    | Equal ↦ (omega arith, omega arith)
    | Greater ↦ (omega (arith, (put_grows k v es).0), omega arith)
  ]

  pub put_in_grows : (k : K) (v : X) (es : List (K × X)) → (length es ≤ length (put_in R k v es)) × (0 < length (put_in R k v es))
  unfolding put_in
  put_in_grows k v es = put_grows k v es

  module _ (o : IsTotalOrder R) where
    find_past : (k : K) (a r : List (K × X)) → length a ≤ place R k (a ++ r) → find R k (a ++ r) ≡ find R k r
    find_past k [] r = λ h. refl
    find_past k (x ∷ a) r = elim (R k x.0) as (λ p. suc (length a) ≤ by_order p 0 0 (suc (place R k (a ++ r))) → cond (is_eq p) (Some x.1) (find R k (a ++ r)) ≡ find R k r) [
      | Less ↦ λ h. absurd (omega arith)
      | Equal ↦ λ h. absurd (omega arith)
      | Greater ↦ λ h. find_past k a r (omega arith)
    ]

    find_behind : (k : K) (c : List (K × X)) → T (is_sorted R c) → (is_tied R k c ≡ true → place R k c < 0) → find R k c ≡ None
    unfolding found
    find_behind k c h t = found_absent R o k c (record { rises = IsTrue_from_T _ h }) (false_from_ne_true (is_tied R k c) (λ e. omega (arith, t e)))

    find_within : (k : K) (b c : List (K × X)) → T (is_sorted R (b ++ c)) → place R k (b ++ c) ≤ length b → (is_tied R k (b ++ c) ≡ true → place R k (b ++ c) < length b) → find R k (b ++ c) ≡ find R k b
    find_within k [] c s = λ h t. find_behind k c s t
    find_within k (x ∷ b) c s = elim (R k x.0) as (λ p. R k x.0 ≡ p → by_order p 0 0 (suc (place R k (b ++ c))) ≤ suc (length b) → (by_order p false true (is_tied R k (b ++ c)) ≡ true → by_order p 0 0 (suc (place R k (b ++ c))) < suc (length b)) → cond (is_eq p) (Some x.1) (find R k (b ++ c)) ≡ cond (is_eq p) (Some x.1) (find R k b)) [
      | Less ↦ λ e h t. below_missing R o k x.0 (b ++ c) e (first_T _ _ s) ∙ sym (below_missing R o k x.0 b e (below_front R x.0 b c (first_T _ _ s)))
      | Equal ↦ λ e h t. refl
      | Greater ↦ λ e h t. find_within k b c (second_T _ _ s) (omega arith) (λ u. omega (arith, t u))
    ] refl

    pub found_in_leaf : (k : K) (ls : List (List (K × X))) (i : ℕ) → InOrder R (contents ls) → IsAmong R k ls i (i + 1) → found R k (get_or ls i []) ≡ found R k (contents ls)
    unfolding found
    found_in_leaf k ls i h among =
        let at : i < length ls = omega (arith, among.within) in
        let l = lies R k ls i among in
        let e = joined_at ls i at in
        let rest = sorted_rest R (contents (take i ls)) _ (subst (λ (es : List (K × X)). T (is_sorted R es)) e (subst T (sym h.rises) tt)) in
        sym (ap (λ (es : List (K × X)). find R k es) e ∙ find_past k (contents (take i ls)) _ l.from ∙ find_within k (get_or ls i []) (contents (drop (suc i) ls)) rest l.until l.tied)

    -- the entry of a key
    entry_past : (k : K) (a r : List (K × X)) → length a ≤ place R k (a ++ r) → entry_of R k (a ++ r) ≡ entry_of R k r
    unfolding entry_of
    entry_past k [] r = λ h. refl
    entry_past k (x ∷ a) r = elim (R k x.0) as (λ p. suc (length a) ≤ by_order p 0 0 (suc (place R k (a ++ r))) → cond (is_eq p) (Some x) (entry_of R k (a ++ r)) ≡ entry_of R k r) [
      | Less ↦ λ h. absurd (omega arith)
      | Equal ↦ λ h. absurd (omega arith)
      | Greater ↦ λ h. entry_past k a r (omega arith)
    ]

    entry_behind : (k : K) (c : List (K × X)) → T (is_sorted R c) → (is_tied R k c ≡ true → place R k c < 0) → entry_of R k c ≡ None
    entry_behind k c h t = entry_absent R o k c (record { rises = IsTrue_from_T _ h }) (false_from_ne_true (is_tied R k c) (λ e. omega (arith, t e)))

    entry_within : (k : K) (b c : List (K × X)) → T (is_sorted R (b ++ c)) → place R k (b ++ c) ≤ length b → (is_tied R k (b ++ c) ≡ true → place R k (b ++ c) < length b) → entry_of R k (b ++ c) ≡ entry_of R k b
    unfolding entry_of
    entry_within k [] c s = λ h t. entry_behind k c s t
    entry_within k (x ∷ b) c s = elim (R k x.0) as (λ p. R k x.0 ≡ p → by_order p 0 0 (suc (place R k (b ++ c))) ≤ suc (length b) → (by_order p false true (is_tied R k (b ++ c)) ≡ true → by_order p 0 0 (suc (place R k (b ++ c))) < suc (length b)) → cond (is_eq p) (Some x) (entry_of R k (b ++ c)) ≡ cond (is_eq p) (Some x) (entry_of R k b)) [
      | Less ↦ λ e h t. below_entry R o k x.0 (b ++ c) e (first_T _ _ s) ∙ sym (below_entry R o k x.0 b e (below_front R x.0 b c (first_T _ _ s)))
      | Equal ↦ λ e h t. refl
      | Greater ↦ λ e h t. entry_within k b c (second_T _ _ s) (omega arith) (λ u. omega (arith, t u))
    ] refl

    pub entry_in_leaf : (k : K) (ls : List (List (K × X))) (i : ℕ) → InOrder R (contents ls) → IsAmong R k ls i (i + 1) → entry_of R k (get_or ls i []) ≡ entry_of R k (contents ls)
    entry_in_leaf k ls i h among =
        let at : i < length ls = omega (arith, among.within) in
        let l = lies R k ls i among in
        let e = joined_at ls i at in
        let rest = sorted_rest R (contents (take i ls)) _ (subst (λ (es : List (K × X)). T (is_sorted R es)) e (subst T (sym h.rises) tt)) in
        sym (ap (λ (es : List (K × X)). entry_of R k es) e ∙ entry_past k (contents (take i ls)) _ l.from ∙ entry_within k (get_or ls i []) (contents (drop (suc i) ls)) rest l.until l.tied)

    -- what stays when a key is taken out
    without_past : (k : K) (a r : List (K × X)) → length a ≤ place R k (a ++ r) → without R k (a ++ r) ≡ a ++ without R k r
    unfolding without
    without_past k [] r = λ h. refl
    without_past k (x ∷ a) r = elim (R k x.0) as (λ p. suc (length a) ≤ by_order p 0 0 (suc (place R k (a ++ r))) → cond (not (is_eq p)) (x ∷ without R k (a ++ r)) (without R k (a ++ r)) ≡ x ∷ (a ++ without R k r)) [
      | Less ↦ λ h. absurd (omega arith)
      | Equal ↦ λ h. absurd (omega arith)
      | Greater ↦ λ h. ap (λ (t : List (K × X)). x ∷ t) (without_past k a r (omega arith))
    ]

    without_behind : (k : K) (c : List (K × X)) → T (is_sorted R c) → (is_tied R k c ≡ true → place R k c < 0) → without R k c ≡ c
    without_behind k c h t = without_absent R o k c (record { rises = IsTrue_from_T _ h }) (false_from_ne_true (is_tied R k c) (λ e. omega (arith, t e)))

    without_within : (k : K) (b c : List (K × X)) → T (is_sorted R (b ++ c)) → place R k (b ++ c) ≤ length b → (is_tied R k (b ++ c) ≡ true → place R k (b ++ c) < length b) → without R k (b ++ c) ≡ without R k b ++ c
    unfolding without
    without_within k [] c s = λ h t. without_behind k c s t
    without_within k (x ∷ b) c s = elim (R k x.0) as (λ p. R k x.0 ≡ p → by_order p 0 0 (suc (place R k (b ++ c))) ≤ suc (length b) → (by_order p false true (is_tied R k (b ++ c)) ≡ true → by_order p 0 0 (suc (place R k (b ++ c))) < suc (length b)) → cond (not (is_eq p)) (x ∷ without R k (b ++ c)) (without R k (b ++ c)) ≡ cond (not (is_eq p)) (x ∷ without R k b) (without R k b) ++ c) [
      | Less ↦ λ e h t. ap (λ (u : List (K × X)). x ∷ u) (below_kept R o k x.0 (b ++ c) e (first_T _ _ s) ∙ ap (λ (u : List (K × X)). u ++ c) (sym (below_kept R o k x.0 b e (below_front R x.0 b c (first_T _ _ s)))))
      | Equal ↦ λ e h t. equal_kept R o k x.0 (b ++ c) e (first_T _ _ s) ∙ ap (λ (u : List (K × X)). u ++ c) (sym (equal_kept R o k x.0 b e (below_front R x.0 b c (first_T _ _ s))))
      | Greater ↦ λ e h t. ap (λ (u : List (K × X)). x ∷ u) (without_within k b c (second_T _ _ s) (omega arith) (λ v. omega (arith, t v)))
    ] refl

    pub without_in_leaf : (k : K) (ls : List (List (K × X))) (i : ℕ) → InOrder R (contents ls) → IsAmong R k ls i (i + 1) → contents (set ls i (without R k (get_or ls i []))) ≡ without R k (contents ls)
    without_in_leaf k ls i h among =
        let at : i < length ls = omega (arith, among.within) in
        let l = lies R k ls i among in
        let e = joined_at ls i at in
        let rest = sorted_rest R (contents (take i ls)) _ (subst (λ (es : List (K × X)). T (is_sorted R es)) e (subst T (sym h.rises) tt)) in
        joined_set ls i _ at
        ∙ ap (λ (t : List (K × X)). contents (take i ls) ++ t) (sym (without_within k (get_or ls i []) (contents (drop (suc i) ls)) rest l.until l.tied))
        ∙ sym (without_past k (contents (take i ls)) (get_or ls i [] ++ contents (drop (suc i) ls)) l.from)
        ∙ ap (λ (es : List (K × X)). without R k es) (sym e)

-- a leaf that is split leaves none empty
pub split_filled : {A : Type 0} (ls : List (List A)) (i kept : ℕ) → AreFilled ls → i < length ls → 0 < kept → kept < length (get_or ls i []) → AreFilled (insert (set ls i (take kept (get_or ls i []))) (i + 1) (drop kept (get_or ls i [])))
split_filled ls i kept h lt some few =
    let leaf = get_or ls i [] in
    filled_insert (set ls i (take kept leaf)) (i + 1) _ (filled_set ls i _ h (omega (arith, length-take kept leaf))) (omega (arith, length-drop kept leaf))

pub joined_push : {A : Type 0} (ls : List (List A)) (y : List A) → contents (ls ++ y ∷ []) ≡ contents ls ++ y
joined_push [] y = append-nil y
joined_push {A} (x ∷ ls) y = ap (λ (t : List A). x ++ t) (joined_push ls y) ∙ sym (append_assoc x (contents ls) y)

pub push_filled : {A : Type 0} (ls : List (List A)) (y : List A) → AreFilled ls → 0 < length y → AreFilled (ls ++ y ∷ [])
push_filled ls y h lt = subst AreFilled (whole_behind ls y) (filled_insert ls (length ls) y h lt)

pub found_none : {K X : Type 0} (R : K → K → Ordering) (k : K) (ls : List (List (K × X))) → true ≡ (length ls == 0) → None ≡ found R k (contents ls)
unfolding found
found_none R k [] h = refl
found_none R k (x ∷ ls) h = let none = eqb-true (suc (length ls)) 0 (sym h) in absurd (omega (arith, none))

pub entry_of_none : {K X : Type 0} (R : K → K → Ordering) (k : K) (ls : List (List (K × X))) → length ls ≡ 0 → None ≡ entry_of R k (contents ls)
unfolding entry_of
entry_of_none R k [] h = refl
entry_of_none R k (x ∷ ls) h = absurd (omega arith)

pub some_from : {A : Type 0} (x : Option A) (P Q : Type 0) → (P → Q) → IfSome x (λ _. P) → IfSome x (λ _. Q)
some_from None P Q f h = tt
some_from (Some a) P Q f h = f h

pub none_from : {A : Type 0} (x : Option A) (P Q : Type 0) → (P → Q) → IfNone x P → IfNone x Q
none_from None P Q f h = f h
none_from (Some a) P Q f h = tt

-- an entry that is put after the last leaf's
all_but_none : {A : Type 0} (ls : List (List A)) → contents (drop (length ls) ls) ≡ []
all_but_none [] = refl
all_but_none (x ∷ ls) = all_but_none ls

pub joined_last : {A : Type 0} (ls : List (List A)) (i : ℕ) (more : List A) → i + 1 ≡ length ls → contents (set ls i (get_or ls i [] ++ more)) ≡ contents ls ++ more
joined_last {A} ls i more last =
    let at : i < length ls = omega arith in
    let a = contents (take i ls) in
    let b = get_or ls i [] in
    let next : suc i ≡ length ls = omega arith in
    let none : contents (drop (suc i) ls) ≡ [] = ap (λ n. contents (drop n ls)) next ∙ all_but_none ls in
    joined_set ls i _ at
    ∙ ap (λ (c : List A). a ++ ((b ++ more) ++ c)) none ∙ ap (λ (t : List A). a ++ t) (append-nil (b ++ more))
    ∙ sym (append_assoc a b more)
    ∙ ap (λ (t : List A). (a ++ t) ++ more) (sym (append-nil b))
    ∙ ap (λ (c : List A). (a ++ (b ++ c)) ++ more) (sym none)
    ∙ ap (λ (t : List A). t ++ more) (sym (joined_at ls i at))

pub filled_last : {A : Type 0} (ls : List (List A)) (i : ℕ) (leaf : List A) (x : A) → AreFilled ls → AreFilled (set ls i (leaf ++ x ∷ []))
filled_last ls i leaf x h = filled_set ls i _ h (omega (arith, length-append leaf (x ∷ [])))

-- a leaf that has lost its last entry goes
pub joined_emptied : {A : Type 0} (ls : List (List A)) (i : ℕ) (y : List A) → i < length ls → length y ≡ 0 → contents (remove (set ls i y) i) ≡ contents (set ls i y)
joined_emptied [] i y lt none = absurd (omega arith)
joined_emptied (x ∷ ls) zero [] lt none = refl
joined_emptied (x ∷ ls) zero (z ∷ y) lt none = absurd (omega arith)
joined_emptied {A} (x ∷ ls) (suc i) y lt none = ap (λ (t : List A). x ++ t) (joined_emptied ls i y (omega arith) none)

filled_emptied_within : {A : Type 0} (ls : List (List A)) (i : ℕ) (y : List A) → T (are_filled ls) → T (are_filled (remove (set ls i y) i))
filled_emptied_within [] zero y h = tt
filled_emptied_within [] (suc i) y h = tt
filled_emptied_within (x ∷ ls) zero y h = second_T _ _ h
filled_emptied_within (x ∷ ls) (suc i) y h = both_T _ _ (first_T _ _ h) (filled_emptied_within ls i y (second_T _ _ h))

pub filled_emptied : {A : Type 0} (ls : List (List A)) (i : ℕ) (y : List A) → AreFilled ls → AreFilled (remove (set ls i y) i)
filled_emptied ls i y h = record { each = IsTrue_from_T _ (filled_emptied_within ls i y (subst T (sym h.each) tt)) }

pub positive_if : (n : ℕ) → (n ≡ 0 → ⊥) → 0 < n
positive_if zero h = absurd (h refl)
positive_if (suc n) h = omega arith

pub without_none : {K X : Type 0} (R : K → K → Ordering) (k : K) (ls : List (List (K × X))) → length ls ≡ 0 → contents ls ≡ without R k (contents ls)
unfolding without
without_none R k [] h = refl
without_none R k (x ∷ ls) h = absurd (omega arith)

-- ---- where a split leaf's entries lie

split_front : {A : Type 0} (ls : List (List A)) (i : ℕ) (e l : List A) → i < length ls → take i (insert (set ls i e) (suc i) l) ≡ take i ls
split_front [] i e l h = absurd (omega arith)
split_front (x ∷ ls) zero e l h = refl
split_front {A} (x ∷ ls) (suc i) e l h = ap (λ (t : List (List A)). x ∷ t) (split_front ls i e l (omega arith))

split_back : {A : Type 0} (ls : List (List A)) (i : ℕ) (e l : List A) → i < length ls → e ++ l ≡ get_or ls i [] → contents (take (suc (suc i)) (insert (set ls i e) (suc i) l)) ≡ contents (take (suc i) ls)
split_back [] i e l h w = absurd (omega arith)
split_back {A} (x ∷ ls) zero e l h w = sym (append_assoc e l []) ∙ ap (λ (t : List A). t ++ []) w
split_back {A} (x ∷ ls) (suc i) e l h w = ap (λ (t : List A). x ++ t) (split_back ls i e l (omega arith) w)

split_parts : {A : Type 0} (ls : List (List A)) (i : ℕ) (e l : List A) → i < length ls → (get_or (insert (set ls i e) (suc i) l) i [] ≡ e) × (get_or (insert (set ls i e) (suc i) l) (suc i) [] ≡ l)
split_parts [] i e l h = absurd (omega arith)
split_parts (x ∷ ls) zero e l h = (refl, refl)
split_parts (x ∷ ls) (suc i) e l h = split_parts ls i e l (omega arith)

split_length : {A : Type 0} (ls : List (List A)) (i : ℕ) (e l : List A) → i < length ls → length (insert (set ls i e) (suc i) l) ≡ suc (length ls)
split_length [] i e l h = absurd (omega arith)
split_length (x ∷ ls) zero e l h = refl
split_length (x ∷ ls) (suc i) e l h = ap suc (split_length ls i e l (omega arith))

one_of_two : (i j : ℕ) → i ≤ j → j < i + 2 → (j ≡ i) ⊎ (j ≡ suc i)
one_of_two zero zero h lt = inl refl
one_of_two zero (suc zero) h lt = inr refl
one_of_two zero (suc (suc j)) h lt = absurd (omega arith)
one_of_two (suc i) zero h lt = absurd (omega arith)
one_of_two (suc i) (suc j) h lt = elim (one_of_two i j (omega arith) (omega arith)) [ inl e ↦ inl (ap suc e) | inr e ↦ inr (ap suc e) ]

-- the leaves once one gives its later half to a new one after it
abbrev pub parted : {A : Type 0} → List (List A) → ℕ → ℕ → List (List A)
parted ls i kept = let leaf = get_or ls i [] in insert (set ls i (take kept leaf)) (i + 1) (drop kept leaf)

pub joined_parted : {A : Type 0} (ls : List (List A)) (i kept : ℕ) → i < length ls → contents (parted ls i kept) ≡ contents ls
joined_parted ls i kept h = joined_split ls i _ _ h (take-append-drop kept (get_or ls i []))

pub parted_room : {A : Type 0} (ls : List (List A)) (i kept j : ℕ) → i < length ls → i ≤ j → j < i + 2 → length (get_or ls i []) ≤ 64 → 0 < kept → kept < 64 → length (get_or (parted ls i kept) j []) < 64
parted_room ls i kept j h low high most some few =
    let leaf = get_or ls i [] in
    let next : i + 1 ≡ suc i = omega arith in
    let parts = split_parts ls i (take kept leaf) (drop kept leaf) h in
    rw next (elim (one_of_two i j low high) [
      | inl e ↦ rw (e, parts.0) (omega (arith, length-take kept leaf))
      | inr e ↦ rw (e, parts.1) (omega (arith, length-drop kept leaf))
    ])

parted_front : {A : Type 0} (ls : List (List A)) (i kept : ℕ) → i < length ls → before (parted ls i kept) i ≡ before ls i
parted_front {A} ls i kept h =
    let leaf = get_or ls i [] in
    let next : i + 1 ≡ suc i = omega arith in
    rw next (ap (λ (t : List (List A)). length (contents t)) (split_front ls i (take kept leaf) (drop kept leaf) h))

parted_back : {A : Type 0} (ls : List (List A)) (i kept : ℕ) → i < length ls → before (parted ls i kept) (i + 2) ≡ before ls (i + 1)
parted_back {A} ls i kept h =
    let leaf = get_or ls i [] in
    let next : i + 1 ≡ suc i = omega arith in
    let behind : i + 2 ≡ suc (suc i) = omega arith in
    rw (next, behind) (ap (λ (t : List A). length t) (split_back ls i (take kept leaf) (drop kept leaf) h (take-append-drop kept leaf)))

parted_length : {A : Type 0} (ls : List (List A)) (i kept : ℕ) → i < length ls → length (parted ls i kept) ≡ length ls + 1
parted_length ls i kept h =
    let leaf = get_or ls i [] in
    let next : i + 1 ≡ suc i = omega arith in
    let long = split_length ls i (take kept leaf) (drop kept leaf) h in
    rw next (omega (arith, long))

module _ {K X : Type 0} (R : K → K → Ordering) where
  pub among_parts : (k : K) (ls : List (List (K × X))) (i kept : ℕ) → IsAmong R k ls i (i + 1) → IsAmong R k (parted ls i kept) i (i + 2)
  among_parts k ls i kept h =
      let at : i < length ls = omega (arith, h.within) in
      let same = joined_parted ls i kept at in
      let place_same = ap (λ (es : List (K × X)). place R k es) same in
      let tied_same = ap (λ (es : List (K × X)). is_tied R k es) same in
      let front = parted_front ls i kept at in
      let back = parted_back ls i kept at in
      record {
        rise = omega arith;
        within = omega (arith, parted_length ls i kept at);
        from = omega (arith, front, place_same, h.from);
        until = omega (arith, back, place_same, h.until);
        tied = λ t. omega (arith, back, place_same, h.tied (sym tied_same ∙ t));
      }

-- ---- the leaves from one on

pub joined_parts : {A : Type 0} (ls : List (List A)) (i : ℕ) → contents ls ≡ contents (take i ls) ++ contents (drop i ls)
joined_parts ls zero = refl
joined_parts [] (suc i) = refl
joined_parts {A} (x ∷ ls) (suc i) = ap (λ (t : List A). x ++ t) (joined_parts ls i) ∙ sym (append_assoc x (contents (take i ls)) _)

drop_filled : {A : Type 0} (ls : List (List A)) (i : ℕ) → T (are_filled ls) → T (are_filled (drop i ls))
drop_filled ls zero h = h
drop_filled [] (suc i) h = tt
drop_filled (x ∷ ls) (suc i) h = drop_filled ls i (second_T _ _ h)

pub filled_drop : {A : Type 0} (ls : List (List A)) (i : ℕ) → AreFilled ls → AreFilled (drop i ls)
filled_drop ls i h = record { each = IsTrue_from_T _ (drop_filled ls i (subst T (sym h.each) tt)) }

drop_past : {A : Type 0} (a b : List A) (n : ℕ) → drop (length a + n) (a ++ b) ≡ drop n b
drop_past {A} a b n = sym (drop-drop n (length a) (a ++ b)) ∙ ap (λ (t : List A). drop n t) (drop-append_seam a b)

pub drop_behind : {A : Type 0} (ls : List (List A)) (i n : ℕ) → drop (before ls i + n) (contents ls) ≡ drop n (contents (drop i ls))
drop_behind {A} ls i n = ap (λ (t : List A). drop (before ls i + n) t) (joined_parts ls i) ∙ drop_past (contents (take i ls)) (contents (drop i ls)) n

module _ {K X : Type 0} (R : K → K → Ordering) where
  pub rest_in_order : (ls : List (List (K × X))) (i : ℕ) → InOrder R (contents ls) → InOrder R (contents (drop i ls))
  rest_in_order ls i h =
      let whole = subst (λ (es : List (K × X)). T (is_sorted R es)) (joined_parts ls i) (subst T (sym h.rises) tt) in
      record { rises = IsTrue_from_T _ (sorted_rest R (contents (take i ls)) _ whole) }

  pub place_behind : (k : K) (ls : List (List (K × X))) (i : ℕ) → before ls i ≤ place R k (contents ls) → place R k (contents ls) ≡ before ls i + place R k (contents (drop i ls))
  place_behind k ls i h =
      let e = joined_parts ls i in
      ap (λ (es : List (K × X)). place R k es) e ∙ (place_past R k (contents (take i ls)) (contents (drop i ls)) (subst (λ (es : List (K × X)). before ls i ≤ place R k es) e h)).0

  pub place_of_leaf : (k : K) (ls : List (List (K × X))) (i : ℕ) → IsAmong R k ls i (i + 1) → before ls i + place R k (get_or ls i []) ≡ place R k (contents ls)
  place_of_leaf k ls i h =
      let at : i < length ls = omega (arith, h.within) in
      let l = lies R k ls i h in
      let moved = place_past R k (contents (take i ls)) (get_or ls i [] ++ contents (drop (suc i) ls)) l.from in
      let inside = place_within R k (get_or ls i []) (contents (drop (suc i) ls)) l.until l.tied in
      let whole = ap (λ (es : List (K × X)). place R k es) (joined_at ls i at) in
      omega (arith, moved.0, inside.0, whole)

  pub tied_in_leaf : (k : K) (ls : List (List (K × X))) (i : ℕ) → IsAmong R k ls i (i + 1) → is_tied R k (get_or ls i []) ≡ is_tied R k (contents ls)
  tied_in_leaf k ls i h =
      let at : i < length ls = omega (arith, h.within) in
      let l = lies R k ls i h in
      let moved = place_past R k (contents (take i ls)) (get_or ls i [] ++ contents (drop (suc i) ls)) l.from in
      let inside = place_within R k (get_or ls i []) (contents (drop (suc i) ls)) l.until l.tied in
      inside.1 ∙ sym moved.1 ∙ sym (ap (λ (es : List (K × X)). is_tied R k es) (joined_at ls i at))

drop_at : {A : Type 0} (ls : List (List A)) (i : ℕ) → i < length ls → contents (drop i ls) ≡ get_or ls i [] ++ contents (drop (suc i) ls)
drop_at [] i h = absurd (omega arith)
drop_at (x ∷ ls) zero h = refl
drop_at (x ∷ ls) (suc i) h = drop_at ls i (omega arith)

pub next_leaf : {A : Type 0} (ls : List (List A)) (i : ℕ) (leaf : List A) → i < length ls → leaf ≡ get_or ls i leaf → contents (drop i ls) ≡ leaf ++ contents (drop (i + 1) ls)
next_leaf {A} ls i leaf lt is =
    let next : i + 1 ≡ suc i = omega arith in
    rw next (drop_at ls i lt ∙ ap (λ (l : List A). l ++ contents (drop (suc i) ls)) (leaf_read ls i leaf lt is))

-- ---- an iterator's first item

pub first_taken : {A : Type 0} (n : ℕ) (x : A) (r : List A) → (n ≡ 0 → ⊥) → take n (x ∷ r) ≡ x ∷ take (n - 1) r
first_taken zero x r h = absurd (h refl)
first_taken {A} (suc n) x r h = let less : suc n - 1 ≡ n = omega arith in rw less refl

pub taken_whole : {A : Type 0} (n : ℕ) (es : List A) → n ≡ length es → take n es ≡ es
taken_whole n es h = rw h (take-length es)
