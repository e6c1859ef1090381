-- What lists contain, and names of which each comes once.
use Rattle.std.proofs.Common.{◌≡◌, Bool, true, false, not, cond, ◌||◌, ◌&&◌, Some, List, [], ◌∷◌, ◌++◌, refl, sym, ◌∙◌, ap, is_some, map as each}
use Rattle.std.specs.Cmp.Lexicographic.{nat_list_cmp_total, texts_ties}
use Rattle.std.specs.Cmp.{first_so, second_so}
use Rattle.std.specs.FinMap as table
use Rattle.std.specs.FinMap.{is_sorted, find}
use Rattle.std.specs.FinMap.Entries.{below_all}
use Rattle.std.specs.Ordering.{eq_by_cmp}
use Rattle.acap_views.specs.Notices.{ascending}
use Rattle.std.specs.List.{list_any, filter, Contains}
use Rattle.acap_entries.specs.Orders.{octets_cmp, octets_eq}
use Rattle.acap_ordmap.proofs.Logic.{true_from_T, Less_from_is_lt, Contains-there}
use Rattle.acap_moves.specs.Hits.{Name, is_among, IsDistinct, IsBelow, IsAscending}
use Rattle.acap_moves.proofs.Splits.{same_name, itself, among_first, among_later}
use Rattle.acap_moves.proofs.Touched.{among_filter}
use Rattle.acap_search.specs.Once.{EachOnce}
use Rattle.acap_search.proofs.SeenLemmas.{first_or, nowhere, either, at_first}

-- ---- names

pub among : (ps : List Name) (p : Name) → Contains ps p → is_among p ps ≡ true
unfolding is_among
among [] p h = nowhere p h
among (q ∷ qs) p h =
    either (first_or q p qs h)
    (λ e. rw (itself p q (sym e)) refl)
    (λ k. rw (among qs p k) (elim (octets_eq p q) as (λ b. (b || true) ≡ true) [ true ↦ refl | false ↦ refl ]))

pub from_among : (ps : List Name) (p : Name) → is_among p ps ≡ true → Contains ps p
unfolding is_among
from_among [] p e = absurd (cc (e))
from_among (q ∷ qs) p e =
    elim (octets_eq p q) as (λ b. octets_eq p q ≡ b → (b || is_among p qs) ≡ true → Contains (q ∷ qs) p) [
      | true ↦ λ t k. at_first q p qs (sym (same_name p q t))
      | false ↦ λ t k. Contains-there q p qs (from_among qs p k)
    ] refl e

pub among_append : (q : Name) (xs ys : List Name) → is_among q (xs ++ ys) ≡ (is_among q xs || is_among q ys)
unfolding is_among
among_append q [] ys = refl
among_append q (x ∷ xs) ys = elim (octets_eq q x) as (λ b. (b || is_among q (xs ++ ys)) ≡ ((b || is_among q xs) || is_among q ys)) [ true ↦ refl | false ↦ among_append q xs ys ]

pub distinct : (ps : List Name) → EachOnce ps → IsDistinct ps
unfolding IsDistinct
distinct [] h = tt
distinct (p ∷ ps) h = (
  elim (is_among p ps) as (λ b. is_among p ps ≡ b → b ≡ false) [ true ↦ λ e. absurd (h.0 (from_among ps p e)) | false ↦ λ e. refl ] refl,
  distinct ps h.1,
)

distinct_filter : (d : Name → Bool) (ps : List Name) → IsDistinct ps → IsDistinct (filter d ps)
unfolding IsDistinct
distinct_filter d [] h = tt
distinct_filter d (p ∷ ps) h = elim (d p) as (λ b. IsDistinct (cond b (p ∷ filter d ps) (filter d ps))) [
  | true ↦ (among_filter d p ps ∙ rw h.0 (elim (d p) as (λ b. (b && false) ≡ false) [ true ↦ refl | false ↦ refl ]), distinct_filter d ps h.1)
  | false ↦ distinct_filter d ps h.1
]

distinct_append : (xs ys : List Name) → IsDistinct xs → IsDistinct ys → ((q : Name) → is_among q xs ≡ true → is_among q ys ≡ false) → IsDistinct (xs ++ ys)
unfolding IsDistinct
distinct_append [] ys h k a = k
distinct_append (x ∷ xs) ys h k a = (
  among_append x xs ys ∙ rw (h.0, a x (among_first x xs)) refl,
  distinct_append xs ys h.1 k (λ q m. a q (among_later q x xs m)),
)

pub distinct_both : (xs ys : List Name) → IsDistinct xs → IsDistinct ys → IsDistinct (xs ++ filter (λ name. not (is_among name xs)) ys)
distinct_both xs ys h k =
    distinct_append xs _ h (distinct_filter (λ name. not (is_among name xs)) ys k)
    (λ q m. among_filter (λ name. not (is_among name xs)) q ys ∙ rw m refl)

-- ---- names in order

any_among : (q : Name) (ps : List Name) → list_any (eq_by_cmp octets_cmp q) ps ≡ is_among q ps
unfolding is_among
any_among q [] = refl
any_among q (p ∷ ps) = ap (λ b. b || list_any (eq_by_cmp octets_cmp q) ps) (sym (texts_ties q p)) ∙ ap (λ b. octets_eq q p || b) (any_among q ps)

found_pair : (q : Name) (ps : List Name) → is_some (find octets_cmp q (each (λ name. (name, name)) ps)) ≡ list_any (eq_by_cmp octets_cmp q) ps
found_pair q [] = refl
found_pair q (p ∷ ps) =
    elim (eq_by_cmp octets_cmp q p) as (λ b. is_some (cond b (Some p) (find octets_cmp q (each (λ name. (name, name)) ps))) ≡ (b || list_any (eq_by_cmp octets_cmp q) ps))
    [ true ↦ refl | false ↦ found_pair q ps ]

abbrev pairs : List Name → table.FinMap octets_cmp Name
pairs ps = table.from_entries (each (λ name. (name, name)) ps)

pub among_ascending : (q : Name) (ps : List Name) → is_among q (ascending ps) ≡ is_among q ps
among_ascending q ps =
    sym (any_among q (ascending ps))
    ∙ (sym (table.contains_key-keys (pairs ps) q)
    ∙ (ap is_some (table.get-from_entries nat_list_cmp_total (each (λ name. (name, name)) ps) q) ∙ (found_pair q ps ∙ any_among q ps)))

below_keys : (p : Name) (es : List (Name × Name)) → below_all octets_cmp p es ≡ true → IsBelow p (each (λ e. e.0) es)
below_keys p [] b = tt
below_keys p (e ∷ es) b = (Less_from_is_lt _ (first_so _ _ b), below_keys p es (second_so _ _ b))

keys_rise : (es : List (Name × Name)) → is_sorted octets_cmp es ≡ true → IsAscending (each (λ e. e.0) es)
keys_rise [] s = tt
keys_rise (e ∷ es) s = (below_keys e.0 es (first_so _ _ s), keys_rise es (second_so _ _ s))

pub ascends : (ps : List Name) → IsAscending (ascending ps)
ascends ps = keys_rise (table.entries (pairs ps)) (true_from_T _ (table.entries_sorted (pairs ps)))
