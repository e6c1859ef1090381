-- The laws of the comparators' orders.
use Rattle.std.proofs.Common.{◌≡◌, ℕ, ◌↔◌, true, IsTrue, List, Option, Some, None, refl, sym, ap, subst, ◌∙◌}
use Rattle.std.specs.Cmp.{IsTotalOrder, Equal-is}
use Rattle.std.specs.Ordering.{ordering_reverse, is_eq}
use Rattle.std.specs.declared.cmp.Ordering.{Ordering}
use Rattle.std.specs.declared.cmp.Ordering.TheVariants.{Less, Equal, Greater}
use Rattle.std.proofs.lemmas.Cmp.{nat_cmp_total, nat_list_cmp_total, on_total, back_total, tied_itself}
use Rattle.std.proofs.lemmas.Map.Lookups.{exact_bytes, exact_unsigned}
use Rattle.acap_order.specs.declared.comparator.Collation.{Collation}
use Rattle.acap_order.specs.declared.comparator.Collation.TheVariants.{Octet, AsciiCasemap, AsciiNumeric}
use Rattle.acap_order.specs.declared.comparator.Direction.{Direction}
use Rattle.acap_order.specs.declared.comparator.Direction.TheVariants.{Ascending, Descending}
use Rattle.acap_order.specs.declared.comparator.Comparator.{Comparator}
use Rattle.acap_order.specs.Ranks.{Rank, Octets, Number, rank_of, rank_cmp, upper_case, leading_number, number_cmp, in_direction, comparator_cmp, comparator_eq}
use Rattle.acap_order.specs.Laws.{EqualityLaw}

-- numbers, and no number after them, are in a total order
number_antisymm : (a b : Option ℕ) → number_cmp a b ≡ ordering_reverse (number_cmp b a)
number_antisymm (Some m) (Some n) = nat_cmp_total.antisymm m n
number_antisymm (Some m) None = refl
number_antisymm None (Some n) = refl
number_antisymm None None = refl

number_trans : (a b c : Option ℕ) → number_cmp a b ≡ Less → number_cmp b c ≡ Less → number_cmp a c ≡ Less
number_trans (Some m) (Some n) (Some o) p q = nat_cmp_total.trans m n o p q
number_trans (Some m) (Some n) None p q = refl
number_trans (Some m) None (Some o) p q = absurd (cc)
number_trans (Some m) None None p q = refl
number_trans None (Some n) c p q = absurd (cc)
number_trans None None c p q = absurd (cc)

number_congr : (a b c : Option ℕ) → number_cmp a b ≡ Equal → number_cmp a c ≡ number_cmp b c
number_congr (Some m) (Some n) (Some o) p = nat_cmp_total.congr m n o p
number_congr (Some m) (Some n) None p = refl
number_congr (Some m) None c p = absurd (cc)
number_congr None (Some n) c p = absurd (cc)
number_congr None None c p = refl

number_total : IsTotalOrder number_cmp
number_total = record { antisymm = number_antisymm; trans = number_trans; congr = number_congr }

collated_total : (collation : Collation) → IsTotalOrder (λ a b. rank_cmp (rank_of collation a) (rank_of collation b))
collated_total Octet = nat_list_cmp_total
collated_total AsciiCasemap = on_total upper_case nat_list_cmp_total
collated_total AsciiNumeric = on_total leading_number number_total

directed_total : {K : Type 0} {R : K → K → Ordering} (direction : Direction) → IsTotalOrder R → IsTotalOrder (λ a b. in_direction direction (R a b))
directed_total Ascending total = total
directed_total {K} {R} Descending total = subst (λ (S : K → K → Ordering). IsTotalOrder S) (λ i a b. total.antisymm b a i) (back_total total)

pub comparator_total : (comparator : Comparator) → IsTotalOrder (comparator_cmp comparator)
comparator_total comparator = directed_total comparator.direction (collated_total comparator.collation)

-- two strings are equal exactly if their ranks are one
is_eq-directed : (direction : Direction) (order : Ordering) → is_eq (in_direction direction order) ≡ is_eq order
is_eq-directed Ascending order = refl
is_eq-directed Descending Less = refl
is_eq-directed Descending Equal = refl
is_eq-directed Descending Greater = refl

rank_exact : (a b : Rank) → rank_cmp a b ≡ Equal → a ≡ b
rank_exact (Octets a) (Octets b) e = ap Octets (exact_bytes a b e)
rank_exact (Number (Some m)) (Number (Some n)) e = ap (λ n. Number (Some n)) (exact_unsigned m n e)
rank_exact (Number (Some m)) (Number None) e = absurd (cc)
rank_exact (Number None) (Number (Some n)) e = absurd (cc)
rank_exact (Number None) (Number None) e = refl
rank_exact (Octets a) (Number b) e = absurd (cc)
rank_exact (Number a) (Octets b) e = absurd (cc)

rank_itself : (a : Rank) → rank_cmp a a ≡ Equal
rank_itself (Octets a) = tied_itself nat_list_cmp_total a
rank_itself (Number a) = tied_itself number_total a

pub same_rank : (comparator : Comparator) (a b : List ℕ) → IsTrue (comparator_eq comparator a b) ↔ (rank_of comparator.collation a ≡ rank_of comparator.collation b)
same_rank comparator a b =
    let left : Rank = rank_of comparator.collation a in
    let right : Rank = rank_of comparator.collation b in
    let turned = is_eq-directed comparator.direction (rank_cmp left right) in
    let equal = Equal-is (rank_cmp left right) in (
      λ e. rank_exact left right (equal.0 (sym turned ∙ e)),
      λ e. turned ∙ equal.1 (ap (λ rank. rank_cmp left rank) (sym e) ∙ rank_itself left),
    )

-- an answer and that of the arguments swapped: `Equal` exactly if neither is `Less`
between : (order back : Ordering) → order ≡ ordering_reverse back → (is_eq order ≡ true) ↔ ((¬ (order ≡ Less)) × (¬ (back ≡ Less)))
between Less back e = (λ no. absurd (cc), λ both. absurd (both.0 refl))
between Equal Less e = absurd (cc)
between Equal Equal e = (λ yes. (λ no. absurd (cc), λ no. absurd (cc)), λ both. refl)
between Equal Greater e = absurd (cc)
between Greater Less e = (λ no. absurd (cc), λ both. absurd (both.1 refl))
between Greater Equal e = absurd (cc)
between Greater Greater e = absurd (cc)

by_octets : (direction : Direction) (a b : List ℕ) → IsTrue (comparator_eq (record { collation = Octet; direction = direction }) a b) ↔ (a ≡ b)
by_octets direction a b =
    let ranks = same_rank (record { collation = Octet; direction = direction }) a b in (
      λ e. let one : Octets a ≡ Octets b = ranks.0 e in cc,
      λ same. ranks.1 (ap Octets same),
    )

pub equality : EqualityLaw
equality =
    record {
      neither_before = λ comparator a b. between (comparator_cmp comparator a b) (comparator_cmp comparator b a) ((comparator_total comparator).antisymm a b);
      same_rank = same_rank;
      any_sign = λ collation a b. is_eq-directed Descending (rank_cmp (rank_of collation a) (rank_of collation b));
      by_octets = by_octets;
    }
