-- How texts of two parts compare, and which names lie between two edges.
use Rattle.std.proofs.Common.{◌≡◌, Bool, true, false, not, List, [], ◌∷◌, ◌++◌, ℕ, ◌-◌, ◌<◌, length, drop, refl, sym, ap, ◌∙◌, ◌&&◌, arith, nat_eq}
use Rattle.std.specs.List.{starts_with}
use Rattle.std.specs.declared.cmp.Ordering.{Ordering}
use Rattle.std.specs.declared.cmp.Ordering.TheVariants.{Less, Equal, Greater}
use Rattle.std.specs.Ordering.{is_eq, is_gt, ordering_then, ordering_reverse, nat_cmp}
use Rattle.std.specs.Cmp.Lexicographic.{texts_ties, nat_list_cmp_total}
use Rattle.std.proofs.lemmas.Cmp.{ranked, nat_cmp_total}
use Rattle.std.proofs.lemmas.Bool.Decides.{nat_tests}
use Rattle.acap_entries.specs.Orders.{octets_cmp, octets_eq}

-- ---- texts with a beginning

alone : (v : Bool) → v ≡ v && true
alone true = refl
alone false = refl

then_same : (r : Ordering) → ordering_then r Equal ≡ r
then_same Less = refl
then_same Equal = refl
then_same Greater = refl

tied : (a b : ℕ) → nat_eq a b ≡ is_eq (nat_cmp a b)
tied a b = alone _ ∙ texts_ties (a ∷ []) (b ∷ []) ∙ ap is_eq (then_same (nat_cmp a b))

both_true : (r : Ordering) (v : Bool) → is_eq r && v ≡ true → (r ≡ Equal) × (v ≡ true)
both_true Less v e = cc
both_true Equal v e = (refl, e)
both_true Greater v e = cc

-- the first octets tie, and the rest has the rest of the beginning
begun : (a b : ℕ) (f x : List ℕ) → starts_with nat_eq (b ∷ x) (a ∷ f) ≡ true → (nat_cmp a b ≡ Equal) × (starts_with nat_eq x f ≡ true)
begun a b f x e = both_true (nat_cmp a b) (starts_with nat_eq x f) (ap (λ v. v && starts_with nat_eq x f) (sym (tied a b)) ∙ e)

-- a text that is shorter than the beginning is compared with that alone
pub too_short : (f t x : List ℕ) → length x < length f → octets_cmp (f ++ t) x ≡ octets_cmp f x
too_short [] t x h = absurd (omega (arith, h))
too_short (a ∷ f) t [] h = refl
too_short (a ∷ f) t (b ∷ x) h = let less : length x < length f = omega (arith, h) in ap (λ r. ordering_then (nat_cmp a b) r) (too_short f t x less)

-- the same for two texts of two parts
pub front_shorter : (a b c d : List ℕ) → starts_with nat_eq c a ≡ true → octets_cmp (a ++ b) (c ++ d) ≡ octets_cmp b (drop (length a) c ++ d)
front_shorter [] b c d e = refl
front_shorter (y ∷ a) b [] d e = cc
front_shorter (y ∷ a) b (x ∷ c) d e = let q = begun y x a c e in rw q.0 (front_shorter a b c d q.1)

swapped : (x y : ℕ) → nat_cmp x y ≡ Equal → nat_cmp y x ≡ Equal
swapped x y e = nat_cmp_total.antisymm y x ∙ ap ordering_reverse e

pub front_longer : (a b c d : List ℕ) → starts_with nat_eq a c ≡ true → octets_cmp (a ++ b) (c ++ d) ≡ octets_cmp (drop (length c) a ++ b) d
front_longer a b [] d e = refl
front_longer [] b (x ∷ c) d e = cc
front_longer (y ∷ a) b (x ∷ c) d e = let q = begun x y c a e in rw (swapped x y q.0) (front_longer a b c d q.1)

pub fronts_apart : (a b c d : List ℕ) → starts_with nat_eq c a ≡ false → starts_with nat_eq a c ≡ false → octets_cmp (a ++ b) (c ++ d) ≡ octets_cmp a c
fronts_apart [] b c d e h = cc
fronts_apart (y ∷ a) b [] d e h = cc
fronts_apart (y ∷ a) b (x ∷ c) d e h = elim (nat_cmp y x) as (λ r. (nat_cmp y x ≡ r) → is_eq r && starts_with nat_eq c a ≡ false → ordering_then r (octets_cmp (a ++ b) (c ++ d)) ≡ ordering_then r (octets_cmp a c)) [
  | Less ↦ λ q g. refl
  | Equal ↦ λ q g. fronts_apart a b c d g (ap (λ r. is_eq r && starts_with nat_eq a c) (sym (swapped y x q)) ∙ ap (λ v. v && starts_with nat_eq a c) (sym (tied x y)) ∙ h)
  | Greater ↦ λ q g. refl
] refl (ap (λ v. v && starts_with nat_eq c a) (sym (tied y x)) ∙ e)

pub turned : (x y : List ℕ) → ordering_reverse (octets_cmp x y) ≡ octets_cmp y x
turned x y = sym (nat_list_cmp_total.antisymm y x)

-- ---- the names between two edges

pub never_greater : (n : List ℕ) → is_gt (octets_cmp [] n) ≡ false
never_greater [] = refl
never_greater (x ∷ n) = refl

-- the name after the dataset makes no key greater than the management entry
pub greater_by_dataset : (r : Ordering) (n : List ℕ) → is_gt (ordering_then r (octets_cmp [] n)) ≡ is_gt r
greater_by_dataset Less n = refl
greater_by_dataset Equal n = never_greater n
greater_by_dataset Greater n = refl

-- of the octets 0, `/` (47) and `0` (48)
no_octet_before_nul : (y : ℕ) → is_gt (nat_cmp 0 y) ≡ false
no_octet_before_nul y = elim (nat_cmp 0 y) as (λ r. r ≡ nat_cmp 0 y → is_gt r ≡ false) [
  | Less ↦ λ e. refl
  | Equal ↦ λ e. refl
  | Greater ↦ λ e. let bad : y < 0 = ranked 0 y Greater e in absurd (omega arith)
] refl

abbrev pub in_own : List ℕ → List ℕ → Bool
in_own d x = is_gt (octets_cmp (d ++ 0 ∷ []) x) && not (is_gt (octets_cmp d x))

pub own_range : (d x : List ℕ) → octets_eq d x ≡ in_own d x
own_range [] [] = refl
own_range [] (y ∷ x) = sym (ap (λ v. v && true) (greater_by_dataset (nat_cmp 0 y) x ∙ no_octet_before_nul y))
own_range (a ∷ d) [] = refl
own_range (a ∷ d) (b ∷ x) = ap (λ v. v && octets_eq d x) (tied a b) ∙ elim (nat_cmp a b) as (λ r. is_eq r && octets_eq d x ≡ is_gt (ordering_then r (octets_cmp (d ++ 0 ∷ []) x)) && not (is_gt (ordering_then r (octets_cmp d x)))) [
  | Less ↦ refl
  | Equal ↦ own_range d x
  | Greater ↦ refl
]

abbrev pub in_beneath : List ℕ → List ℕ → Bool
in_beneath f x = is_gt (octets_cmp (f ++ 48 ∷ []) x) && not (is_gt (octets_cmp (f ++ 47 ∷ []) x))

only_slash : (y : ℕ) → nat_eq 47 y ≡ is_gt (nat_cmp 48 y) && not (is_gt (nat_cmp 47 y))
only_slash y = grind (arith, nat_tests)

pub beneath_range : (f x : List ℕ) → starts_with nat_eq x (f ++ 47 ∷ []) ≡ in_beneath f x
beneath_range [] [] = refl
beneath_range [] (y ∷ x) =
    sym (alone (nat_eq 47 y)) ∙ only_slash y
    ∙ ap (λ v. v && not (is_gt (nat_cmp 47 y))) (sym (greater_by_dataset (nat_cmp 48 y) x))
    ∙ ap (λ v. is_gt (ordering_then (nat_cmp 48 y) (octets_cmp [] x)) && not v) (sym (greater_by_dataset (nat_cmp 47 y) x))
beneath_range (a ∷ f) [] = refl
beneath_range (a ∷ f) (b ∷ x) = ap (λ v. v && starts_with nat_eq x (f ++ 47 ∷ [])) (tied a b) ∙ elim (nat_cmp a b) as (λ r. is_eq r && starts_with nat_eq x (f ++ 47 ∷ []) ≡ is_gt (ordering_then r (octets_cmp (f ++ 48 ∷ []) x)) && not (is_gt (ordering_then r (octets_cmp (f ++ 47 ∷ []) x)))) [
  | Less ↦ refl
  | Equal ↦ beneath_range f x
  | Greater ↦ refl
]

-- where a name is less than the front of an edge, it is less than the edge
pub rises_by : (f s t x : List ℕ) → ((x : List ℕ) → octets_cmp s x ≡ Greater → octets_cmp t x ≡ Greater) → octets_cmp (f ++ s) x ≡ Greater → octets_cmp (f ++ t) x ≡ Greater
rises_by [] s t x h = λ e. h x e
rises_by (a ∷ f) s t [] h = λ e. refl
rises_by (a ∷ f) s t (b ∷ x) h = elim (nat_cmp a b) as (λ r. ordering_then r (octets_cmp (f ++ s) x) ≡ Greater → ordering_then r (octets_cmp (f ++ t) x) ≡ Greater) [
  | Less ↦ λ e. cc
  | Equal ↦ λ e. rises_by f s t x h e
  | Greater ↦ λ e. refl
]

-- where the beginnings are the same the rests decide
pub fronts_alike : (a b c d : List ℕ) → is_eq (octets_cmp a c) ≡ true → octets_cmp (a ++ b) (c ++ d) ≡ octets_cmp b d
fronts_alike [] b [] d e = refl
fronts_alike [] b (x ∷ c) d e = cc
fronts_alike (y ∷ a) b [] d e = cc
fronts_alike (y ∷ a) b (x ∷ c) d e =
    elim (nat_cmp y x) as (λ r. is_eq (ordering_then r (octets_cmp a c)) ≡ true → ordering_then r (octets_cmp (a ++ b) (c ++ d)) ≡ octets_cmp b d) [
      | Less ↦ λ h. cc
      | Equal ↦ λ h. fronts_alike a b c d h
      | Greater ↦ λ h. cc
    ] e

-- and where they differ these decide, as long as each other
pub fronts_differ : (a b c d : List ℕ) → length c ≡ length a → is_eq (octets_cmp a c) ≡ false → octets_cmp (a ++ b) (c ++ d) ≡ octets_cmp a c
fronts_differ [] b [] d h e = cc
fronts_differ [] b (x ∷ c) d h e = absurd (omega (arith, h))
fronts_differ (y ∷ a) b [] d h e = absurd (omega (arith, h))
fronts_differ (y ∷ a) b (x ∷ c) d h e =
    let same : length c ≡ length a = omega (arith, h) in
    elim (nat_cmp y x) as (λ r. is_eq (ordering_then r (octets_cmp a c)) ≡ false → ordering_then r (octets_cmp (a ++ b) (c ++ d)) ≡ ordering_then r (octets_cmp a c)) [
      | Less ↦ λ g. refl
      | Equal ↦ λ g. fronts_differ a b c d same g
      | Greater ↦ λ g. refl
    ] e
