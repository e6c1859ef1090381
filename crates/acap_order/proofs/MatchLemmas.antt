-- The tests of PREFIX and SUBSTRING decide what they are named for.
use Rattle.std.proofs.Common.{◌≡◌, ℕ, ◌+◌, ◌<◌, ◌≤◌, Bool, true, false, ◌||◌, nat_eq, ◌⊎◌, inl, inr, List, [], ◌∷◌, ◌++◌, Option, Some, None, is_some, length, take, drop, Decides, refl, sym, ap, ◌∙◌, arith, length-append}
use Rattle.std.specs.List.{starts_with}
use Rattle.std.proofs.Math.Seq.{take-append_seam, drop-append_seam}
use Rattle.std.proofs.lemmas.Bool.{false≢true}
use Rattle.std.proofs.lemmas.Bool.Decides.{Decides-eqb, Decides-like, Decides-or}
use Rattle.std.proofs.lemmas.List.{take-append-drop}
use Rattle.std.proofs.lemmas.Slice.Eq.{starts_is}
use Rattle.memchr.specs.Find.{FindsNeedle, OccursAt}
use Rattle.memchr.proofs.lemmas.MatchLemmas.{OccursAt-split, OccursAt-from_part}
use Rattle.acap_order.specs.declared.comparator.Comparator.{Comparator}
use Rattle.acap_order.specs.Ranks.{Rank, Octets, Number, rank_of}
use Rattle.acap_order.specs.Matching.{Begins, Stands, stands, OfOctets, of_octets, HasPrefix, has_prefix, HasSubstring, has_substring}

pub Decides-starts_with : (text pattern : List ℕ) → Decides (starts_with nat_eq text pattern) (Begins text pattern)
Decides-starts_with text pattern =
    let parts = starts_is {A = ℕ} {E = nat_eq} Decides-eqb text pattern (starts_with nat_eq text pattern) refl in (
      λ e. (drop (length pattern) text, parts.0 e),
      λ begins. parts.1 begins.0 begins.1,
    )

-- a pattern that stands in a text is in front, or stands after the first octet
front_or_later : (octet : ℕ) (rest pattern : List ℕ) → Stands (octet ∷ rest) pattern → Begins (octet ∷ rest) pattern ⊎ Stands rest pattern
front_or_later octet rest pattern ([], (after, e)) = inl (after, e)
front_or_later octet rest pattern (first ∷ before, (after, e)) =
    let same : rest ≡ before ++ (pattern ++ after) = cc in inr (before, (after, same))

from_either : (octet : ℕ) (rest pattern : List ℕ) → Begins (octet ∷ rest) pattern ⊎ Stands rest pattern → Stands (octet ∷ rest) pattern
from_either octet rest pattern (inl begins) = ([], (begins.0, begins.1))
from_either octet rest pattern (inr later) = (octet ∷ later.0, (later.1.0, ap (λ xs. octet ∷ xs) later.1.1))

in_nothing : (pattern : List ℕ) → Stands [] pattern → Begins [] pattern
in_nothing pattern ([], (after, e)) = (after, e)
in_nothing pattern (first ∷ before, (after, e)) = absurd (cc)

pub Decides-stands : (text pattern : List ℕ) → Decides (stands text pattern) (Stands text pattern)
Decides-stands [] pattern =
    let front = Decides-starts_with [] pattern in (
      λ e. let begins = front.0 e in ([], (begins.0, begins.1)),
      λ found. front.1 (in_nothing pattern found),
    )
Decides-stands (octet ∷ rest) pattern =
    let first : Bool = starts_with nat_eq (octet ∷ rest) pattern in
    let later : Bool = stands rest pattern in
    Decides-like (first || later) (from_either octet rest pattern) (front_or_later octet rest pattern) (Decides-or first later (Decides-starts_with (octet ∷ rest) pattern) (Decides-stands rest pattern))

-- a search for a pattern finds it exactly if it stands there
occurs : (text pattern before after : List ℕ) → text ≡ before ++ (pattern ++ after) → OccursAt text pattern (length before)
occurs text pattern before after e =
    let there : take (length pattern) (drop (length before) text) ≡ pattern =
    ap (λ xs. take (length pattern) (drop (length before) xs)) e ∙ ap (take (length pattern)) (drop-append_seam before (pattern ++ after)) ∙ take-append_seam pattern after in
    OccursAt-from_part text pattern (length before) (omega (arith, ap length e, length-append before (pattern ++ after), length-append pattern after)) there

pub Decides-find : (text pattern : List ℕ) (r : Option ℕ) → FindsNeedle text pattern 0 r → Decides (is_some r) (Stands text pattern)
Decides-find text pattern None nowhere = (
  λ e. absurd (false≢true e),
  λ found.
      let there = occurs text pattern found.0 found.1.0 found.1.1 in
      let fits : length found.0 + length pattern ≤ length text = there.fits in
      absurd (nowhere (length found.0) (omega arith) (omega arith) there),
)
Decides-find text pattern (Some place) first = (
  λ e. (
    take place text,
    (drop (place + length pattern) text, sym (take-append-drop place text) ∙ ap (λ xs. take place text ++ xs) (OccursAt-split text pattern place first.1)),
  ),
  λ found. refl,
)

-- a pattern that is longer than a text stands nowhere in it
pub Decides-longer : (text pattern : List ℕ) → length text < length pattern → Decides false (Stands text pattern)
Decides-longer text pattern longer = (
  λ e. absurd (false≢true e),
  λ found.
      let before = found.0 in
      let after = found.1.0 in
      absurd (omega (arith, ap length found.1.1, length-append before (pattern ++ after), length-append pattern after)),
)

-- a text that begins with a pattern has it somewhere
pub stands-front : (text pattern : List ℕ) → starts_with nat_eq text pattern ≡ true → stands text pattern ≡ true
stands-front [] pattern e = e
stands-front (octet ∷ rest) pattern e = ap (λ b. b || stands rest pattern) e

pub Decides-of_octets : {P : List ℕ → List ℕ → Type 0} (test : List ℕ → List ℕ → Bool) → ((a b : List ℕ) → Decides (test a b) (P a b)) → (a b : Rank) → Decides (of_octets test a b) (OfOctets P a b)
Decides-of_octets test decides (Octets a) (Octets b) = decides a b
Decides-of_octets test decides (Octets a) (Number n) = (λ e. absurd (false≢true e), λ no. absurd no)
Decides-of_octets test decides (Number n) b = (λ e. absurd (false≢true e), λ no. absurd no)

pub Decides-has_prefix : (comparator : Comparator) (text pattern : List ℕ) → Decides (has_prefix comparator text pattern) (HasPrefix comparator text pattern)
Decides-has_prefix comparator text pattern =
    Decides-of_octets {P = Begins} (starts_with nat_eq) Decides-starts_with (rank_of comparator.collation text) (rank_of comparator.collation pattern)

pub Decides-has_substring : (comparator : Comparator) (text pattern : List ℕ) → Decides (has_substring comparator text pattern) (HasSubstring comparator text pattern)
Decides-has_substring comparator text pattern =
    Decides-of_octets {P = Stands} stands Decides-stands (rank_of comparator.collation text) (rank_of comparator.collation pattern)
