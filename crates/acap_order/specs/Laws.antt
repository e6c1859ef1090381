-- What holds of every comparator.
use Rattle.std.specs.Prelude.{◌≡◌, ◌↔◌, ℕ, Bool, true, false, List, [], ◌∷◌, map, IsTrue, Option, Some, None}
use Rattle.std.specs.Prelude.{option_map, codes}
use Rattle.std.specs.Cmp.{IsTotalOrder}
use Rattle.std.specs.Ordering.{ordering_reverse}
use Rattle.std.specs.declared.cmp.Ordering.{Ordering}
use Rattle.std.specs.declared.cmp.Ordering.TheVariants.{Less, Equal, Greater}
use Rattle.acap_order.specs.declared.comparator.Collation.{Collation}
use Rattle.acap_order.specs.declared.comparator.Collation.TheVariants.{Octet, AsciiCasemap, AsciiNumeric}
use Rattle.acap_order.specs.declared.comparator.Direction.{Direction}
use Rattle.acap_order.specs.declared.comparator.Comparator.{Comparator}
use Rattle.acap_order.specs.Matching.{has_prefix, has_substring}
use Rattle.acap_order.specs.Ranks.{rank_of, is_numeric, upper_case, comparator_cmp, comparator_eq}
use Rattle.acap_order.specs.Spellings.{ascending, descending, collation_of, comparator_of}

-- each comparator orders all strings: of two one is before
-- the other or they are equal, and the order is transitive
abbrev pub OrderLaw : Type 0
OrderLaw = (comparator : Comparator) → IsTotalOrder (comparator_cmp comparator)

-- `-` reverses the order
abbrev pub ReverseLaw : Type 0
ReverseLaw =
    (collation : Collation) (a b : List ℕ)
    → comparator_cmp (descending collation) a b ≡ ordering_reverse (comparator_cmp (ascending collation) a b)

-- a string is before another
abbrev pub IsBefore : Comparator → List ℕ → List ℕ → Type 0
IsBefore comparator a b = comparator_cmp comparator a b ≡ Less

-- strings are equal to a comparator exactly if neither is before the other, and exactly if they have one
-- rank; its sign changes nothing; to i;octet and -i;octet a string equals itself alone
pub record EqualityLaw : Type 0 where
  pub neither_before : (comparator : Comparator) (a b : List ℕ) → IsTrue (comparator_eq comparator a b)
      ↔ ((¬ IsBefore comparator a b) × (¬ IsBefore comparator b a))
  pub same_rank : (comparator : Comparator) (a b : List ℕ) → IsTrue (comparator_eq comparator a b)
      ↔ (rank_of comparator.collation a ≡ rank_of comparator.collation b)
  pub any_sign : (collation : Collation) (a b : List ℕ)
      → comparator_eq (descending collation) a b ≡ comparator_eq (ascending collation) a b
  pub by_octets : (direction : Direction) (a b : List ℕ)
      → IsTrue (comparator_eq (record { collation = Octet; direction = direction }) a b) ↔ (a ≡ b)

-- how the comparator of a name orders two texts
abbrev pub ordered_by : List ℕ → List ℕ → List ℕ → Option Ordering
ordered_by name a b = option_map (λ comparator. comparator_cmp comparator a b) (comparator_of name)

-- whether the comparator of a name finds a pattern at the beginning of a text, and anywhere in it
abbrev pub prefixed_by : List ℕ → List ℕ → List ℕ → Option Bool
prefixed_by name text pattern =
    option_map (λ comparator. has_prefix comparator text pattern) (comparator_of name)

abbrev pub found_by : List ℕ → List ℕ → List ℕ → Option Bool
found_by name text pattern =
    option_map (λ comparator. has_substring comparator text pattern) (comparator_of name)

-- what comparators say of some texts, by the definitions alone
pub record Examples : Type 0 where
  pub leading_zeros : ordered_by (codes "i;ascii-numeric") (codes "9") (codes "009") ≡ Some Equal
  pub by_size : ordered_by (codes "i;ascii-numeric") (codes "9") (codes "10") ≡ Some Less
  pub zeros_and_size : ordered_by (codes "i;ascii-numeric") (codes "009") (codes "10") ≡ Some Less
  pub no_number_last : ordered_by (codes "i;ascii-numeric") (codes "10") (codes "x") ≡ Some Less
  pub nothing_last : ordered_by (codes "i;ascii-numeric") (codes "10") [] ≡ Some Less
  pub no_numbers_equal : ordered_by (codes "i;ascii-numeric") (codes "x") [] ≡ Some Equal
  pub leading_digits : ordered_by (codes "i;ascii-numeric") (codes "12abc") (codes "12") ≡ Some Equal
  pub zeros_reversed : ordered_by (codes "-i;ascii-numeric") (codes "9") (codes "009") ≡ Some Equal
  pub size_reversed : ordered_by (codes "-i;ascii-numeric") (codes "10") (codes "009") ≡ Some Less
  pub no_number_first : ordered_by (codes "-i;ascii-numeric") (codes "x") (codes "10") ≡ Some Less
  pub nothing_first : ordered_by (codes "-i;ascii-numeric") [] (codes "10") ≡ Some Less
  pub no_numbers_reversed : ordered_by (codes "-i;ascii-numeric") (codes "x") [] ≡ Some Equal
  pub letters : ordered_by (codes "i;ascii-casemap") (codes "a") (codes "B") ≡ Some Less
  pub letter_in_two_cases : ordered_by (codes "i;ascii-casemap") (codes "B") (codes "b") ≡ Some Equal
  pub octets_of_letters : ordered_by (codes "i;octet") (codes "B") (codes "a") ≡ Some Less
  pub two_cases_as_octets : ordered_by (codes "i;octet") (codes "B") (codes "b") ≡ Some Less
  pub proper_prefix : ordered_by (codes "i;octet") (codes "ab") (codes "abc") ≡ Some Less
  pub empty_prefix : ordered_by (codes "i;octet") [] (codes "a") ≡ Some Less
  pub prefix_reversed : ordered_by (codes "-i;octet") (codes "ab") (codes "abc") ≡ Some Greater
  pub any_case : comparator_of (codes "-I;Octet") ≡ comparator_of (codes "-i;octet")
  pub prefix_in_any_case : prefixed_by (codes "i;ascii-casemap") (codes "Option") (codes "OPT") ≡ Some true
  pub prefix_in_one_case : prefixed_by (codes "i;octet") (codes "Option") (codes "OPT") ≡ Some false
  pub no_longer_prefix : prefixed_by (codes "i;octet") (codes "opt") (codes "option") ≡ Some false
  pub part_in_any_case : found_by (codes "i;ascii-casemap") (codes "Option") (codes "ION") ≡ Some true
  pub part_in_one_case : found_by (codes "i;octet") (codes "Option") (codes "ION") ≡ Some false
  pub last_octet : found_by (codes "i;octet") (codes "Option") (codes "n") ≡ Some true
  pub nothing_in_nothing : found_by (codes "i;octet") [] [] ≡ Some true
  pub nothing_in_front : prefixed_by (codes "i;octet") (codes "opt") [] ≡ Some true
  pub no_longer_part : found_by (codes "i;octet") (codes "on") (codes "ion") ≡ Some false
  pub only_letters : upper_case (codes "@AZ[`az{") ≡ codes "@AZ[`AZ{"
  pub letters_reversed : ordered_by (codes "-i;ascii-casemap") (codes "a") (codes "B") ≡ Some Greater
  pub unsigned_octets : ordered_by (codes "i;octet") (127 ∷ []) (128 ∷ []) ≡ Some Less
  pub many_digits : ordered_by (codes "i;ascii-numeric") (codes "18446744073709551615")
      (codes "18446744073709551616") ≡ Some Less
  pub numbers : map is_numeric (Octet ∷ AsciiCasemap ∷ AsciiNumeric ∷ []) ≡ false ∷ false ∷ true ∷ []
  pub no_prefix_of_numbers : prefixed_by (codes "i;ascii-numeric") (codes "12") (codes "1") ≡ Some false
  pub no_part_of_numbers : found_by (codes "i;ascii-numeric") (codes "12") (codes "1") ≡ Some false
  pub no_signs : map comparator_of (codes "i;octet" ∷ codes "i;ascii-casemap" ∷ codes "i;ascii-numeric" ∷ [])
      ≡ Some (ascending Octet) ∷ Some (ascending AsciiCasemap) ∷ Some (ascending AsciiNumeric) ∷ []
  pub pluses : map comparator_of (codes "+i;octet" ∷ codes "+i;ascii-casemap" ∷ codes "+i;ascii-numeric" ∷ [])
      ≡ Some (ascending Octet) ∷ Some (ascending AsciiCasemap) ∷ Some (ascending AsciiNumeric) ∷ []
  pub minuses : map comparator_of
      (codes "-i;octet" ∷ codes "-i;ascii-casemap" ∷ codes "-i;ascii-numeric" ∷ [])
      ≡ Some (descending Octet) ∷ Some (descending AsciiCasemap) ∷ Some (descending AsciiNumeric) ∷ []
  pub collations : map collation_of
      (codes "i;octet" ∷ codes "I;ASCII-casemap" ∷ codes "i;ascii-numeric" ∷ codes "+i;octet" ∷ [])
      ≡ Some Octet ∷ Some AsciiCasemap ∷ Some AsciiNumeric ∷ None ∷ []
  pub two_signs : comparator_of (codes "+-i;octet") ≡ None
  pub longer_name : comparator_of (codes "i;octets") ≡ None
  pub no_name : comparator_of [] ≡ None
