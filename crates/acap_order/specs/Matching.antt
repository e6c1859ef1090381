-- PREFIX and SUBSTRING (RFC 2244, sections 3.4 and 6.4.1) look for the
-- octets that a comparator compares. A comparator of numbers has neither.
use Rattle.std.specs.Prelude.{◌≡◌, ℕ, Bool, false, ◌||◌, nat_eq, List, [], ◌∷◌, ◌++◌}
use Rattle.std.specs.List.{starts_with}
use Rattle.acap_order.specs.declared.comparator.Comparator.{Comparator}
use Rattle.acap_order.specs.Ranks.{Rank, Octets, Number, rank_of}

-- octets are the pattern, and then some others
abbrev pub Begins : List ℕ → List ℕ → Type 0
Begins text pattern = (after : List ℕ) × (text ≡ pattern ++ after)

-- octets are some octets, the pattern, and then some others
abbrev pub Stands : List ℕ → List ℕ → Type 0
Stands text pattern = (before : List ℕ) × ((after : List ℕ) × (text ≡ before ++ (pattern ++ after)))

-- the same as a test: the pattern begins the octets, or stands in what follows their first
abbrev pub stands : List ℕ → List ℕ → Bool
stands [] pattern = starts_with nat_eq [] pattern
stands (octet ∷ rest) pattern = starts_with nat_eq (octet ∷ rest) pattern || stands rest pattern

-- a fact about the octets of two ranks, which no other ranks have
abbrev pub OfOctets : (List ℕ → List ℕ → Type 0) → Rank → Rank → Type 0
OfOctets P (Octets text) (Octets pattern) = P text pattern
OfOctets P (Octets text) (Number pattern) = ⊥
OfOctets P (Number text) pattern = ⊥

-- a test of the octets of two ranks, which no other ranks pass
abbrev pub of_octets : (List ℕ → List ℕ → Bool) → Rank → Rank → Bool
of_octets test (Octets text) (Octets pattern) = test text pattern
of_octets test (Octets text) (Number pattern) = false
of_octets test (Number text) pattern = false

-- PREFIX: what is compared of the text begins with what is compared of the pattern
abbrev pub HasPrefix : Comparator → List ℕ → List ℕ → Type 0
HasPrefix comparator text pattern =
    OfOctets Begins (rank_of comparator.collation text) (rank_of comparator.collation pattern)

abbrev pub has_prefix : Comparator → List ℕ → List ℕ → Bool
has_prefix comparator text pattern =
    of_octets (starts_with nat_eq) (rank_of comparator.collation text) (rank_of comparator.collation pattern)

-- SUBSTRING: what is compared of the pattern stands somewhere in what is compared of the text
abbrev pub HasSubstring : Comparator → List ℕ → List ℕ → Type 0
HasSubstring comparator text pattern =
    OfOctets Stands (rank_of comparator.collation text) (rank_of comparator.collation pattern)

abbrev pub has_substring : Comparator → List ℕ → List ℕ → Bool
has_substring comparator text pattern =
    of_octets stands (rank_of comparator.collation text) (rank_of comparator.collation pattern)
