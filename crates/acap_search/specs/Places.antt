-- Where entries stand for an item of SORT, and in which order [RFC 2244 sections 3.4 and 6.4.1].
use Rattle.std.specs.Prelude.{ℕ, List, [], ◌∷◌, length, map as each}
use Rattle.std.specs.Char.{is_ascii_digit}
use Rattle.std.specs.Cmp.Lexicographic.{slice_cmp}
use Rattle.std.specs.List.{take_while}
use Rattle.std.specs.Ordering.{nat_cmp, ordering_then}
use Rattle.std.specs.declared.cmp.Ordering.{Ordering}
use Rattle.std.specs.declared.cmp.Ordering.TheVariants.{Less, Equal, Greater}
use Rattle.acap_entries.specs.Orders.{octets_cmp}
use Rattle.acap_entries.specs.declared.record.Cell.{Cell}
use Rattle.acap_entries.specs.declared.record.Cell.TheVariants.{Nil, Single, Multi}
use Rattle.acap_commands.specs.declared.search_modifiers.SortItem.{SortItem}
use Rattle.acap_order.specs.Digits.{significant_digits}
use Rattle.acap_order.specs.Ranks.{upper_case}
use Rattle.acap_order.specs.declared.comparator.Collation.{Collation}
use Rattle.acap_order.specs.declared.comparator.Collation.TheVariants.{Octet, AsciiCasemap, AsciiNumeric}
use Rattle.acap_order.specs.declared.comparator.Comparator.{Comparator}
use Rattle.acap_order.specs.declared.comparator.Direction.{Direction}
use Rattle.acap_order.specs.declared.comparator.Direction.TheVariants.{Ascending, Descending}
use Rattle.acap_search.specs.declared.sort_term.SortTerm.{SortTerm}
use Rattle.acap_search.specs.declared.sort_term.SortTerm.TheVariants.{Rising, Falling, Behind}
use Rattle.acap_search.specs.declared.sort_term.Rank.{Rank}
use Rattle.acap_search.specs.declared.sort_term.Rank.TheVariants.{Octets, Number, NoNumber}

-- what a string is compared by, as it is kept: its octets, those in upper case, or the digits of the number
-- that it begins with, without leading zeros, where it begins with a number
abbrev pub number_rank : List ℕ → Rank
number_rank [] = NoNumber
number_rank (digit ∷ digits) = Number (significant_digits (digit ∷ digits))

abbrev pub rank_in : Collation → List ℕ → Rank
rank_in Octet text = Octets text
rank_in AsciiCasemap text = Octets (upper_case text)
rank_in AsciiNumeric text = number_rank (take_while is_ascii_digit text)

-- the sign `-` turns the order of strings round, and of nothing else
abbrev pub directed_place : Direction → Rank → SortTerm
directed_place Ascending rank = Rising rank
directed_place Descending rank = Falling rank

-- where a value stands: a string by what it is compared by, and after all strings NIL and every list alike
abbrev pub place_in : Comparator → Cell → SortTerm
place_in comparator Nil = Behind
place_in comparator (Single text) = directed_place comparator.direction (rank_in comparator.collation text)
place_in comparator (Multi texts) = Behind

abbrev pub places_in : (List ℕ → Cell) → List SortItem → List SortTerm
places_in read sort = each (λ item. place_in item.comparator (read item.attribute)) sort

-- octet by octet, and numbers by the count of their digits and then digit by digit, no number being after
-- all numbers. Those of one comparator are all octets or all numbers
abbrev pub rank_cmp : Rank → Rank → Ordering
rank_cmp (Octets a) (Octets b) = octets_cmp a b
rank_cmp (Octets a) (Number b) = Less
rank_cmp (Octets a) NoNumber = Less
rank_cmp (Number a) (Octets b) = Greater
rank_cmp (Number a) (Number b) = ordering_then (nat_cmp (length a) (length b)) (octets_cmp a b)
rank_cmp (Number a) NoNumber = Less
rank_cmp NoNumber (Octets b) = Greater
rank_cmp NoNumber (Number b) = Greater
rank_cmp NoNumber NoNumber = Equal

-- the places of one comparator are all in one direction
abbrev pub place_cmp : SortTerm → SortTerm → Ordering
place_cmp (Rising a) (Rising b) = rank_cmp a b
place_cmp (Rising a) (Falling b) = Less
place_cmp (Rising a) Behind = Less
place_cmp (Falling a) (Rising b) = Greater
place_cmp (Falling a) (Falling b) = rank_cmp b a
place_cmp (Falling a) Behind = Less
place_cmp Behind (Rising b) = Greater
place_cmp Behind (Falling b) = Greater
place_cmp Behind Behind = Equal

-- by the items of SORT, the first deciding first
abbrev pub places_cmp : List SortTerm → List SortTerm → Ordering
places_cmp = slice_cmp place_cmp
