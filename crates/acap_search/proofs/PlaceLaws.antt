-- SortPlaces for SORT are in the order of comparators.
use Rattle.std.proofs.Common.{◌≡◌, ℕ, suc, false, ◌==◌, List, [], ◌∷◌, length, refl, sym, ap, ◌∙◌, arith}
use Rattle.std.proofs.lemmas.Bool.Decides.{nat_tests}
use Rattle.std.specs.Char.{is_ascii_digit}
use Rattle.std.specs.List.{take_while}
use Rattle.std.specs.declared.cmp.Ordering.TheVariants.{Less}
use Rattle.acap_order.proofs.NumberLemmas.{leading_number-cmp}
use Rattle.acap_order.specs.Ranks.{rank_of, number_cmp, spelled_number, in_direction, rank_cmp as order_cmp}
use Rattle.acap_order.specs.declared.comparator.Collation.{Collation}
use Rattle.acap_order.specs.declared.comparator.Collation.TheVariants.{Octet, AsciiCasemap, AsciiNumeric}
use Rattle.acap_order.specs.declared.comparator.Direction.{Direction}
use Rattle.acap_order.specs.declared.comparator.Direction.TheVariants.{Ascending, Descending}
use Rattle.acap_search.specs.Laws.{PlaceLaw}
use Rattle.acap_search.specs.Places.{number_rank, rank_in, directed_place, rank_cmp, place_cmp}
use Rattle.acap_search.specs.declared.sort_term.SortTerm.TheVariants.{Behind}
use Rattle.acap_search.specs.declared.sort_term.Rank.{Rank}
use Rattle.acap_search.proofs.OrderLemmas.{rank_total, match_total}

not_none : (count : ℕ) → (suc count == 0) ≡ false
not_none count = grind (arith, nat_tests)

numbers : (a b left right : List ℕ) → left ≡ take_while is_ascii_digit a → right ≡ take_while is_ascii_digit b → rank_cmp (number_rank left) (number_rank right) ≡ number_cmp (spelled_number left) (spelled_number right)
numbers a b [] [] e f = refl
numbers a b [] (y ∷ right) e f = refl
numbers a b (x ∷ left) [] e f = refl
numbers a b (x ∷ left) (y ∷ right) e f =
    sym (leading_number-cmp a b (x ∷ left) (y ∷ right) e f (not_none (length left)) (not_none (length right)))
    ∙ λ i. number_cmp (spelled_number (sym e i)) (spelled_number (sym f i))

ranks : (collation : Collation) (a b : List ℕ) → rank_cmp (rank_in collation a) (rank_in collation b) ≡ order_cmp (rank_of collation a) (rank_of collation b)
ranks Octet a b = refl
ranks AsciiCasemap a b = refl
ranks AsciiNumeric a b = numbers a b (take_while is_ascii_digit a) (take_while is_ascii_digit b) refl refl

turned : (direction : Direction) (a b : Rank) → place_cmp (directed_place direction a) (directed_place direction b) ≡ in_direction direction (rank_cmp a b)
turned Ascending a b = refl
turned Descending a b = rank_total.antisymm b a

first : (direction : Direction) (a : Rank) → place_cmp (directed_place direction a) Behind ≡ Less
first Ascending a = refl
first Descending a = refl

pub place_law : PlaceLaw
place_law = record {
  strings = λ comparator a b. turned comparator.direction (rank_in comparator.collation a) (rank_in comparator.collation b) ∙ ap (in_direction comparator.direction) (ranks comparator.collation a b);
  others = λ comparator a. first comparator.direction (rank_in comparator.collation a);
  nil = λ comparator. refl;
  list = λ comparator texts. refl;
  total = match_total;
}
