-- What is gathered, step by step.
use Rattle.std.proofs.Common.{◌≡◌, inl, inr, ℕ, zero, suc, ◌+◌, ◌-◌, ◌≤◌, true, false, cond, Option, None, Some, List, [], ◌∷◌, ◌++◌, arith, refl, sym, ◌∙◌, ap, subst, append-nil, append_assoc, flat_map, length, length-append, take, map as each}
use Rattle.std.proofs.lemmas.Bool.Decides.{nat_tests}
use Rattle.std.proofs.lemmas.List.{length-map, map-append, take-map, take-take}
use Rattle.std.specs.List.{cons_option, filter_map, Contains}
use Rattle.acap_entries.specs.declared.path.Path.{Path}
use Rattle.acap_entries.specs.declared.record.Record.{Record}
use Rattle.acap_ordmap.proofs.Logic.{Contains-here, Contains-there}
use Rattle.acap_commands.specs.declared.search_modifiers.Limit.{Limit}
use Rattle.acap_search.specs.Cutting.{IsExcerpt, IsWished, cut_of, most_told}
use Rattle.acap_search.specs.Gathering.{rows_of, told_of, none_told, told_with, none_in_order, none_in_turn, with_more, with_one, put_in_order, count_of, rows_at, first_in, excerpt_in, IsFirst, IsGathered}
use Rattle.acap_search.specs.PathRefs.{untold}
use Rattle.acap_search.specs.Matches.{Match, match_lt, put_by, sorted_from, sorted_by}
use Rattle.acap_search.specs.Walks.{Walk, match_in}
use Rattle.acap_search.specs.declared.found_matches.FoundMatches.{FoundMatches}
use Rattle.acap_search.specs.declared.found_matches.FoundMatches.TheVariants.{Findings, Stands, First}
use Rattle.acap_search.specs.declared.answer.SearchAnswer.{SearchAnswer}
use Rattle.acap_search.specs.declared.first_rows.FirstRows.{FirstRows}
use Rattle.acap_search.specs.declared.row_limit.RowLimit.{RowLimit}
use Rattle.acap_search.specs.declared.row_limit.RowLimit.TheVariants as wish

-- ---- the first rows

take_none : {X : Type 0} (n : ℕ) → take {A = X} n [] ≡ []
take_none zero = refl
take_none (suc n) = refl

-- the first of two lists, one after the other
take_both : {X : Type 0} (n : ℕ) (xs ys : List X) → take n (xs ++ ys) ≡ take n xs ++ take (n - length xs) ys
take_both n [] ys =
    let all : n - 0 ≡ n = omega arith in
    sym (λ i. take_none n i ++ take (all i) ys)
take_both zero (x ∷ xs) ys =
    let none : 0 - suc (length xs) ≡ 0 = omega arith in
    sym (ap (λ n. take n ys) none)
take_both (suc n) (x ∷ xs) ys =
    let less : n - length xs ≡ suc n - suc (length xs) = omega arith in
    ap (λ rest. x ∷ rest) (take_both n xs ys ∙ ap (λ k. take n xs ++ take k ys) less)

told_none : (told : FirstRows) → told_with told [] ≡ told
told_none told =
    let rows : told.rows ++ take (told.most - told.count) [] ≡ told.rows =
    ap (λ more. told.rows ++ more) (take_none (told.most - told.count)) ∙ append-nil told.rows
    in
    let count : told.count + 0 ≡ told.count = omega arith in
    λ i. record { rows = rows i; most = told.most; count = count i }

told_twice : (told : FirstRows) (a b : List Match) → told_with (told_with told a) b ≡ told_with told (a ++ b)
told_twice told a b =
    let left : ℕ = told.most - told.count in
    let less : told.most - (told.count + length a) ≡ left - length (rows_of a) = omega (arith, length-map a (λ m. m.row)) in
    let both : take left (rows_of (a ++ b)) ≡ take left (rows_of a) ++ take (left - length (rows_of a)) (rows_of b) =
    ap (take left) (map-append (λ m. m.row) a b) ∙ take_both left (rows_of a) (rows_of b)
    in
    let rows : (told.rows ++ take left (rows_of a)) ++ take (told.most - (told.count + length a)) (rows_of b) ≡ told.rows ++ take left (rows_of (a ++ b)) =
    append_assoc told.rows (take left (rows_of a)) (take (told.most - (told.count + length a)) (rows_of b))
    ∙ ap (λ more. told.rows ++ more) (ap (λ n. take left (rows_of a) ++ take n (rows_of b)) less ∙ sym both)
    in
    let count : (told.count + length a) + length b ≡ told.count + length (a ++ b) = omega (arith, length-append a b) in
    λ i. record { rows = rows i; most = told.most; count = count i }

-- ---- parts of it

pub gathered_none : (g : FoundMatches) → with_more g [] ≡ g
unfolding with_more
gathered_none (Findings found) = ap Findings (append-nil found)
gathered_none (Stands found) = ap Stands (append-nil found)
gathered_none (First told) = ap First (told_none told)

-- one part after the other
pub gathered_twice : (g : FoundMatches) (a b : List Match) → with_more (with_more g a) b ≡ with_more g (a ++ b)
unfolding with_more
gathered_twice (Findings found) a b = ap Findings (append_assoc found a b)
gathered_twice (Stands found) a b =
    ap Stands (append_assoc found (each untold a) (each untold b) ∙ ap (λ more. found ++ more) (sym (map-append untold a b)))
gathered_twice (First told) a b = ap First (told_twice told a b)

next_found : (one : Option Match) (g : FoundMatches) (more : List Match) → with_more (with_one g one) more ≡ with_more g (cons_option one more)
next_found None g more = ap (λ g. with_more g more) (gathered_none g)
next_found (Some one) g more = gathered_twice g (one ∷ []) more

-- what is found of the next, and then of all after it
pub gathered_next : {X : Type 0} (f : X → Option Match) (g : FoundMatches) (x : X) (xs : List X)
    → with_more (with_one g (f x)) (filter_map f xs) ≡ with_more g (filter_map f (x ∷ xs))
gathered_next f g x xs = next_found (f x) g (filter_map f xs)

-- all has been walked through
pub walked : {X : Type 0} (f : X → List Match) (found before : FoundMatches) (left all : List X) → left ≡ []
    → with_more found (flat_map f left) ≡ with_more before (flat_map f all) → found ≡ with_more before (flat_map f all)
walked f found before left all e h = sym (gathered_none found) ∙ (ap (λ xs. with_more found (flat_map f xs)) (sym e) ∙ h)

-- what is found at the names of all records, when all have been walked through
pub own_walked : (f : List ℕ → Option Match) (found before : FoundMatches) (left all : List (Path × Record)) (names : List (List ℕ)) → left ≡ []
    → with_more found (filter_map f (each (λ e. e.0.name) left)) ≡ with_more before (filter_map f (each (λ e. e.0.name) all)) → names ≡ each (λ e. e.0.name) all
    → found ≡ with_more before (filter_map f names)
own_walked f found before left all names e h n =
    sym (gathered_none found)
    ∙ (ap (λ es. with_more found (filter_map f (each (λ e. e.0.name) es))) (sym e) ∙ (h ∙ ap (λ names. with_more before (filter_map f names)) (sym n)))

-- ---- in order

put_untold : (m : Match) (ms : List Match) → put_by match_lt (untold m) (each untold ms) ≡ each untold (put_by match_lt m ms)
put_untold m [] = refl
put_untold m (n ∷ ms) =
    elim (match_lt n m) as
    (λ b. cond b (untold n ∷ put_by match_lt (untold m) (each untold ms)) (untold m ∷ untold n ∷ each untold ms) ≡ each untold (cond b (n ∷ put_by match_lt m ms) (m ∷ n ∷ ms)))
    [ true ↦ ap (λ rest. untold n ∷ rest) (put_untold m ms) | false ↦ refl ]

untold_from : (ms : List Match) → sorted_from match_lt (each untold ms) ≡ each untold (sorted_from match_lt ms)
untold_from [] = refl
untold_from (m ∷ ms) = ap (put_by match_lt (untold m)) (untold_from ms) ∙ put_untold m (sorted_from match_lt ms)

-- matches are sorted alike whether anything is told of them or not
sorted_untold : (ms : List Match) → sorted_by match_lt (each untold ms) ≡ each untold (sorted_by match_lt ms)
unfolding sorted_by
sorted_untold ms = untold_from ms

none_before : (most : ℕ) (matches : List Match) → told_with (none_told most) matches ≡ told_of most matches
none_before most matches =
    let all : most - 0 ≡ most = omega arith in
    let count : 0 + length matches ≡ length matches = omega arith in
    λ i. record { rows = take (all i) (rows_of matches); most = most; count = count i }

-- what came in order, and what was put in order
pub came_so : (want : RowLimit) (found : FoundMatches) (hits matches : List Match) → found ≡ with_more (none_in_order want) hits → hits ≡ matches → IsGathered want found matches
unfolding with_more
came_so wish.All found hits matches f h = f ∙ ap Findings h
came_so (wish.First limit) found hits matches f h =
    subst (λ found. IsFirst limit found matches) (sym f) (ap (told_with (none_told (most_told limit))) h ∙ none_before (most_told limit) matches)

pub put_so : (want : RowLimit) (found sorted : FoundMatches) (hits matches : List Match) → found ≡ with_more (none_in_turn want) hits → sorted ≡ put_in_order found → sorted_by match_lt hits ≡ matches
    → IsGathered want sorted matches
unfolding with_more
put_so wish.All found sorted hits matches f s h = s ∙ (ap put_in_order f ∙ ap Findings h)
put_so (wish.First None) found sorted hits matches f s h =
    subst (λ sorted. IsFirst None sorted matches) (sym (s ∙ ap put_in_order f)) h
put_so (wish.First (Some limit)) found sorted hits matches f s h =
    subst (λ sorted. IsFirst (Some limit) sorted matches) (sym (s ∙ ap put_in_order f)) (sorted_untold hits ∙ ap (each untold) h)

-- ---- what is told of it

-- as many as there are matches
first_many : (limit : Option Limit) (found : FoundMatches) (matches : List Match) → IsFirst limit found matches → count_of found ≡ length matches
first_many limit (Findings found) matches h = ap length h
first_many limit (Stands found) matches h = ap length h ∙ length-map matches untold
first_many limit (First told) matches h = ap (λ told. told.count) h

pub as_many : (want : RowLimit) (found : FoundMatches) (matches : List Match) → IsGathered want found matches → count_of found ≡ length matches
as_many wish.All found matches h = ap count_of h
as_many (wish.First limit) found matches h = first_many limit found matches h

-- no more are told than are gathered
told_within : (limit : Option Limit) (count : ℕ) → count ≤ 18_446_744_073_709_551_615 → (cut_of limit count).told ≤ most_told limit
told_within None count less = less
told_within (Some limit) count less = grind (arith, nat_tests)

all_within : (limit : Option Limit) (count : ℕ) → count ≤ 18_446_744_073_709_551_615 → (cut_of limit count).told ≤ most_told None
all_within None count less = less
all_within (Some limit) count less = grind (arith, nat_tests)

wished_within : (limit wished : Option Limit) (count : ℕ) → IsWished limit wished → count ≤ 18_446_744_073_709_551_615 → (cut_of limit count).told ≤ most_told wished
wished_within limit wished count (inl e) less = subst (λ w. (cut_of limit count).told ≤ most_told w) (sym e) (told_within limit count less)
wished_within limit wished count (inr e) less = subst (λ w. (cut_of limit count).told ≤ most_told w) (sym e) (all_within limit count less)

module _ (quest : Walk) where
  -- each is what is made of the entry at its path
  abbrev pub AreMade : List Match → Type 0
  AreMade matches = (m : Match) → Contains matches m → match_in quest m.path ≡ m

  -- rows that are made of the first afterwards are theirs
  rows_made : (n : ℕ) (matches : List Match) → AreMade matches → rows_at quest (take n (each untold matches)) ≡ rows_of (take n matches)
  rows_made zero matches made = refl
  rows_made (suc n) [] made = refl
  rows_made (suc n) (m ∷ matches) made =
      let first : (match_in quest m.path).row ≡ m.row = ap (λ made. made.row) (made m (Contains-here m matches)) in
      let rest : rows_at quest (take n (each untold matches)) ≡ rows_of (take n matches) = rows_made n matches (λ n k. made n (Contains-there m n matches k)) in
      λ i. first i ∷ rest i

  first_so : (limit : Option Limit) (n : ℕ) (found : FoundMatches) (matches : List Match) → n ≤ most_told limit → AreMade matches → IsFirst limit found matches
      → first_in quest n found ≡ rows_of (take n matches)
  first_so limit n (Findings found) matches less made h = ap (λ found. rows_of (take n found)) h
  first_so limit n (Stands found) matches less made h = ap (λ found. rows_at quest (take n found)) h ∙ rows_made n matches made
  first_so limit n (First told) matches less made h =
      ap (λ told. take n told.rows) h ∙ (take-take n (most_told limit) (rows_of matches) less ∙ take-map (λ m. m.row) n matches)

  -- the rows of as many first matches as LIMIT lets through, and the total
  pub excerpt_so : (limit wished : Option Limit) (excerpt : SearchAnswer) (found : FoundMatches) (matches : List Match) → IsWished limit wished → AreMade matches → IsFirst wished found matches
      → count_of found ≤ 18_446_744_073_709_551_615 → excerpt ≡ excerpt_in quest limit found → IsExcerpt limit excerpt matches
  excerpt_so limit wished excerpt found matches so made h less e =
      let many : count_of found ≡ length matches = first_many wished found matches h in
      let known : cut_of limit (count_of found) ≡ cut_of limit (length matches) = ap (cut_of limit) many in
      let within : (cut_of limit (count_of found)).told ≤ most_told wished = wished_within limit wished (count_of found) so less in (
        ap (λ excerpt. excerpt.rows) e
            ∙ (first_so wished (cut_of limit (count_of found)).told found matches within made h ∙ ap (λ cut. rows_of (take cut.told matches)) known),
        ap (λ excerpt. excerpt.total) e ∙ ap (λ cut. cut.total) known,
      )
