-- Paths in the order of their full octets, and the names by which a search tells them.
use Rattle.std.proofs.Common.{◌≡◌, ℕ, suc, Option, Some, None, List, [], ◌∷◌, ◌++◌, refl, sym, ◌∙◌, ap, arith, map as each}
use Rattle.std.specs.Prelude.{All, AllPairs}
use Rattle.std.specs.Cmp.{tied_itself}
use Rattle.std.specs.Cmp.Lexicographic.{nat_list_cmp_total}
use Rattle.std.specs.List.{Contains}
use Rattle.std.specs.declared.cmp.Ordering.TheVariants.{Less}
use Rattle.acap_entries.proofs.FullPathLaws.{full_paths}
use Rattle.acap_entries.specs.FullPaths.{full_path, full_path_cmp, IsSplit}
use Rattle.acap_entries.specs.Orders.{octets_cmp}
use Rattle.acap_entries.specs.declared.path.Path.{Path}
use Rattle.acap_ordmap.proofs.Logic.{Contains-here, Contains-there}
use Rattle.acap_inherit.specs.Touched.{by_octets}
use Rattle.acap_inherit.specs.TouchedLaws.{TouchedPathsLaw}
use Rattle.acap_moves.specs.Hits.{IsBelow, IsAscending}
use Rattle.acap_search.specs.Tuples.{name_told}
use Rattle.acap_search.proofs.TellingLemmas.{same_front}

-- ---- paths that strictly ascend

abbrev pub Below : Path → List Path → Type 0
Below p [] = Unit {0}
Below p (q ∷ qs) = (full_path_cmp p q ≡ Less) × Below p qs

abbrev pub PathsRise : List Path → Type 0
PathsRise [] = Unit {0}
PathsRise (p ∷ ps) = Below p ps × PathsRise ps

module _ (listed : TouchedPathsLaw) where
  below_all : (p : Path) (qs : List Path) → IsSplit p → ((q : Path) → Contains qs q → IsSplit q) → All (λ q. by_octets p q ≡ Less) qs → Below p qs
  below_all p [] s t h = tt
  below_all p (q ∷ qs) s t h = (sym (listed.formed p q s (t q (Contains-here q qs))) ∙ h 0 q (omega arith), below_all p qs s (λ r k. t r (Contains-there q r qs k)) (λ k d lt. h (suc k) d (omega (arith, lt))))

  -- paths that are split at their last slash are told apart by their full octets
  pub paths_rise : (ps : List Path) → ((p : Path) → Contains ps p → IsSplit p) → AllPairs (λ p q. by_octets p q ≡ Less) ps → PathsRise ps
  paths_rise [] s r = tt
  paths_rise (p ∷ ps) s r = (
    below_all p ps (s p (Contains-here p ps)) (λ q k. s q (Contains-there p q ps k)) (λ k d lt. r 0 (suc k) d (omega arith) (omega (arith, lt))),
    paths_rise ps (λ q k. s q (Contains-there p q ps k)) (λ i j d a b. r (suc i) (suc j) d (omega (arith, a)) (omega (arith, b))),
  )

-- ---- and so do their names

module _ (dataset : List ℕ) where
  -- a search without DEPTH tells paths of its dataset alone
  abbrev pub IsIn : Option ℕ → Path → Type 0
  IsIn depth p = depth ≡ None → p.dataset ≡ dataset

  name_less : (depth : Option ℕ) (p q : Path) → IsIn depth p → IsIn depth q → full_path_cmp p q ≡ Less → octets_cmp (name_told depth p) (name_told depth q) ≡ Less
  name_less (Some depth) p q i j e = e
  name_less None p q i j e =
      sym (same_front dataset p.name q.name)
      ∙ ((λ t. octets_cmp (sym (i refl) t ++ p.name) (sym (j refl) t ++ q.name)) ∙ e)

  names_below : (depth : Option ℕ) (p : Path) (qs : List Path) → IsIn depth p → ((q : Path) → Contains qs q → IsIn depth q) → Below p qs → IsBelow (name_told depth p) (each (name_told depth) qs)
  names_below depth p [] i j b = tt
  names_below depth p (q ∷ qs) i j b = (name_less depth p q i (j q (Contains-here q qs)) b.0, names_below depth p qs i (λ r k. j r (Contains-there q r qs k)) b.1)

  pub names_rise : (depth : Option ℕ) (ps : List Path) → ((p : Path) → Contains ps p → IsIn depth p) → PathsRise ps → IsAscending (each (name_told depth) ps)
  names_rise depth [] j r = tt
  names_rise depth (p ∷ ps) j r = (names_below depth p ps (j p (Contains-here p ps)) (λ q k. j q (Contains-there p q ps k)) r.0, names_rise depth ps (λ q k. j q (Contains-there p q ps k)) r.1)

  -- paths that are told by one name are one path
  pub told_apart : (depth : Option ℕ) (p q : Path) → IsIn depth p → IsIn depth q → IsSplit p → IsSplit q → name_told depth p ≡ name_told depth q → p ≡ q
  told_apart (Some depth) p q i j s t e = full_paths.same p q s t (ap (λ x. octets_cmp x (full_path q)) e ∙ tied_itself nat_list_cmp_total (full_path q))
  told_apart None p q i j s t e = let same : p.dataset ≡ q.dataset = i refl ∙ sym (j refl) in λ x. record { dataset = same x; name = e x }
