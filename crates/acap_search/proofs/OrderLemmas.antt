-- A sort by the order of matches is the sorted list.
use Rattle.std.proofs.Common.{◌≡◌, true, not, ◌&&◌, List, ap, Bor}
use Rattle.std.specs.Cmp.{IsStrictWeakOrder}
use Rattle.std.specs.Fn.{Called, ComparesAs}
use Rattle.std.specs.List.Sorted.{IsSortedByClosure, IsStableByClosure, ties}
use Rattle.std.specs.Ordering.{is_lt, ordering_then, ordering_reverse}
use Rattle.std.specs.declared.cmp.Ordering.{Ordering}
use Rattle.std.specs.declared.cmp.Ordering.TheVariants.{Less, Equal, Greater}
use Rattle.std.proofs.lemmas.Cmp.{on_total, nat_list_cmp_total}
use Rattle.std.proofs.lemmas.List.Sorted.{ranks_by, answers_always}
use denote.Param.Members.{Mut}
use Rattle.acap_entries.specs.FullPaths.{full_path, full_path_cmp}
use Rattle.acap_entries.specs.declared.path.Path.{Path}
use Rattle.acap_search.specs.Fresh.{full_path_lt}
use Rattle.acap_search.specs.Matches.{Match, match_cmp, match_lt, sorted_by}
use Rattle.acap_search.specs.Places.{places_cmp}
pub use Rattle.acap_search.specs.Totals.{rank_total, places_total, match_total}
use Rattle.acap_search.proofs.SortLemmas.{sorted_is}

pub match_weak : IsStrictWeakOrder match_lt
match_weak = ranks_by match_total (λ (m : Match). m)

pub path_weak : IsStrictWeakOrder full_path_lt
path_weak = ranks_by (on_total full_path nat_list_cmp_total) (λ (p : Path). p)

-- what a sort by that order leaves
pub sorted_from_clauses : {F : Type 0} {g : Mut F (Bor Match × (Bor Match × Unit {0})) Ordering} {f : F} (xs ys : List Match) → IsSortedByClosure g f ys → IsStableByClosure g f xs ys → ((f : F) (a : Bor Match × (Bor Match × Unit {0})) (r : Ordering) (f' : F) → Called g f a r f' → r ≡ match_cmp a.0.now a.1.0.now) → ys ≡ sorted_by match_lt xs
sorted_from_clauses {g = g} {f = f} xs ys s t h =
    let always : ComparesAs g match_lt f = answers_always g (λ a r. is_lt r ≡ match_lt a.0.now a.1.0.now) f (λ f a r q k. ap is_lt (h f a r q k)) in
    sorted_is match_lt match_weak xs ys (s match_lt match_weak always) (t match_lt match_weak always)

-- matches that tie have places that do, and so have their paths
tied_behind : (a b c d : Ordering) → a ≡ ordering_reverse b → (not (is_lt (ordering_then a c)) && not (is_lt (ordering_then b d))) ≡ true → (not (is_lt c) && not (is_lt d)) ≡ true
tied_behind Less b c d e h = absurd (cc)
tied_behind Equal Less c d e h = absurd (cc)
tied_behind Equal Equal c d e h = h
tied_behind Equal Greater c d e h = absurd (cc)
tied_behind Greater Less c d e h = absurd (cc)
tied_behind Greater Equal c d e h = absurd (cc)
tied_behind Greater Greater c d e h = absurd (cc)

pub paths_tie : (m n : Match) → ties match_lt m n ≡ true → ties full_path_lt m.path n.path ≡ true
paths_tie m n h = tied_behind (places_cmp m.places n.places) (places_cmp n.places m.places) (full_path_cmp m.path n.path) (full_path_cmp n.path m.path) (places_total.antisymm m.places n.places) h
