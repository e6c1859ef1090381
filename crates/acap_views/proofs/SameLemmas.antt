-- Whether two tuples are the same is whether they are equal.
use Rattle.std.proofs.Common.{◌≡◌, true, ◌&&◌, Option, Some, None, refl, ◌∙◌, subst}
use Rattle.std.specs.Cmp.{first_so, second_so}
use Rattle.std.specs.Cmp.Lexicographic.{pointwise}
use Rattle.acap_entries.proofs.Equalities.{row_exact}
use Rattle.acap_moves.specs.Notices.{same_row}
use Rattle.acap_search.specs.Fresh.{same_path}
use Rattle.acap_search.specs.Matches.{Match}
use Rattle.acap_search.specs.contracts.sort_term.SortTermPartialEq.TheImpl as place
use Rattle.acap_search.proofs.EqualLemmas.{places_exact}
use Rattle.acap_search.proofs.TupleLemmas.{itself, same_paths}
use Rattle.acap_views.specs.Notices.{same_tuple}

pub same_exact : (a b : Option Match) → same_tuple a b ≡ true → a ≡ b
same_exact None None e = refl
same_exact None (Some b) e = absurd (cc (e))
same_exact (Some a) None e = absurd (cc (e))
same_exact (Some a) (Some b) e =
    let path : a.path ≡ b.path = same_paths a.path b.path (first_so _ _ e) in
    let places : a.places ≡ b.places = (places_exact a.places b.places).0 (first_so _ _ (second_so _ _ e)) in
    let row : a.row ≡ b.row = (row_exact a.row b.row).0 (second_so _ _ (second_so _ _ e)) in
    λ i. Some (record { path = path i; places = places i; row = row i })

pub same_itself : (a b : Option Match) → a ≡ b → same_tuple a b ≡ true
same_itself None None e = refl
same_itself None (Some b) e = absurd (cc (e))
same_itself (Some a) None e = absurd (cc (e))
same_itself (Some a) (Some b) e =
    let same : a ≡ b = cc (e) in
    subst (λ (m : Match). (same_path a.path m.path && (pointwise place.ghosts.eq a.places m.places && same_row a.row m.row)) ≡ true) same
    ((λ i. itself a.path i && ((places_exact a.places a.places).1 refl i && same_row a.row a.row)) ∙ (row_exact a.row a.row).1 refl)
