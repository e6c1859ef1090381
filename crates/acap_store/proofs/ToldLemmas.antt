-- Names that are told, put one by one into a list that ascends.
use Rattle.std.proofs.Common.{◌≡◌, ℕ, List, [], ◌∷◌, refl, sym, ap, ◌∙◌}
use Rattle.std.specs.Cmp.Lexicographic.{nat_list_cmp_total}
use Rattle.std.specs.FinMap as table
use Rattle.acap_ordmap.proofs.MapLemmas.{from_sorted_none}
use Rattle.acap_ordmap.proofs.RankLemmas.{items, put_items}
use Rattle.acap_entries.specs.Orders.{octets_cmp}
use Rattle.acap_ordmap.specs.Ranks.{with_item}
use Rattle.acap_ordmap.specs.Sorted.{put_in}
use Rattle.acap_store.specs.Deleting.{Names, with_names, ascending}

abbrev pub with_items : List (List ℕ) → List (List ℕ) → List (List ℕ)
with_items xs [] = xs
with_items xs (name ∷ names) = with_items (with_item octets_cmp name xs) names

set_items : (set : Names) (names : List (List ℕ)) → with_items (items (table.entries set)) names ≡ items (table.entries (with_names set names))
unfolding put_in
set_items set [] = refl
set_items set (name ∷ names) =
    ap (λ xs. with_items xs names) (sym (ap items (table.entries-insert nat_list_cmp_total set name tt) ∙ put_items octets_cmp name tt (table.entries set)))
    ∙ set_items (table.insert set name tt) names

abbrev no_names : Names
no_names = table.empty

none : items (table.entries no_names) ≡ []
none = ap (λ (m : Names). items (table.entries m)) (sym (from_sorted_none octets_cmp)) ∙ ap items (table.entries-from_sorted octets_cmp [] tt)

-- so put into none they are what they are as a set
pub put_names : (names : List (List ℕ)) → with_items [] names ≡ ascending names
unfolding ascending
put_names names = ap (λ xs. with_items xs names) (sym none) ∙ set_items no_names names
