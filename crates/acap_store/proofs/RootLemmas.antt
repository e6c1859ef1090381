-- Which ways up end at `/`.
use Rattle.std.proofs.Common.{◌≡◌, ℕ, zero, suc, ◌+◌, ◌<◌, ◌≤◌, true, false, cond, ◌&&◌, ◌||◌, List, [], ◌∷◌, ◌++◌, length, Some, None, ap, ◌∙◌, arith}
use Rattle.std.specs.Prelude.{take, drop, codes, ◌-◌, ◌==◌}
use Rattle.std.proofs.lemmas.Bool.{eqb-true, or_right, and_from}
use Rattle.std.specs.Option.{option_map_or}
use Rattle.acap_entries.specs.Homes.{for_user, is_home, second_at}
use Rattle.acap_entries.specs.Names.{slash, has, begins_with, ends_with, own_entry, dataset_of, name_of}
use Rattle.acap_entries.specs.Orders.{octets_eq}
use Rattle.acap_entries.proofs.NameLemmas.{for_user_closed}
use Rattle.acap_entries.proofs.OwnLaws.{cut_closed, cut_begins, dataset_cut}
use Rattle.acap_store.specs.DatasetLaws.{RootLaw, reaches_within, is_absolute}
use Rattle.acap_store.proofs.DatasetLemmas.{octets_refl}
use Rattle.acap_store.proofs.WriteLemmas.{parent_shorter}

-- ---- a dataset that begins and ends with a slash has a parent that does, or is `/`

parent : (x y : ℕ) (rest : List ℕ) → (x == slash) ≡ true → ends_with slash (x ∷ y ∷ rest) ≡ true →
    own_entry (x ∷ y ∷ rest) ≡ Some (dataset_of (x ∷ take (length rest) (y ∷ rest)), name_of (x ∷ take (length rest) (y ∷ rest)))
parent x y rest e closed =
    let path = x ∷ take (length rest) (y ∷ rest) in
    let whole : take (length (x ∷ y ∷ rest) - 1) (x ∷ y ∷ rest) ≡ path = (let less : suc (suc (length rest)) - 1 ≡ suc (length rest) = omega arith in ap (λ n. take n (x ∷ y ∷ rest)) less) in
    let some : has slash path ≡ true = ap (λ b. b || has slash (take (length rest) (y ∷ rest))) e in
    let ends : ends_with slash (dataset_of path) ≡ true = ap (ends_with slash) (dataset_cut path) ∙ cut_closed path some in
    ap (λ t. cond (ends_with slash (x ∷ y ∷ rest) && ends_with slash (dataset_of t)) (Some (dataset_of t, name_of t)) None) whole
    ∙ ap (λ b. cond b (Some (dataset_of path, name_of path)) None) (and_from _ _ closed ends)

root_within : (n : ℕ) (d : List ℕ) → length d ≤ n → begins_with slash d ≡ true → ends_with slash d ≡ true → reaches_within n d ≡ true
root_within zero [] p b e = cc
root_within zero (x ∷ d) p b e = absurd (omega (arith, p))
root_within (suc n) [] p b e = cc
root_within (suc n) (x ∷ []) p b e = ap (λ t. t || option_map_or (λ own. reaches_within n own.0) (own_entry (x ∷ [])) false) (octets_refl (x ∷ []) (slash ∷ []) (ap (λ t. t ∷ []) (eqb-true x slash b)))
root_within (suc n) (x ∷ y ∷ rest) p b e =
    let path = x ∷ take (length rest) (y ∷ rest) in
    let own = parent x y rest b e in
    let shorter : length (dataset_of path) < suc (suc (length rest)) = parent_shorter (x ∷ y ∷ rest) (dataset_of path, name_of path) own in
    let some : has slash path ≡ true = ap (λ t. t || has slash (take (length rest) (y ∷ rest))) b in
    let ends : ends_with slash (dataset_of path) ≡ true = ap (ends_with slash) (dataset_cut path) ∙ cut_closed path some in
    let begins : begins_with slash (dataset_of path) ≡ true = ap (begins_with slash) (dataset_cut path) ∙ cut_begins x (take (length rest) (y ∷ rest)) b in
    or_right (octets_eq (x ∷ y ∷ rest) (slash ∷ [])) _ (ap (λ o. option_map_or (λ own. reaches_within n own.0) o false) own ∙ root_within n (dataset_of path) (omega (arith, p, shorter)) begins ends)

rooted : (d : List ℕ) → begins_with slash d ≡ true → ends_with slash d ≡ true → is_absolute d ≡ true
rooted d b e = root_within (length d) d (omega arith) b e

-- what a user means begins as what is sent
pub meant_begins : (user d : List ℕ) → begins_with slash d ≡ true → begins_with slash (for_user user d) ≡ true
unfolding for_user
meant_begins user [] b = cc
meant_begins user (x ∷ d) b = elim (is_home (x ∷ d)) as (λ h. begins_with slash (cond h (take (second_at (x ∷ d)) (x ∷ d) ++ codes "user/" ++ user ++ drop (second_at (x ∷ d) + 1) (x ∷ d)) (x ∷ d)) ≡ true) [
  | true ↦
      let some : second_at (x ∷ d) ≡ suc (second_at (x ∷ d) - 1) = omega arith in
      ap (λ n. begins_with slash (take n (x ∷ d) ++ codes "user/" ++ user ++ drop (second_at (x ∷ d) + 1) (x ∷ d))) some ∙ b
  | false ↦ b
]

pub root_law : RootLaw
root_law = record {
  closed = rooted;
  meant = λ user d b e. rooted (for_user user d) (meant_begins user d b) (for_user_closed user d e);
}
