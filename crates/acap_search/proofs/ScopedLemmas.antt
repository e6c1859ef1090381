-- A dataset that lies as it should is one of those that are walked through.
use Rattle.std.proofs.Common.{◌≡◌, ◌≢◌, ℕ, ◌<◌, ◌⊎◌, inl, inr, true, false, ◌&&◌, ◌||◌, ◌==◌, nat_eq, nat_lt, Some, None, List, [], ◌∷◌, ◌++◌, length, drop, refl, sym, ◌∙◌, ap, subst}
use Rattle.std.proofs.Math.Seq.{drop-append_seam}
use Rattle.std.proofs.lemmas.Bool.{and_from, eqb-true, lt-ltb, ltb-true, or_left, or_right}
use Rattle.std.specs.Cmp.{first_so, second_so}
use Rattle.std.specs.Cmp.Lexicographic.{bytes_decides}
use Rattle.std.specs.List.{starts_with}
use Rattle.std.specs.Option.{option_and_then, option_map_or}
use Rattle.acap_entries.proofs.FormLemmas.{closed_ends, own_well_formed}
use Rattle.acap_entries.specs.Datasets.{makes_dataset, dataset_exists}
use Rattle.acap_entries.specs.Names.{slash, ends_with, is_closed_dataset, is_component, own_entry}
use Rattle.acap_entries.specs.Orders.{octets_eq}
use Rattle.acap_entries.specs.Store.{Stored}
use Rattle.acap_ordmap.proofs.Logic.{true_without}
use Rattle.acap_inherit.specs.Records.{record_at}
use Rattle.acap_search.specs.Once.{IsBeneath}
use Rattle.acap_search.specs.Scoped.{SaysWhether, lies_within, is_looked_in}
use Rattle.acap_search.specs.Scopes.{Scope, levels}
use Rattle.acap_search.proofs.OnceLemmas.{same_number, starts_split, only_beneath, all_beneath}

no_component : (name : List ℕ) → is_component name ≡ true → name ≢ []
unfolding is_component
no_component name h e = let none : false ≡ true = ap is_component (sym e) ∙ h in cc (none)

starts_whole : (xs ys : List ℕ) → starts_with nat_eq (xs ++ ys) xs ≡ true
starts_whole [] ys = refl
starts_whole (x ∷ xs) ys = and_from _ _ (same_number x x refl) (starts_whole xs ys)

-- nothing ends in a slash and begins `/` but that itself
root_within : (s rest : List ℕ) → ends_with slash s ≡ true → s ++ rest ≡ slash ∷ [] → s ≡ slash ∷ []
root_within [] rest h e = absurd (cc (h))
root_within (x ∷ []) rest h e = let same : x ≡ slash = cc (e) in ap (λ v. v ∷ []) same
root_within (x ∷ y ∷ s) rest h e = absurd (cc (e))

within_by : (depth level : ℕ) → (depth == 0 || nat_lt level depth) ≡ true → (depth ≡ 0) ⊎ (level < depth)
within_by depth level =
    elim (depth == 0) as (λ b. (depth == 0) ≡ b → (b || nat_lt level depth) ≡ true → (depth ≡ 0) ⊎ (level < depth)) [
      | true ↦ λ e h. inl (eqb-true depth 0 e)
      | false ↦ λ e h. inr (ltb-true level depth h)
    ] refl

by_within : (depth level : ℕ) → (depth ≡ 0) ⊎ (level < depth) → (depth == 0 || nat_lt level depth) ≡ true
by_within depth level (inl e) = ap (λ d. (d == 0) || nat_lt level d) e
by_within depth level (inr less) = or_right (depth == 0) (nat_lt level depth) (lt-ltb level depth less)

module _ (records : Stored) (scope : Scope) (d : List ℕ) (searched : is_closed_dataset scope.dataset ≡ true) (formed : is_closed_dataset d ≡ true) where
  other_than : octets_eq d scope.dataset ≡ false → (depth : ℕ) → scope.depth ≡ Some depth → (lies_within scope.dataset depth d && dataset_exists records d) ≡ true → IsBeneath records scope d
  other_than differs depth deep h =
      let lies : lies_within scope.dataset depth d ≡ true = first_so _ _ h in
      let begins : starts_with nat_eq d scope.dataset ≡ true = first_so _ _ lies in
      elim (own_entry d) as (λ o. own_entry d ≡ o → (octets_eq d (slash ∷ []) || option_map_or makes_dataset (option_and_then (λ own. record_at records own.0 own.1) o) false) ≡ true → IsBeneath records scope d) [
        | Some own ↦ λ e k. record {
          depth = depth;
          rest = drop (length scope.dataset) d;
          own = record { dataset = own.0; name = own.1 };
          whole = starts_split d scope.dataset begins;
          deep = deep;
          within = within_by depth _ (second_so _ _ lies);
          entry = e;
          named = no_component own.1 (own_well_formed d (record { dataset = own.0; name = own.1 }) formed e).1;
          exists = second_so _ _ h;
        }
        | None ↦ λ e k.
            let root : d ≡ slash ∷ [] = (bytes_decides d (slash ∷ [])).0 (true_without _ k) in
            let same : scope.dataset ≡ slash ∷ [] = root_within scope.dataset _ (closed_ends scope.dataset searched) (starts_split d scope.dataset begins ∙ root) in
            let tied : octets_eq d scope.dataset ≡ true = (bytes_decides d scope.dataset).1 (root ∙ sym same) in
            absurd (cc (tied, differs))
      ] refl (second_so _ _ h)

  looked_in : is_looked_in records scope d ≡ true → (d ≡ scope.dataset) ⊎ IsBeneath records scope d
  looked_in =
      elim (octets_eq d scope.dataset) as (λ b. octets_eq d scope.dataset ≡ b → (b || option_map_or (λ depth. lies_within scope.dataset depth d && dataset_exists records d) scope.depth false) ≡ true → (d ≡ scope.dataset) ⊎ IsBeneath records scope d) [
        | true ↦ λ e h. inl ((bytes_decides d scope.dataset).0 e)
        | false ↦ λ e h.
            elim scope.depth as (λ depth. scope.depth ≡ depth → option_map_or (λ depth. lies_within scope.dataset depth d && dataset_exists records d) depth false ≡ true → (d ≡ scope.dataset) ⊎ IsBeneath records scope d) [
              | None ↦ λ n k. absurd (cc (k))
              | Some depth ↦ λ n k. inr (other_than e depth n k)
            ] refl h
      ] refl

  looked_at : (d ≡ scope.dataset) ⊎ IsBeneath records scope d → is_looked_in records scope d ≡ true
  looked_at (inl e) = or_left _ _ ((bytes_decides d scope.dataset).1 e)
  looked_at (inr b) =
      let begins : starts_with nat_eq d scope.dataset ≡ true = subst (λ x. starts_with nat_eq x scope.dataset ≡ true) b.whole (starts_whole scope.dataset b.rest) in
      let behind : drop (length scope.dataset) d ≡ b.rest = sym (ap (drop (length scope.dataset)) b.whole) ∙ drop-append_seam scope.dataset b.rest in
      let near : (b.depth == 0 || nat_lt (levels (drop (length scope.dataset) d)) b.depth) ≡ true = ap (λ x. b.depth == 0 || nat_lt (levels x) b.depth) behind ∙ by_within b.depth (levels b.rest) b.within in
      or_right _ _ (ap (λ depth. option_map_or (λ depth. lies_within scope.dataset depth d && dataset_exists records d) depth false) b.deep ∙ and_from _ _ (and_from _ _ begins near) b.exists)

  pub says_whether : SaysWhether records scope d (is_looked_in records scope d)
  says_whether all =
      let ends : ends_with slash scope.dataset ≡ true = closed_ends scope.dataset searched in
      (λ h. all_beneath records all scope ends d (looked_in h), λ k. looked_at (only_beneath records all scope ends d k))
