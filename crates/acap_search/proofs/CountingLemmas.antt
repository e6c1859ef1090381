-- What is counted dataset by dataset are the paths of the scope.
use Rattle.std.proofs.Common.{◌≡◌, ℕ, ◌+◌, Option, Some, None, List, [], ◌∷◌, arith, flat_map, length, length-append, nat_eq, refl, sym, ◌∙◌, ap}
use Rattle.std.proofs.lemmas.List.{length-map}
use Rattle.std.proofs.lemmas.List.Sums.{sum_by-cons}
use Rattle.std.specs.FinMap as map
use Rattle.std.specs.List.{cons_option, filter, filter_map, starts_with, sum_by}
use Rattle.std.specs.Option.{option_map_or}
use Rattle.acap_entries.specs.declared.path.Path.{Path}
use Rattle.acap_entries.specs.declared.record.Record.{Record}
use Rattle.acap_inherit.specs.Chains.{chain_of}
use Rattle.acap_inherit.specs.EntryNames.{names_on}
use Rattle.acap_search.specs.Fresh.{paths_in}
use Rattle.acap_search.specs.Scopes.{scope_of, beneath, datasets_of, reached_by}
use Rattle.acap_search.specs.Walks.{Walk, count_in, count_by, count_beneath, count_over, paths_by}

-- those of which nothing is made count for nothing
sum_of_made : {X Y : Type 0} (f : Y → ℕ) (g : X → Option Y) (xs : List X) → sum_by (λ x. option_map_or f (g x) 0) xs ≡ sum_by f (filter_map g xs)
sum_of_made f g [] = refl
sum_of_made f g (x ∷ xs) =
    sum_by-cons (λ x. option_map_or f (g x) 0) x xs
    ∙ elim (g x) as (λ o. option_map_or f o 0 + sum_by (λ x. option_map_or f (g x) 0) xs ≡ sum_by f (cons_option o (filter_map g xs))) [
      | Some y ↦ ap (λ rest. f y + rest) (sum_of_made f g xs) ∙ sym (sum_by-cons f y (filter_map g xs))
      | None ↦ omega (arith, sum_of_made f g xs)
    ]

module _ (quest : Walk) where
  -- the datasets beneath, entry by entry
  pub count_beneath_is : (depth : ℕ) (es : List (Path × Record)) → es ≡ filter (λ e. starts_with nat_eq e.0.dataset quest.sought.dataset) (map.entries quest.records)
      → sum_by (count_by quest depth) es ≡ count_beneath quest depth
  unfolding count_by beneath
  count_beneath_is depth es e =
      sum_of_made (count_in quest) (reached_by quest.sought.dataset depth) es
      ∙ ap (λ es. sum_by (count_in quest) (filter_map (reached_by quest.sought.dataset depth) es)) e

  -- one dataset, name by name
  paths_in_are : (dataset : List ℕ) → count_in quest dataset ≡ length (paths_in quest.records quest.sought.no_inherit dataset)
  unfolding count_in
  paths_in_are dataset =
      sym (length-map (names_on quest.records (chain_of quest.records dataset quest.sought.no_inherit)) (λ name. record { dataset = dataset; name = name }))

  paths_are : (datasets : List (List ℕ)) → sum_by (count_in quest) datasets ≡ length (flat_map (paths_in quest.records quest.sought.no_inherit) datasets)
  paths_are [] = refl
  paths_are (dataset ∷ datasets) =
      sum_by-cons (count_in quest) dataset datasets
      ∙ (λ i. paths_in_are dataset i + paths_are datasets i)
      ∙ sym (length-append (paths_in quest.records quest.sought.no_inherit dataset) (flat_map (paths_in quest.records quest.sought.no_inherit) datasets))

  on_scope : (depth : Option ℕ) → count_in quest quest.sought.dataset + option_map_or (count_beneath quest) depth 0
      ≡ sum_by (count_in quest) (quest.sought.dataset ∷ option_map_or (beneath quest.records quest.sought.dataset) depth [])
  on_scope None = sym (sum_by-cons (count_in quest) quest.sought.dataset [])
  on_scope (Some depth) = sym (sum_by-cons (count_in quest) quest.sought.dataset (beneath quest.records quest.sought.dataset depth))

  pub count_over_is : count_over quest ≡ paths_by quest
  unfolding count_over
  count_over_is = on_scope quest.sought.depth ∙ paths_are (datasets_of quest.records (scope_of quest.sought))
