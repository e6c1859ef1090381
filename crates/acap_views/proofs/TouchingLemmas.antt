-- Which touched entries a search looks at.
use Rattle.std.proofs.Common.{◌≡◌, ℕ, Bool, true, false, cond, ◌&&◌, ◌||◌, Option, Some, None, List, [], ◌∷◌, ◌⊎◌, inl, inr, refl, sym, ◌∙◌, ap, subst, map as each}
use Rattle.std.specs.Cmp.{both_ways}
use Rattle.std.specs.Cmp.Lexicographic.{nat_list_eq_equiv}
use Rattle.std.specs.List.{filter, list_any, Contains}
use Rattle.std.specs.Option.{option_map_or}
use Rattle.std.proofs.lemmas.Map.Views.{Contains-from_any, list_any-from_Contains}
use Rattle.acap_entries.proofs.StoreLaws.{value_after}
use Rattle.acap_entries.specs.Changes.{store_after}
use Rattle.acap_entries.specs.FullPaths.{AreWellFormed}
use Rattle.acap_entries.specs.Orders.{octets_cmp, octets_eq}
use Rattle.acap_entries.proofs.StoreLemmas.{octets_same}
use Rattle.acap_ordmap.specs.Ranks.{with_item}
use Rattle.std.specs.FinMap.Entries.{by_order}
use Rattle.std.specs.declared.cmp.Ordering.TheVariants.{Less, Equal, Greater}
use Rattle.std.proofs.Math.Bool.{or-false, and-false}
use Rattle.acap_notices.proofs.RowLemmas.{other_way}
use Rattle.acap_entries.specs.Store.{Store, Stored}
use Rattle.acap_entries.specs.declared.change.Change.{Change}
use Rattle.acap_entries.specs.declared.path.Path.{Path}
use Rattle.acap_ordmap.proofs.Logic.{Contains-here, Contains-there}
use Rattle.acap_inherit.specs.Leaving.{AreTouchedAt}
use Rattle.acap_inherit.specs.Reaching.{Reaching, SaysWhether, AreTouchedAmong, lies_in}
use Rattle.acap_inherit.specs.Touched.{ordered_among, touched_paths, datasets_touched}
use Rattle.acap_search.specs.Scoped.{SaysWhether as SaysLooked}
use Rattle.acap_search.specs.Scopes.{Scope, datasets_of, beneath}
use Rattle.acap_search.specs.declared.query.SearchSpec.{SearchSpec}
use Rattle.acap_search.proofs.SeenLemmas.{first_or, nowhere, either, at_first, in_map, same_name}
use Rattle.acap_views.specs.PlannedChanges.{Planned, store_ahead, reaching}
use Rattle.acap_views.specs.Touching.{touched_by, looks_at, looks_into, is_touched_in, looked_at_by, AreReached, ArePathsNoted}
use Rattle.acap_views.specs.declared.touched_cache.CachedPaths.{CachedPaths}
use Rattle.acap_views.specs.Work.{is_looked_at}

pub whether : (records : Stored) (scope : Scope) (dataset : List ℕ) (answer : Bool) → AreWellFormed records → SaysLooked records scope dataset answer
    → answer ≡ list_any (octets_eq dataset) (datasets_of records scope)
whether records scope dataset answer formed says =
    both_ways answer _
    (λ e. list_any-from_Contains nat_list_eq_equiv dataset (datasets_of records scope) ((says formed).0 e))
    (λ e. (says formed).1 (Contains-from_any same_name dataset (datasets_of records scope) e))

-- without DEPTH the one dataset is looked through
alone : (records : Stored) (sought : SearchSpec) → sought.depth ≡ None → (path : Path) → octets_eq sought.dataset path.dataset ≡ is_looked_at records sought path
alone records sought none path =
    other_way sought.dataset path.dataset
    ∙ (sym (or-false (octets_eq path.dataset sought.dataset))
    ∙ sym (ap (λ depth. list_any (octets_eq path.dataset) (sought.dataset ∷ option_map_or (beneath records sought.dataset) depth [])) none))

pub in_one_dataset : (change : Change) (old : Store) (sought : SearchSpec) (paths : List Path) → AreTouchedAt change old sought.dataset paths → sought.depth ≡ None
    → paths ≡ filter (is_looked_at (store_after change old).records sought) (touched_paths change.writes old.records (store_after change old).records)
in_one_dataset change old sought paths at none =
    at (store_after change old) (value_after change old)
    ∙ (λ i. filter (λ path. alone (store_after change old).records sought none path i) (touched_paths change.writes old.records (store_after change old).records))

-- ---- a dataset in which nothing is touched

in_put : (x q : List ℕ) (ys : List (List ℕ)) → (x ≡ q) ⊎ Contains ys q → Contains (with_item octets_cmp x ys) q
unfolding with_item
in_put x q [] k = either k (λ e. at_first x q [] e) (λ l. nowhere q l)
in_put x q (y ∷ ys) k = elim (octets_cmp x y) as (λ o. octets_cmp x y ≡ o → Contains (by_order o (x ∷ y ∷ ys) (y ∷ ys) (y ∷ with_item octets_cmp x ys)) q) [
  | Less ↦ λ e. either k (λ s. at_first x q (y ∷ ys) s) (λ l. Contains-there x q (y ∷ ys) l)
  | Equal ↦ λ e. either k (λ s. at_first y q ys (sym (octets_same x y e) ∙ s)) (λ l. l)
  | Greater ↦ λ e. either k
      (λ s. Contains-there y q (with_item octets_cmp x ys) (in_put x q ys (inl s)))
      (λ l. either (first_or y q ys l) (λ s. at_first y q (with_item octets_cmp x ys) s) (λ m. Contains-there y q (with_item octets_cmp x ys) (in_put x q ys (inr m))))
] refl

in_ordered : (q : List ℕ) (xs : List (List ℕ)) → Contains xs q → Contains (ordered_among octets_cmp xs []) q
in_ordered q [] k = k
in_ordered q (x ∷ xs) k = in_put x q (ordered_among octets_cmp xs []) (either (first_or x q xs k) (λ s. inl s) (λ l. inr (in_ordered q xs l)))

-- the dataset of a touched path is one in which something is touched
touched_within : (change : Change) (old : Store) (path : Path) → Contains (touched_paths change.writes old.records (store_after change old).records) path
    → list_any (octets_eq path.dataset) (datasets_touched change.writes old.records (store_after change old).records) ≡ true
touched_within change old path k =
    let all = touched_paths change.writes old.records (store_after change old).records in
    list_any-from_Contains nat_list_eq_equiv path.dataset (datasets_touched change.writes old.records (store_after change old).records)
    (in_ordered path.dataset (each (λ p. p.dataset) all) (in_map (λ p. p.dataset) all path k))

none_kept : (p : Path → Bool) (xs : List Path) → ((x : Path) → Contains xs x → p x ≡ false) → filter p xs ≡ []
none_kept p [] h = refl
none_kept p (x ∷ xs) h = rw (h x (Contains-here x xs)) (none_kept p xs (λ y k. h y (Contains-there x y xs k)))

pub in_no_dataset : (plan : Planned) (sought : SearchSpec) → is_touched_in plan sought.dataset ≡ false → sought.depth ≡ None → [] ≡ looked_at_by plan sought
in_no_dataset plan sought lacks none =
    let new = store_ahead plan in
    sym (none_kept (is_looked_at new.records sought) _ (λ path k.
    sym (alone new.records sought none path)
    ∙ (elim (octets_eq sought.dataset path.dataset) as (λ b. octets_eq sought.dataset path.dataset ≡ b → b ≡ false) [
      | true ↦ λ e. absurd (cc (touched_within plan.change plan.old path k, lacks, ap (is_touched_in plan) (same_name sought.dataset path.dataset e)))
      | false ↦ λ e. refl
    ] refl)))

pub says_touched : (plan : Planned) (reach : Reaching) (dataset : List ℕ) (answer : Bool) → reach ≡ reaching plan → SaysWhether reach dataset answer → answer ≡ is_touched_in plan dataset
says_touched plan reach dataset answer same says =
    subst (λ r. SaysWhether r dataset answer) same says (store_ahead plan) (value_after plan.change plan.old)

-- ---- with DEPTH

picked : (f : List ℕ → Bool) (q : List ℕ) (xs : List (List ℕ)) → list_any (octets_eq q) (filter f xs) ≡ (list_any (octets_eq q) xs && f q)
picked f q [] = refl
picked f q (x ∷ xs) =
    let rest = filter f xs in
    let any = list_any (octets_eq q) in
    elim (octets_eq q x) as (λ t. octets_eq q x ≡ t → any (cond (f x) (x ∷ rest) rest) ≡ ((t || any xs) && f q)) [
      | true ↦ λ e.
          ap (λ y. any (cond (f y) (x ∷ rest) rest)) (sym (same_name q x e))
          ∙ elim (f q) as (λ b. f q ≡ b → any (cond b (x ∷ rest) rest) ≡ b) [
            | true ↦ λ _. ap (λ b. b || any rest) e
            | false ↦ λ n. picked f q xs ∙ (ap (λ b. any xs && b) n ∙ and-false (any xs))
          ] refl
      | false ↦ λ e. elim (f x) as (λ b. any (cond b (x ∷ rest) rest) ≡ (any xs && f q)) [
        | true ↦ ap (λ b. b || any rest) e ∙ picked f q xs
        | false ↦ picked f q xs
      ]
    ] refl

both_kept : (f g : Path → Bool) (xs : List Path) → filter (λ p. f p && g p) xs ≡ filter g (filter f xs)
both_kept f g [] = refl
both_kept f g (x ∷ xs) =
    elim (f x) as (λ b. cond (b && g x) (x ∷ filter (λ p. f p && g p) xs) (filter (λ p. f p && g p) xs) ≡ filter g (cond b (x ∷ filter f xs) (filter f xs))) [
      | true ↦ ap (λ rest. cond (g x) (x ∷ rest) rest) (both_kept f g xs)
      | false ↦ both_kept f g xs
    ]

-- what is touched in those of the datasets through which a search looks is what it looks at
pub in_all : (plan : Planned) (reach : Reaching) (sought : SearchSpec) (datasets looked : List (List ℕ)) (paths : List Path) → reach ≡ reaching plan → AreReached plan datasets
    → looked ≡ filter (looks_into plan sought) datasets → AreTouchedAmong reach looked paths → paths ≡ looked_at_by plan sought
in_all plan reach sought datasets looked paths same are e among =
    let new = store_ahead plan in
    let touched = touched_by plan in
    subst (λ r. AreTouchedAmong r looked paths) same among new (value_after plan.change plan.old)
    ∙ (ap (λ ds. filter (lies_in ds) touched) e
    ∙ ((λ i. filter (λ p. picked (looks_into plan sought) p.dataset datasets i) touched)
    ∙ (both_kept (lies_in datasets) (looks_at plan sought) touched
    ∙ ap (filter (looks_at plan sought)) (are new (value_after plan.change plan.old)))))

-- ---- a dataset of which they are kept

pub known_is : (plan : Planned) (sought : SearchSpec) (last : Option CachedPaths) (known : CachedPaths) → last ≡ Some known → ArePathsNoted plan last → known.dataset.now ≡ sought.dataset → sought.depth ≡ None
    → known.paths ≡ looked_at_by plan sought
known_is plan sought last known e is same none =
    in_one_dataset plan.change plan.old sought known.paths
    (subst (λ d. AreTouchedAt plan.change plan.old d known.paths) same (subst (λ n. ArePathsNoted plan n) e is)) none
