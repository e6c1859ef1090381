-- What is found dataset by dataset is, in order, what is made of the paths in sight.
use Rattle.std.proofs.Common.{drop, arith, ◌≡◌, ℕ, Bool, true, false, cond, nat_eq, Option, Some, None, List, [], ◌∷◌, ◌++◌, refl, sym, ◌∙◌, ap, flat_map, length, map as each}
use Rattle.std.proofs.lemmas.Bool.Decides.{nat_tests}
use Rattle.std.specs.List.{filter, filter_map, cons_option, starts_with}
use Rattle.std.specs.List.Sorted.{ties}
use Rattle.std.specs.Option.{option_map_or, unwrap_or}
use Rattle.std.specs.Ordering.{is_lt, ordering_then}
use Rattle.acap_entries.specs.FullPaths.{full_path_cmp}
use Rattle.acap_commands.specs.declared.search_modifiers.SortItem.{SortItem}
use Rattle.std.specs.FinMap as map
use Rattle.std.proofs.lemmas.List.Elements.{filter_map-append}
use Rattle.acap_entries.specs.Store.{Stored}
use Rattle.acap_entries.specs.declared.path.Path.{Path}
use Rattle.acap_entries.specs.declared.record.Record.{Record}
use Rattle.acap_inherit.specs.Chains.{chain_of}
use Rattle.acap_inherit.specs.EntryNames.{names_on}
use Rattle.acap_rights.specs.declared.realm.Realm.{Realm}
use Rattle.acap_search.specs.Fresh.{Sight, answers_on, paths_in, paths_of, full_path_lt, sight_of, fresh_of}
use Rattle.acap_search.specs.Matches.{Match, match_lt, sorted_by, ordered_by}
use Rattle.acap_search.specs.Places.{places_cmp, places_in}
use Rattle.acap_search.specs.Scopes.{scope_of, datasets_of, beneath, is_reached, levels, made_by, reached_by}
use Rattle.acap_search.specs.Sight.{is_seen}
use Rattle.acap_search.specs.Walks.{Walk, quest_of, hits_in, hits_by, hits_over}
use Rattle.acap_search.specs.declared.query.SearchSpec.{SearchSpec}
use Rattle.acap_search.proofs.OrderLemmas.{match_weak, path_weak, paths_tie}
use Rattle.acap_search.proofs.SortLemmas.{Above, Rises, rising_stays, sorted_by_rises, sorted_alike, ties_kept}
use Rattle.acap_search.proofs.TupleLemmas.{tuple_at, tuples_are}

-- ---- lists

-- a part that is kept, and what is made of it
filtered : {X Y : Type 0} (f : X → Option Y) (p : X → Bool) (xs : List X) → filter_map f (filter p xs) ≡ filter_map (λ x. cond (p x) (f x) None) xs
filtered f p [] = refl
filtered f p (x ∷ xs) =
    elim (p x) as (λ b. filter_map f (cond b (x ∷ filter p xs) (filter p xs)) ≡ cons_option (cond b (f x) None) (filter_map (λ x. cond (p x) (f x) None) xs))
    [ true ↦ ap (cons_option (f x)) (filtered f p xs) | false ↦ filtered f p xs ]

made_of_made : {X Y Z : Type 0} (f : Y → Option Z) (g : X → Y) (xs : List X) → filter_map f (each g xs) ≡ filter_map (λ x. f (g x)) xs
made_of_made f g [] = refl
made_of_made f g (x ∷ xs) = ap (cons_option (f (g x))) (made_of_made f g xs)

made_of_all : {X Y Z : Type 0} (f : Y → Option Z) (g : X → List Y) (xs : List X) → filter_map f (flat_map g xs) ≡ flat_map (λ x. filter_map f (g x)) xs
made_of_all f g [] = refl
made_of_all f g (x ∷ xs) = filter_map-append f (g x) (flat_map g xs) ∙ ap (λ rest. filter_map f (g x) ++ rest) (made_of_all f g xs)

all_of_made : {X Y Z : Type 0} (f : Y → List Z) (g : X → Option Y) (xs : List X) → flat_map (λ x. option_map_or f (g x) []) xs ≡ flat_map f (filter_map g xs)
all_of_made f g [] = refl
all_of_made f g (x ∷ xs) =
    elim (g x) as (λ o. option_map_or f o [] ++ flat_map (λ x. option_map_or f (g x) []) xs ≡ flat_map f (cons_option o (filter_map g xs)))
    [ Some y ↦ ap (λ rest. f y ++ rest) (all_of_made f g xs) | None ↦ all_of_made f g xs ]

-- ---- sorting before and after

-- what is left of a match that passes a test
abbrev if_passes : {Y : Type 0} → (Y → Bool) → Option Y → Option Y
if_passes q None = None
if_passes q (Some y) = cond (q y) (Some y) None

passed_of_made : {X Y : Type 0} (t : X → Option Y) (q : Y → Bool) (xs : List X) → filter q (filter_map t xs) ≡ filter_map (λ x. if_passes q (t x)) xs
passed_of_made t q [] = refl
passed_of_made t q (x ∷ xs) =
    elim (t x) as (λ o. filter q (cons_option o (filter_map t xs)) ≡ cons_option (if_passes q o) (filter_map (λ x. if_passes q (t x)) xs)) [
      | None ↦ passed_of_made t q xs
      | Some y ↦ elim (q y) as (λ b. cond b (y ∷ filter q (filter_map t xs)) (filter q (filter_map t xs)) ≡ cons_option (cond b (Some y) None) (filter_map (λ x. if_passes q (t x)) xs))
          [ true ↦ ap (λ rest. y ∷ rest) (passed_of_made t q xs) | false ↦ passed_of_made t q xs ]
    ]

-- those of which nothing is made may be left out
made_of_some : {X Y : Type 0} (u : X → Option Y) (r : X → Bool) (xs : List X) → ((x : X) → r x ≡ false → u x ≡ None) → filter_map u xs ≡ filter_map u (filter r xs)
made_of_some u r [] h = refl
made_of_some u r (x ∷ xs) h =
    elim (r x) as (λ b. r x ≡ b → cons_option (u x) (filter_map u xs) ≡ filter_map u (cond b (x ∷ filter r xs) (filter r xs))) [
      | true ↦ λ e. ap (cons_option (u x)) (made_of_some u r xs h)
      | false ↦ λ e. ap (λ o. cons_option o (filter_map u xs)) (h x e) ∙ made_of_some u r xs h
    ] refl

-- a match of a path has that path
abbrev OwnPath : Path → Option Match → Type 0
OwnPath p None = Unit {0}
OwnPath p (Some m) = m.path ≡ p

abbrev OwnPaths : (Path → Option Match) → Type 0
OwnPaths t = (p : Path) → OwnPath p (t p)

none_apart : (z : Match) (p : Path) (o : Option Match) → OwnPath p o → ties full_path_lt z.path p ≡ false → if_passes (ties match_lt z) o ≡ None
none_apart z p None own h = refl
none_apart z p (Some m) own h =
    elim (ties match_lt z m) as (λ b. ties match_lt z m ≡ b → cond b (Some m) None ≡ None) [
      | true ↦ λ e. absurd (cc (h, ap (ties full_path_lt z.path) own, paths_tie z m e))
      | false ↦ λ e. refl
    ] refl

ties_of_sorted : (t : Path → Option Match) → OwnPaths t → (z : Match) (ps : List Path) → filter (ties match_lt z) (filter_map t (sorted_by full_path_lt ps)) ≡ filter (ties match_lt z) (filter_map t ps)
ties_of_sorted t own z ps =
    let u : Path → Option Match = λ p. if_passes (ties match_lt z) (t p) in
    let r : Path → Bool = ties full_path_lt z.path in
    let apart : (p : Path) → r p ≡ false → u p ≡ None = λ p h. none_apart z p (t p) (own p) h in
    passed_of_made t (ties match_lt z) (sorted_by full_path_lt ps)
    ∙ (made_of_some u r (sorted_by full_path_lt ps) apart
    ∙ (ap (filter_map u) (ties_kept full_path_lt path_weak z.path ps)
    ∙ (sym (made_of_some u r ps apart)
    ∙ sym (passed_of_made t (ties match_lt z) ps))))

-- matches are sorted alike in whatever order their paths come
pub sorted_first : (t : Path → Option Match) → OwnPaths t → (ps : List Path) → sorted_by match_lt (filter_map t (sorted_by full_path_lt ps)) ≡ sorted_by match_lt (filter_map t ps)
sorted_first t own ps = sorted_alike match_lt match_weak _ _ (λ z. ties_of_sorted t own z ps)

-- ---- without places

-- a match of a path, without places
abbrev IsPlaceless : Path → Option Match → Type 0
IsPlaceless p None = Unit {0}
IsPlaceless p (Some m) = (m.path ≡ p) × (m.places ≡ [])

module _ (t : Path → Option Match) (own : (p : Path) → IsPlaceless p (t p)) where
  placeless_above : (p : Path) (m : Match) → (m.path ≡ p) × (m.places ≡ []) → (ps : List Path) → Above full_path_lt path_weak p ps → Above match_lt match_weak m (filter_map t ps)
  placeless_above p m e [] h = tt
  placeless_above p m e (q ∷ qs) h =
      elim (t q) as (λ o. IsPlaceless q o → Above match_lt match_weak m (cons_option o (filter_map t qs))) [
        | Some n ↦ λ f. ((λ i. is_lt (ordering_then (places_cmp (f.1 i) (e.1 i)) (full_path_cmp (f.0 i) (e.0 i)))) ∙ h.0, placeless_above p m e qs h.1)
        | None ↦ λ f. placeless_above p m e qs h.1
      ] (own q)

  placeless_rise : (ps : List Path) → Rises full_path_lt path_weak ps → Rises match_lt match_weak (filter_map t ps)
  placeless_rise [] h = tt
  placeless_rise (p ∷ ps) h =
      elim (t p) as (λ o. IsPlaceless p o → Rises match_lt match_weak (cons_option o (filter_map t ps))) [
        | Some m ↦ λ e. (placeless_above p m e ps h.0, placeless_rise ps h.1)
        | None ↦ λ e. placeless_rise ps h.1
      ] (own p)

-- ---- the walk

module _ (records : Stored) (realm : Realm) (user : List ℕ) (sought : SearchSpec) where
  abbrev quest : Walk
  quest = quest_of records realm user sought

  abbrev sight : Sight
  sight = sight_of records realm user (scope_of sought)

  -- what is made of the entry at a path, if it is seen
  abbrev seen_at : Path → Option Match
  seen_at path = cond (is_seen (answers_on records realm user sought.no_inherit path)) (tuple_at sight sought path) None

  in_dataset : (dataset : List ℕ) → filter_map seen_at (paths_in records sought.no_inherit dataset) ≡ hits_in quest dataset
  unfolding hits_in
  in_dataset dataset = made_of_made seen_at (λ name. record { dataset = dataset; name = name }) (names_on records (chain_of records dataset sought.no_inherit))

  in_datasets : (datasets : List (List ℕ)) → flat_map (λ dataset. filter_map seen_at (paths_in records sought.no_inherit dataset)) datasets ≡ flat_map (hits_in quest) datasets
  in_datasets [] = refl
  in_datasets (dataset ∷ datasets) =
      let first : filter_map seen_at (paths_in records sought.no_inherit dataset) ≡ hits_in quest dataset = in_dataset dataset in
      let rest : flat_map (λ dataset. filter_map seen_at (paths_in records sought.no_inherit dataset)) datasets ≡ flat_map (hits_in quest) datasets = in_datasets datasets in
      λ i. first i ++ rest i

  over_scope : filter_map seen_at (paths_of records (scope_of sought)) ≡ hits_over quest
  over_scope = made_of_all seen_at (paths_in records sought.no_inherit) (datasets_of records (scope_of sought)) ∙ in_datasets (datasets_of records (scope_of sought))

  own_if : (b : Bool) (path : Path) (m : Match) → m.path ≡ path → OwnPath path (cond b (Some m) None)
  own_if true path m e = e
  own_if false path m e = tt

  own_paths : OwnPaths (tuple_at sight sought)
  own_paths path = own_if _ path _ refl

  placed_if : (b : Bool) (path : Path) (m : Match) → m.path ≡ path → m.places ≡ [] → IsPlaceless path (cond b (Some m) None)
  placed_if true path m e h = (e, h)
  placed_if false path m e h = tt

  -- the seen paths in the scope, in the order of the walk
  abbrev seen : List Path
  seen = filter (λ path. is_seen (answers_on records realm user sought.no_inherit path)) (paths_of records (scope_of sought))

  -- without SORT what is found stays in the order of the paths
  ordered : (sort : Option (List SortItem)) → sought.sort ≡ sort → sorted_by match_lt (filter_map (tuple_at sight sought) sight.paths) ≡ ordered_by sort (filter_map (tuple_at sight sought) sight.paths)
  ordered (Some sort) e = refl
  ordered None e =
      rising_stays match_lt match_weak _
      (placeless_rise (tuple_at sight sought) (λ path. placed_if _ path _ refl (ap (λ sort. places_in (sight.answers path).read (unwrap_or sort [])) e)) sight.paths (sorted_by_rises full_path_lt path_weak seen))

  pub fresh_is : sorted_by match_lt (hits_over quest) ≡ fresh_of sight sought
  fresh_is =
      ap (sorted_by match_lt) (sym over_scope ∙ sym (filtered (tuple_at sight sought) (λ path. is_seen (answers_on records realm user sought.no_inherit path)) (paths_of records (scope_of sought))))
      ∙ (sym (sorted_first (tuple_at sight sought) own_paths seen)
      ∙ (ordered sought.sort refl ∙ ap (ordered_by sought.sort) (sym (tuples_are sight sought))))

  -- the datasets beneath, entry by entry
  pub beneath_is : (depth : ℕ) (es : List (Path × Record)) → es ≡ filter (λ e. starts_with nat_eq e.0.dataset sought.dataset) (map.entries records) → flat_map (hits_by quest depth) es ≡ flat_map (hits_in quest) (beneath records sought.dataset depth)
  unfolding hits_by beneath
  beneath_is depth es e =
      all_of_made (hits_in quest) (reached_by sought.dataset depth) es
      ∙ ap (λ es. flat_map (hits_in quest) (filter_map (reached_by sought.dataset depth) es)) e

-- with one level nothing beneath is reached
not_reached : (level : ℕ) → is_reached 1 level ≡ false
not_reached level = grind (arith, nat_tests)

none_reached : (dataset : List ℕ) (es : List (Path × Record)) → filter_map (reached_by dataset 1) es ≡ []
none_reached dataset [] = refl
none_reached dataset (e ∷ es) =
    ap (λ b. cons_option (cond b (made_by e) None) (filter_map (reached_by dataset 1) es)) (not_reached (levels (drop (length dataset) e.0.dataset)))
    ∙ none_reached dataset es

pub none_beneath : (records : Stored) (dataset : List ℕ) (depth : ℕ) → depth ≡ 1 → beneath records dataset depth ≡ []
unfolding beneath
none_beneath records dataset depth e =
    ap (λ d. filter_map (reached_by dataset d) (filter (λ e. starts_with nat_eq e.0.dataset dataset) (map.entries records))) e
    ∙ none_reached dataset (filter (λ e. starts_with nat_eq e.0.dataset dataset) (map.entries records))
