-- What may neither be read nor tested is in no sight.
use Rattle.std.proofs.Common.{◌≡◌, ℕ, ℤ, Bool, true, false, not, cond, ◌&&◌, ◌||◌, nat_eq, Option, Some, None, is_some, List, [], ◌∷◌, ◌++◌, length, drop, codes, flat_map, refl, sym, ◌∙◌, ap, map as each}
use Rattle.std.proofs.lemmas.Bool.{or_parts}
use Rattle.std.specs.Cmp.{tied_itself}
use Rattle.std.specs.Cmp.Lexicographic.{bytes_decides}
use Rattle.std.specs.FinMap as map
use Rattle.std.specs.FinMap.Entries.{put, by_order}
use Rattle.std.specs.List.{filter, filter_map, cons_option, starts_with}
use Rattle.std.specs.Option.{option_and_then, option_map_or, option_or, unwrap_or}
use Rattle.std.specs.Ordering.{eq_by_cmp, is_eq}
use Rattle.std.specs.declared.cmp.Ordering.TheVariants.{Less, Equal, Greater}
use Rattle.acap_entries.specs.Datasets.{makes_dataset, dataset_exists}
use Rattle.acap_entries.specs.FullPaths.{full_path}
use Rattle.acap_entries.specs.Names.{own_entry, slash}
use Rattle.acap_entries.specs.Orders.{octets_eq}
use Rattle.acap_entries.specs.Store.{Stored, path_cmp}
use Rattle.acap_entries.proofs.StoreLemmas.{path_cmp_total, path_same}
use Rattle.acap_entries.specs.declared.record.Cell.{Cell}
use Rattle.acap_entries.specs.declared.record.Cell.TheVariants.{Nil, Single, Multi}
use Rattle.acap_entries.specs.declared.path.Path.{Path}
use Rattle.acap_entries.specs.declared.record.Record.{Record}
use Rattle.acap_ordmap.proofs.Logic.{Equal_from_is_eq}
use Rattle.acap_inherit.specs.Chains.{chain_of}
use Rattle.acap_inherit.specs.EntryNames.{names_on}
use Rattle.acap_inherit.specs.Laws.{ReadingLaw}
use Rattle.acap_inherit.specs.Records.{record_at, cell_in, ends_inheritance}
use Rattle.acap_inherit.specs.Resolving.{Resolution, lying, by_cell, by_record, by_presence, value_on, entry_on, modtime_on, records_along, until_end, greatest, stamp_value, members_for, members_of, lookup}
use Rattle.acap_rights.specs.Deciding.{kept_list, attribute_list_name, dataset_list_name, list_in, deciding_list, implicit_rights, rights_of}
use Rattle.acap_rights.specs.Homes.{default_list}
use Rattle.acap_rights.specs.Pairs.{rights_in}
use Rattle.acap_rights.specs.Rights.{union}
use Rattle.acap_rights.specs.declared.realm.Realm.{Realm}
use Rattle.acap_rights.specs.declared.rights.Rights.{Rights}
use Rattle.acap_search.specs.Fresh.{IsSameSight, same_path, answers_on, paths_of, full_path_lt, sight_of, has_range, is_over}
use Rattle.acap_search.specs.Laws.{SightLaw}
use Rattle.acap_search.specs.Matches.{sorted_by}
use Rattle.acap_search.specs.Scopes.{Scope, scope_of, datasets_of, beneath, is_reached, levels, is_component_name, reached_by}
use Rattle.acap_search.specs.Sight.{answers_at, cell_at, is_held, is_nil, is_readable, is_seen, may_read, may_test, own_acl, rights_on}
use Rattle.acap_search.specs.Withheld.{IsOneCellApart, WithheldLaw}
use Rattle.acap_search.specs.declared.refusal.SearchRefusal.TheVariants as refusal
use Rattle.acap_search.proofs.TupleLemmas.{same_paths, itself}

-- ---- tests and cells

hidden : (b c : Bool) (x y : Cell) → c ≡ false → cond (b && c) x Nil ≡ cond (b && c) y Nil
hidden true c x y e = ap (λ c. cond c x Nil) e ∙ ap (λ c. cond c y Nil) (sym e)
hidden false c x y e = refl

lies : (cell : Cell) (dataset : List ℕ) → is_nil cell ≡ false → lying cell dataset ≡ Some (cell, dataset)
lies Nil dataset e = absurd (cc (e))
lies (Single value) dataset e = refl
lies (Multi values) dataset e = refl

cell_alike : (c : Option Cell) (a b : Record) (dataset : List ℕ) (beyond : Resolution) → a.blocks_inheritance ≡ b.blocks_inheritance → by_cell c a dataset beyond ≡ by_cell c b dataset beyond
cell_alike None a b dataset beyond e = ap (λ t. cond t None beyond) e
cell_alike (Some cell) a b dataset beyond e = refl

-- the moments of records down to the end of inheritance
abbrev moments : List Record → List ℤ
moments entries = each (λ entry. entry.modtime) (until_end entries)

moments_behind : (o : Option Record) (xs ys : List Record) → moments xs ≡ moments ys → moments (cons_option o xs) ≡ moments (cons_option o ys)
moments_behind None xs ys e = e
moments_behind (Some entry) xs ys e =
    elim (ends_inheritance entry) as (λ b. entry.modtime ∷ each (λ entry. entry.modtime) (cond b [] (until_end xs)) ≡ entry.modtime ∷ each (λ entry. entry.modtime) (cond b [] (until_end ys)))
    [ true ↦ refl | false ↦ ap (λ rest. entry.modtime ∷ rest) e ]

module _ (old new : Stored) (path : Path) (attribute : List ℕ) (apart : IsOneCellApart old new path attribute) where
  abbrev before : Record
  before = apart.before

  abbrev after : Record
  after = apart.after

  -- ---- records

  -- what is the same of both records is the same at each path
  at_any : {X : Type 0} (F : Option Record → X) (p : Path) → (p ≡ path → F (Some before) ≡ F (Some after)) → F (map.get old p) ≡ F (map.get new p)
  at_any F p h =
      elim (same_path p path) as (λ b. same_path p path ≡ b → F (map.get old p) ≡ F (map.get new p)) [
        | true ↦ λ e.
            let same : p ≡ path = same_paths p path e in
            ap (λ q. F (map.get old q)) same ∙ (ap F apart.had ∙ (h same ∙ (sym (ap F apart.has) ∙ sym (ap (λ q. F (map.get new q)) same))))
        | false ↦ λ e. ap F (apart.paths p (λ same. cc (e, sym (itself p) ∙ ap (λ q. same_path p q) same)))
      ] refl

  management : (dataset : List ℕ) → record_at old dataset [] ≡ record_at new dataset []
  management dataset = apart.paths _ (λ same. apart.entry (sym (ap (λ (p : Path). p.name) same)))

  exists_alike : (dataset : List ℕ) → dataset_exists old dataset ≡ dataset_exists new dataset
  exists_alike dataset =
      elim (own_entry dataset) as (λ o. (octets_eq dataset (slash ∷ []) || option_map_or makes_dataset (option_and_then (λ own. record_at old own.0 own.1) o) false)
      ≡ (octets_eq dataset (slash ∷ []) || option_map_or makes_dataset (option_and_then (λ own. record_at new own.0 own.1) o) false)) [
        | None ↦ refl
        | Some own ↦ ap (λ b. octets_eq dataset (slash ∷ []) || b) (at_any (λ o. option_map_or makes_dataset o false) (record { dataset = own.0; name = own.1 }) (λ _. apart.datasets))
      ]

  -- ---- what is inherited

  chain_alike : ReadingLaw → (dataset : List ℕ) (no_inherit : Bool) → chain_of old dataset no_inherit ≡ chain_of new dataset no_inherit
  chain_alike law dataset no_inherit = law.chain old new dataset no_inherit (λ d _. management d)

  names_alike : ReadingLaw → (chain : List (List ℕ)) → names_on old chain ≡ names_on new chain
  names_alike law chain = law.names old new chain (λ name dataset _. at_any (λ o. is_some o) (record { dataset = dataset; name = name }) (λ _. refl))

  entry_alike : (chain : List (List ℕ)) (name : List ℕ) → entry_on old chain name ≡ entry_on new chain name
  entry_alike [] name = refl
  entry_alike (dataset ∷ chain) name =
      at_any (λ o. by_presence o name dataset (entry_on old chain name)) (record { dataset = dataset; name = name }) (λ _. ap (λ b. cond b (Some (Single name, dataset)) None) apart.present)
      ∙ ap (λ beyond. by_presence (record_at new dataset name) name dataset beyond) (entry_alike chain name)

  moments_alike : (chain : List (List ℕ)) (name : List ℕ) → moments (records_along old chain name) ≡ moments (records_along new chain name)
  moments_alike [] name = refl
  moments_alike (dataset ∷ chain) name =
      at_any (λ o. moments (cons_option o (records_along old chain name))) (record { dataset = dataset; name = name })
      (λ _ i. apart.modtime i ∷ each (λ (entry : Record). entry.modtime) (cond (apart.blocks_inheritance i) [] (until_end (records_along old chain name))))
      ∙ moments_behind (record_at new dataset name) (records_along old chain name) (records_along new chain name) (moments_alike chain name)

  beyond_alike : {X : Type 0} (o : Option Record) (a dataset : List ℕ) (H : Resolution → X) → H (Some (apart.cell, path.dataset)) ≡ H (Some (apart.other, path.dataset))
      → H (by_record o a dataset (Some (apart.cell, path.dataset))) ≡ H (by_record o a dataset (Some (apart.other, path.dataset)))
  beyond_alike None a dataset H h = h
  beyond_alike (Some entry) a dataset H h =
      elim (cell_in entry a) as (λ c. H (by_cell c entry dataset (Some (apart.cell, path.dataset))) ≡ H (by_cell c entry dataset (Some (apart.other, path.dataset)))) [
        | Some cell ↦ refl
        | None ↦ elim (ends_inheritance entry) as (λ b. H (cond b None (Some (apart.cell, path.dataset))) ≡ H (cond b None (Some (apart.other, path.dataset)))) [ true ↦ refl | false ↦ h ]
      ]

  cells_alike : {X : Type 0} (name a dataset : List ℕ) (H : Resolution → X)
      → (name ≡ path.name → a ≡ attribute → H (Some (apart.cell, path.dataset)) ≡ H (Some (apart.other, path.dataset)))
      → (beyond : Resolution) → ◌≡◌ {A = Path} (record { dataset = dataset; name = name }) path
      → H (by_cell (cell_in before a) before dataset beyond) ≡ H (by_cell (cell_in after a) after dataset beyond)
  cells_alike name a dataset H h beyond same =
      let at : dataset ≡ path.dataset = ap (λ (p : Path). p.dataset) same in
      elim (octets_eq a attribute) as (λ b. octets_eq a attribute ≡ b → H (by_cell (cell_in before a) before dataset beyond) ≡ H (by_cell (cell_in after a) after dataset beyond)) [
        | true ↦ λ e.
            let named : a ≡ attribute = (bytes_decides a attribute).0 e in
            let was : map.get before.cells a ≡ Some apart.cell = ap (map.get before.cells) named ∙ apart.held in
            let is : map.get after.cells a ≡ Some apart.other = ap (map.get after.cells) named ∙ apart.holds in
            (λ i. H (by_cell (cond (apart.present i) (was i) None) before dataset beyond))
            ∙ (elim after.present as (λ b. H (by_cell (cond b (Some apart.cell) None) before dataset beyond) ≡ H (by_cell (cond b (Some apart.other) None) after dataset beyond)) [
              | true ↦ ap H (lies apart.cell dataset apart.some_cell ∙ ap (λ d. Some (apart.cell, d)) at)
                  ∙ (h (ap (λ (p : Path). p.name) same) named ∙ sym (ap H (lies apart.other dataset apart.some_other ∙ ap (λ d. Some (apart.other, d)) at)))
              | false ↦ ap H (cell_alike None before after dataset beyond apart.blocks_inheritance)
            ]
            ∙ sym (ap (λ c. H (by_cell (cond after.present c None) after dataset beyond)) is))
        | false ↦ λ e.
            let cells : map.get before.cells a ≡ map.get after.cells a = apart.attributes a (λ same. cc (e, (bytes_decides a attribute).1 same)) in
            (λ i. H (by_cell (cond (apart.present i) (cells i) None) before dataset beyond)) ∙ ap H (cell_alike (cell_in after a) before after dataset beyond apart.blocks_inheritance)
      ] refl

  -- what doesn't tell the two cells from one another doesn't tell the values along a chain
  value_alike : {X : Type 0} (name a : List ℕ) (chain : List (List ℕ)) (H : Resolution → X)
      → (name ≡ path.name → a ≡ attribute → H (Some (apart.cell, path.dataset)) ≡ H (Some (apart.other, path.dataset)))
      → H (value_on old chain name a) ≡ H (value_on new chain name a)
  value_alike name a [] H h = refl
  value_alike name a (dataset ∷ chain) H h =
      at_any (λ o. H (by_record o a dataset (value_on old chain name a))) (record { dataset = dataset; name = name }) (λ same. cells_alike name a dataset H h (value_on old chain name a) same)
      ∙ value_alike name a chain (λ beyond. H (by_record (record_at new dataset name) a dataset beyond)) (λ e f. beyond_alike (record_at new dataset name) a dataset H (h e f))

  resolved_alike : {X : Type 0} (chain : List (List ℕ)) (name a : List ℕ) (H : Resolution → X)
      → (name ≡ path.name → a ≡ attribute → H (Some (apart.cell, path.dataset)) ≡ H (Some (apart.other, path.dataset)))
      → H (lookup old chain name a) ≡ H (lookup new chain name a)
  unfolding lookup
  resolved_alike chain name a H h =
      elim (octets_eq a (codes "entry")) as (λ b. H (cond b (entry_on old (members_for chain name) name) (cond (octets_eq a (codes "modtime")) (stamp_value chain (modtime_on old (members_for chain name) name)) (value_on old (members_of chain name a) name a)))
      ≡ H (cond b (entry_on new (members_for chain name) name) (cond (octets_eq a (codes "modtime")) (stamp_value chain (modtime_on new (members_for chain name) name)) (value_on new (members_of chain name a) name a)))) [
        | true ↦ ap H (entry_alike (members_for chain name) name)
        | false ↦ elim (octets_eq a (codes "modtime")) as (λ b. H (cond b (stamp_value chain (modtime_on old (members_for chain name) name)) (value_on old (members_of chain name a) name a))
            ≡ H (cond b (stamp_value chain (modtime_on new (members_for chain name) name)) (value_on new (members_of chain name a) name a))) [
              | true ↦ ap (λ moments. H (stamp_value chain (greatest moments))) (moments_alike (members_for chain name) name)
              | false ↦ value_alike name a (members_of chain name a) H h
            ]
      ]

  -- ---- rights

  kept_alike : (dataset a : List ℕ) → kept_list old dataset a ≡ kept_list new dataset a
  kept_alike dataset a = ap (λ o. option_and_then list_in (option_and_then (λ entry. map.get entry.cells a) o)) (management dataset)

  own_alike : (dataset name a : List ℕ) → own_acl old dataset name a ≡ own_acl new dataset name a
  own_alike dataset name a = at_any (λ o. option_and_then (λ entry. map.get entry.acls a) o) (record { dataset = dataset; name = name }) (λ _. ap (λ acls. map.get acls a) apart.acls)

  rights_alike : (realm : Realm) (user a name dataset : List ℕ) → rights_on old realm user a name dataset ≡ rights_on new realm user a name dataset
  unfolding rights_of deciding_list
  rights_alike realm user a name dataset i =
      union (rights_in realm user (unwrap_or (option_or (own_alike dataset name a i) (option_or (kept_alike dataset (attribute_list_name a) i) (kept_alike dataset dataset_list_name i))) (default_list dataset)))
      (implicit_rights realm user dataset)

  -- ---- datasets

  tie : (q p : Path) (b : Bool) → eq_by_cmp path_cmp q p ≡ b → b ≡ true → q ≡ p
  tie q p b e t = path_same q p (Equal_from_is_eq _ (e ∙ t))

  old_put : old ≡ map.insert old path before
  old_put = map.same_map path_cmp_total path_same _ _ (λ q. sym (map.get-insert path_cmp_total old path before q
      ∙ elim (eq_by_cmp path_cmp q path) as (λ b. eq_by_cmp path_cmp q path ≡ b → cond b (Some before) (map.get old q) ≡ map.get old q) [
        | true ↦ λ e. sym (ap (map.get old) (tie q path _ e refl) ∙ apart.had)
        | false ↦ λ e. refl
      ] refl))

  new_put : new ≡ map.insert old path after
  new_put = map.same_map path_cmp_total path_same _ _ (λ q. sym (map.get-insert path_cmp_total old path after q
      ∙ elim (eq_by_cmp path_cmp q path) as (λ b. eq_by_cmp path_cmp q path ≡ b → cond b (Some after) (map.get old q) ≡ map.get new q) [
        | true ↦ λ e. sym (ap (map.get new) (tie q path _ e refl) ∙ apart.has)
        | false ↦ λ e. apart.paths q (λ same. cc (e, ap is_eq (ap (λ p. path_cmp q p) (sym same) ∙ tied_itself path_cmp_total q)))
      ] refl))

  -- the datasets that records make beneath one
  abbrev made : List ℕ → ℕ → List (Path × Record) → List (List ℕ)
  made dataset depth es = filter_map (reached_by dataset depth) (filter (λ e. starts_with nat_eq e.0.dataset dataset) es)

  reached_alike : (dataset : List ℕ) (depth : ℕ) (p : Path) → reached_by dataset depth (p, before) ≡ reached_by dataset depth (p, after)
  reached_alike dataset depth p i =
      cond (is_reached depth (levels (drop (length dataset) p.dataset))) (cond (apart.datasets i && is_component_name p.name) (Some (full_path p ++ slash ∷ [])) None) None

  first_alike : (dataset : List ℕ) (depth : ℕ) (p : Path) (es : List (Path × Record)) → made dataset depth ((p, before) ∷ es) ≡ made dataset depth ((p, after) ∷ es)
  first_alike dataset depth p es =
      elim (starts_with nat_eq p.dataset dataset) as (λ b. filter_map (reached_by dataset depth) (cond b ((p, before) ∷ filter (λ e. starts_with nat_eq e.0.dataset dataset) es) (filter (λ e. starts_with nat_eq e.0.dataset dataset) es))
      ≡ filter_map (reached_by dataset depth) (cond b ((p, after) ∷ filter (λ e. starts_with nat_eq e.0.dataset dataset) es) (filter (λ e. starts_with nat_eq e.0.dataset dataset) es)))
      [ true ↦ ap (λ o. cons_option o (made dataset depth es)) (reached_alike dataset depth p) | false ↦ refl ]

  more_alike : (dataset : List ℕ) (depth : ℕ) (e : Path × Record) (xs ys : List (Path × Record)) → made dataset depth xs ≡ made dataset depth ys → made dataset depth (e ∷ xs) ≡ made dataset depth (e ∷ ys)
  more_alike dataset depth e xs ys h =
      elim (starts_with nat_eq e.0.dataset dataset) as (λ b. filter_map (reached_by dataset depth) (cond b (e ∷ filter (λ e. starts_with nat_eq e.0.dataset dataset) xs) (filter (λ e. starts_with nat_eq e.0.dataset dataset) xs))
      ≡ filter_map (reached_by dataset depth) (cond b (e ∷ filter (λ e. starts_with nat_eq e.0.dataset dataset) ys) (filter (λ e. starts_with nat_eq e.0.dataset dataset) ys)))
      [ true ↦ ap (cons_option (reached_by dataset depth e)) h | false ↦ h ]

  put_alike : (dataset : List ℕ) (depth : ℕ) (es : List (Path × Record)) → made dataset depth (put path_cmp path before es) ≡ made dataset depth (put path_cmp path after es)
  put_alike dataset depth [] = first_alike dataset depth path []
  put_alike dataset depth (e ∷ es) =
      elim (path_cmp path e.0) as (λ o. made dataset depth (by_order o ((path, before) ∷ e ∷ es) ((e.0, before) ∷ es) (e ∷ put path_cmp path before es))
      ≡ made dataset depth (by_order o ((path, after) ∷ e ∷ es) ((e.0, after) ∷ es) (e ∷ put path_cmp path after es))) [
        | Less ↦ first_alike dataset depth path (e ∷ es)
        | Equal ↦ first_alike dataset depth e.0 es
        | Greater ↦ more_alike dataset depth e (put path_cmp path before es) (put path_cmp path after es) (put_alike dataset depth es)
      ]

  beneath_alike : (dataset : List ℕ) (depth : ℕ) → beneath old dataset depth ≡ beneath new dataset depth
  unfolding beneath
  beneath_alike dataset depth =
      ap (λ records. made dataset depth (map.entries records)) old_put
      ∙ (ap (made dataset depth) (map.entries-insert path_cmp_total old path before)
      ∙ (put_alike dataset depth (map.entries old)
      ∙ (sym (ap (made dataset depth) (map.entries-insert path_cmp_total old path after))
      ∙ sym (ap (λ records. made dataset depth (map.entries records)) new_put))))

  datasets_alike : (scope : Scope) → datasets_of old scope ≡ datasets_of new scope
  datasets_alike scope =
      elim scope.depth as (λ depth. scope.dataset ∷ option_map_or (beneath old scope.dataset) depth [] ≡ scope.dataset ∷ option_map_or (beneath new scope.dataset) depth [])
      [ None ↦ refl | Some depth ↦ ap (λ datasets. scope.dataset ∷ datasets) (beneath_alike scope.dataset depth) ]

  paths_alike : ReadingLaw → (scope : Scope) → paths_of old scope ≡ paths_of new scope
  paths_alike law scope =
      let names : (dataset : List ℕ) → names_on old (chain_of old dataset scope.no_inherit) ≡ names_on new (chain_of new dataset scope.no_inherit) =
      λ dataset. ap (names_on old) (chain_alike law dataset scope.no_inherit) ∙ names_alike law (chain_of new dataset scope.no_inherit) in
      λ i. flat_map (λ dataset. each (λ name. record { dataset = dataset; name = name }) (names dataset i)) (datasets_alike scope i)

  -- ---- the answers

  module _ (law : ReadingLaw) (realm : Realm) (user : List ℕ) (withheld : may_test (rights_on old realm user attribute path.name path.dataset) ≡ false) where
    untestable : may_test (rights_on new realm user attribute path.name path.dataset) ≡ false
    untestable = ap may_test (sym (rights_alike realm user attribute path.name path.dataset)) ∙ withheld

    unreadable : may_read (rights_on new realm user attribute path.name path.dataset) ≡ false
    unreadable = (or_parts _ _ untestable).1

    level_alike : (may : Rights → Bool) → may (rights_on new realm user attribute path.name path.dataset) ≡ false → (dataset : List ℕ) (chain : List (List ℕ)) (name a : List ℕ)
        → cell_at may (rights_on old realm user a name dataset) (rights_on old realm user a name) (lookup old chain name a)
        ≡ cell_at may (rights_on new realm user a name dataset) (rights_on new realm user a name) (lookup new chain name a)
    level_alike may none dataset chain name a =
        (λ i. cell_at may (rights_alike realm user a name dataset i) (λ d. rights_alike realm user a name d i) (lookup old chain name a))
        ∙ resolved_alike chain name a (cell_at may (rights_on new realm user a name dataset) (rights_on new realm user a name))
        (λ e f. hidden (may (rights_on new realm user a name dataset)) (may (rights_on new realm user a name path.dataset)) apart.cell apart.other ((λ i. may (rights_on new realm user (f i) (e i) path.dataset)) ∙ none))

    readable_alike : (dataset : List ℕ) (chain : List (List ℕ)) (name a : List ℕ) → is_readable old realm user dataset chain name a ≡ is_readable new realm user dataset chain name a
    readable_alike dataset chain name a =
        (λ i. is_held may_read (rights_alike realm user a name dataset i) (λ d. rights_alike realm user a name d i) (lookup old chain name a))
        ∙ resolved_alike chain name a (is_held may_read (rights_on new realm user a name dataset) (rights_on new realm user a name)) (λ e f. refl)

    answers_alike : (dataset : List ℕ) (chain : List (List ℕ)) (name : List ℕ) → answers_at old realm user dataset chain name ≡ answers_at new realm user dataset chain name
    answers_alike dataset chain name i = record {
      read = λ a. level_alike may_read unreadable dataset chain name a i;
      test = λ a. level_alike may_test untestable dataset chain name a i;
      acl = λ a. cond (readable_alike dataset chain name a i) (own_alike dataset name a i) None;
      rights = λ a. rights_alike realm user a name dataset i;
    }

    answered : (no_inherit : Bool) (p : Path) → answers_on old realm user no_inherit p ≡ answers_on new realm user no_inherit p
    answered no_inherit p = ap (λ chain. answers_at old realm user p.dataset chain p.name) (chain_alike law p.dataset no_inherit) ∙ answers_alike p.dataset (chain_of new p.dataset no_inherit) p.name

    sight_alike : (scope : Scope) → IsSameSight (sight_of old realm user scope) (sight_of new realm user scope)
    sight_alike scope = record {
      paths = λ i. sorted_by full_path_lt (filter (λ p. is_seen (answered scope.no_inherit p i)) (paths_alike law scope i));
      answers = λ p _. record {
        read = λ a i. (answered scope.no_inherit p i).read a;
        test = λ a i. (answered scope.no_inherit p i).test a;
        acl = λ a i. (answered scope.no_inherit p i).acl a;
        rights = λ a i. (answered scope.no_inherit p i).rights a;
      };
    }

pub withheld_law : ReadingLaw → SightLaw → WithheldLaw
withheld_law law sight = record {
  sight = λ old new realm user path attribute w. sight_alike old new path attribute w.apart law realm user w.rights;
  tuples = λ old new realm user path attribute w sought. sight.tuples old new realm realm user user sought (sight_alike old new path attribute w.apart law realm user w.rights (scope_of sought));
  fresh = λ old new realm user path attribute w sought. sight.fresh old new realm realm user user sought (sight_alike old new path attribute w.apart law realm user w.rights (scope_of sought));
  refusal = λ old new realm user path attribute w query.
      let found = sight.fresh old new realm realm user user query.sought (sight_alike old new path attribute w.apart law realm user w.rights (scope_of query.sought)) in
      λ i. cond (has_range query.sought.key) (Some refusal.RangeHere)
      (cond (not (exists_alike old new path attribute w.apart query.sought.dataset i)) (Some refusal.NoExist) (cond (is_over query.hard_limit (length (found i))) (Some refusal.WayTooMany) None));
}
