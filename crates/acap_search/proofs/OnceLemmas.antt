-- What comes once in a sound store, and which datasets a search looks through there.
use Rattle.std.proofs.Common.{◌≡◌, ◌≢◌, ℕ, suc, ◌+◌, ◌<◌, ◌≤◌, ◌⊎◌, inl, inr, Bool, true, false, not, cond, T, ◌&&◌, ◌||◌, ◌==◌, nat_eq, nat_lt, Option, Some, None, is_some, List, [], ◌∷◌, ◌++◌, length, drop, flat_map, refl, sym, ◌∙◌, ap, subst, arith, length-append, append_assoc, append-nil, map as each}
use Rattle.std.proofs.lemmas.Bool.{and_from, eqb-true, lt-ltb, ltb-true, or_parts, or_right}
use Rattle.std.proofs.lemmas.List.Elements.{filter-append, Contains-append_cases}
use Rattle.std.specs.Cmp.{first_so, second_so, tied_itself, unsigned_Decides}
use Rattle.std.specs.Cmp.Lexicographic.{bytes_decides, nat_list_cmp_total}
use Rattle.std.specs.FinMap as map
use Rattle.std.specs.FinMap.{is_sorted, find}
use Rattle.std.specs.FinMap.Entries.{below_all}
use Rattle.std.specs.List.{filter, filter_map, cons_option, starts_with, Contains}
use Rattle.std.specs.Option.{option_and_then, option_map_or}
use Rattle.std.specs.Ordering.{eq_by_cmp, is_eq, is_lt}
use Rattle.std.specs.declared.cmp.Ordering.TheVariants.{Equal}
use Rattle.acap_entries.proofs.FullPathLaws.{full_paths}
use Rattle.acap_entries.proofs.NameLemmas.{closed_by_slash, closed_dropped}
use Rattle.acap_entries.proofs.FormLemmas.{form_law}
use Rattle.acap_entries.proofs.OwnLaws.{own_entry_law}
use Rattle.acap_entries.proofs.StoreLemmas.{path_cmp_total, path_same}
use Rattle.acap_entries.specs.Datasets.{makes_dataset, dataset_exists}
use Rattle.acap_entries.specs.FullPaths.{full_path, full_path_cmp, AreWellFormed, IsSplit}
use Rattle.acap_entries.specs.Names.{slash, is_slash, has, ends_with, own_entry, dataset_of}
use Rattle.acap_entries.specs.Orders.{octets_cmp, octets_eq}
use Rattle.acap_entries.specs.Sound.{IsSoundStore}
use Rattle.acap_entries.specs.Store.{Stored, path_cmp}
use Rattle.acap_entries.specs.declared.path.Path.{Path}
use Rattle.acap_entries.specs.declared.record.Record.{Record}
use Rattle.acap_ordmap.proofs.Logic.{first_T, second_T, true_without, second_Equal, one_of_any, Equal_from_is_eq, Contains-here, Contains-there}
use Rattle.acap_inherit.specs.Chains.{chain_of}
use Rattle.acap_inherit.specs.EntryNames.{names_on}
use Rattle.acap_inherit.specs.Laws.{NothingLaw, NamesLaw}
use Rattle.acap_inherit.specs.Merging.{is_below, is_rising}
use Rattle.acap_inherit.specs.Records.{record_at}
use Rattle.acap_rights.specs.declared.realm.Realm.{Realm}
use Rattle.acap_search.specs.Fresh.{Sight, paths_in, paths_of, full_path_lt, sight_of, tuple_of, fresh_of, is_among}
use Rattle.acap_search.specs.Keys.{holds}
use Rattle.acap_search.specs.Matches.{Match, match_cmp, match_lt, put_by, sorted_from, sorted_by, ordered_by}
use Rattle.acap_search.specs.Once.{EachOnce, IsBeneath, ScopeLaw, OnceLaw}
use Rattle.acap_search.specs.Rows.{stars_of}
use Rattle.acap_search.specs.Scopes.{Scope, scope_of, datasets_of, beneath, is_reached, levels, is_component_name, reached_by}
use Rattle.acap_search.specs.Tuples.{name_told, match_of}
use Rattle.acap_search.specs.declared.query.SearchSpec.{SearchSpec}
use Rattle.acap_commands.specs.declared.search_modifiers.SortItem.{SortItem}
use Rattle.acap_search.proofs.TupleLemmas.{made_is}
use Rattle.acap_search.proofs.SeenLemmas.{first_or, nowhere, either, at_first, in_map, from_map, from_all, in_filter, from_filter, from_put, from_sorted, from_order, named, only_seen}

-- ---- lists

plain : {X : Type 0} (xs : List X) → each (λ x. x) xs ≡ xs
plain [] = refl
plain (x ∷ xs) = ap (λ rest. x ∷ rest) (plain xs)

pub from_made : {X Y : Type 0} (f : X → Option Y) (xs : List X) (y : Y) → Contains (filter_map f xs) y → (x : X) × (Contains xs x × (f x ≡ Some y))
from_made f [] y h = nowhere y h
from_made f (x ∷ xs) y h =
    elim (f x) as (λ o. f x ≡ o → Contains (cons_option o (filter_map f xs)) y → (z : _) × (Contains (x ∷ xs) z × (f z ≡ Some y))) [
      | None ↦ λ e k. let r = from_made f xs y k in (r.0, (Contains-there x r.0 xs r.1.0, r.1.1))
      | Some z ↦ λ e k. either (first_or z y (filter_map f xs) k) (λ s. (x, (Contains-here x xs, e ∙ ap Some s))) (λ l. let r = from_made f xs y l in (r.0, (Contains-there x r.0 xs r.1.0, r.1.1)))
    ] refl h

pub in_made : {X Y : Type 0} (f : X → Option Y) (xs : List X) (x : X) (y : Y) → Contains xs x → f x ≡ Some y → Contains (filter_map f xs) y
in_made f [] x y h e = nowhere x h
in_made f (z ∷ zs) x y h e =
    elim (f z) as (λ o. f z ≡ o → Contains (cons_option o (filter_map f zs)) y) [
      | None ↦ λ n. either (first_or z x zs h) (λ s. absurd (cc (n, ap f s, e))) (λ l. in_made f zs x y l e)
      | Some w ↦ λ n. either (first_or z x zs h) (λ s. at_first w y (filter_map f zs) (let same : Some w ≡ Some y = sym n ∙ (ap f s ∙ e) in cc (same))) (λ l. Contains-there w y (filter_map f zs) (in_made f zs x y l e))
    ] refl

module _ {X Y : Type 0} (g : X → Y) where
  once_filter : (p : X → Bool) (xs : List X) → EachOnce (each g xs) → EachOnce (each g (filter p xs))
  once_filter p [] h = tt
  once_filter p (x ∷ xs) h =
      elim (p x) as (λ b. EachOnce (each g (cond b (x ∷ filter p xs) (filter p xs)))) [
        | true ↦ (λ k. let m = from_map g (filter p xs) (g x) k in h.0 (subst (λ y. Contains (each g xs) y) m.1.1 (in_map g xs m.0 (from_filter p xs m.0 m.1.0).0)), once_filter p xs h.1)
        | false ↦ once_filter p xs h.1
      ]

  once_put : (lt : X → X → Bool) (x : X) (ys : List X) → EachOnce (each g (x ∷ ys)) → EachOnce (each g (put_by lt x ys))
  once_put lt x [] h = h
  once_put lt x (y ∷ ys) h =
      elim (lt y x) as (λ b. EachOnce (each g (cond b (y ∷ put_by lt x ys) (x ∷ y ∷ ys)))) [
        | true ↦ (
          λ k.
              let m = from_map g (put_by lt x ys) (g y) k in
              either (first_or x m.0 ys (from_put lt x ys m.0 m.1.0))
              (λ e. h.0 (at_first (g y) (g x) (each g ys) (sym m.1.1 ∙ ap g (sym e))))
              (λ l. h.1.0 (subst (λ z. Contains (each g ys) z) m.1.1 (in_map g ys m.0 l))),
          once_put lt x ys (λ k. h.0 (Contains-there (g y) (g x) (each g ys) k), h.1.1),
        )
        | false ↦ h
      ]

  once_from : (lt : X → X → Bool) (xs : List X) → EachOnce (each g xs) → EachOnce (each g (sorted_from lt xs))
  once_from lt [] h = tt
  once_from lt (x ∷ xs) h =
      once_put lt x (sorted_from lt xs)
      (λ k. let m = from_map g (sorted_from lt xs) (g x) k in h.0 (subst (λ z. Contains (each g xs) z) m.1.1 (in_map g xs m.0 (from_sorted lt xs m.0 m.1.0))), once_from lt xs h.1)

  once_sorted : (lt : X → X → Bool) (xs : List X) → EachOnce (each g xs) → EachOnce (each g (sorted_by lt xs))
  unfolding sorted_by
  once_sorted lt xs h = once_from lt xs h

  once_same : ((x y : X) → g x ≡ g y → x ≡ y) → (xs : List X) → EachOnce xs → EachOnce (each g xs)
  once_same same [] h = tt
  once_same same (x ∷ xs) h = (λ k. let m = from_map g xs (g x) k in h.0 (subst (λ y. Contains xs y) (same m.0 x m.1.1) m.1.0), once_same same xs h.1)

once_append : {X : Type 0} (xs ys : List X) → EachOnce xs → EachOnce ys → ((z : X) → Contains xs z → Contains ys z → ⊥) → EachOnce (xs ++ ys)
once_append [] ys h k apart = k
once_append (x ∷ xs) ys h k apart =
    (λ c. either (Contains-append_cases xs ys x c) h.0 (λ r. apart x (Contains-here x xs) r), once_append xs ys h.1 k (λ z a b. apart z (Contains-there x z xs a) b))

once_flat : {X Y : Type 0} (f : X → List Y) (key : Y → X) → ((x : X) → EachOnce (f x)) → ((x : X) (y : Y) → Contains (f x) y → key y ≡ x) → (xs : List X) → EachOnce xs → EachOnce (flat_map f xs)
once_flat f key all keyed [] h = tt
once_flat f key all keyed (x ∷ xs) h =
    once_append (f x) (flat_map f xs) (all x) (once_flat f key all keyed xs h.1)
    (λ z a b. let m = from_all f xs z b in h.0 (subst (λ w. Contains xs w) (sym (keyed m.0 z m.1.1) ∙ keyed x z a) m.1.0))

-- what is made comes once, as it is seen by h, where what it is made of does, as that is seen by k
once_made : {X Y Z W : Type 0} (f : X → Option Y) (h : Y → Z) (k : X → W) (xs : List X)
    → ((x z : X) (a b : Y) → Contains xs x → Contains xs z → f x ≡ Some a → f z ≡ Some b → h a ≡ h b → k x ≡ k z)
    → EachOnce (each k xs) → EachOnce (each h (filter_map f xs))
once_made f h k [] apart o = tt
once_made f h k (x ∷ xs) apart o =
    let rest : EachOnce (each h (filter_map f xs)) = once_made f h k xs (λ y z a b c d. apart y z a b (Contains-there x y xs c) (Contains-there x z xs d)) o.1 in
    elim (f x) as (λ q. f x ≡ q → EachOnce (each h (cons_option q (filter_map f xs)))) [
      | None ↦ λ e. rest
      | Some a ↦ λ e. (
        λ c.
            let m = from_map h (filter_map f xs) (h a) c in
            let w = from_made f xs m.0 m.1.0 in
            o.0 (subst (λ z. Contains (each k xs) z) (apart w.0 x m.0 a (Contains-there x w.0 xs w.1.0) (Contains-here x xs) w.1.1 e m.1.1) (in_map k xs w.0 w.1.0)),
        rest,
      )
    ] refl

-- ---- records and names

below_in : (p : Path) (es : List (Path × Record)) (x : Path × Record) → T (below_all path_cmp p es) → Contains es x → T (is_lt (path_cmp p x.0))
below_in p [] x b k = nowhere x k
below_in p (e ∷ es) x b k = either (first_or e x es k) (λ s. subst (λ (y : Path × Record). T (is_lt (path_cmp p y.0))) s (first_T _ _ b)) (λ l. below_in p es x (second_T _ _ b) l)

keys_once : (es : List (Path × Record)) → T (is_sorted path_cmp es) → EachOnce (each (λ e. e.0) es)
keys_once [] s = tt
keys_once (e ∷ es) s = (
  λ k.
      let m = from_map (λ (e : Path × Record). e.0) es e.0 k in
      let lesser : T (is_lt (path_cmp e.0 m.0.0)) = below_in e.0 es m.0 (first_T _ _ s) m.1.0 in
      subst T (ap is_lt (ap (path_cmp e.0) m.1.1 ∙ tied_itself path_cmp_total e.0)) lesser,
  keys_once es (second_T _ _ s),
)

found_in : (es : List (Path × Record)) (x : Path × Record) → T (is_sorted path_cmp es) → Contains es x → find path_cmp x.0 es ≡ Some x.1
found_in [] x s k = nowhere x k
found_in (e ∷ es) x s k =
    either (first_or e x es k)
    (λ same. ap (λ b. cond b (Some e.1) (find path_cmp x.0 es)) (ap (λ (y : Path × Record). is_eq (path_cmp y.0 e.0)) (sym same) ∙ ap is_eq (tied_itself path_cmp_total e.0)) ∙ ap (λ (y : Path × Record). Some y.1) same)
    (λ l. elim (eq_by_cmp path_cmp x.0 e.0) as (λ b. eq_by_cmp path_cmp x.0 e.0 ≡ b → cond b (Some e.1) (find path_cmp x.0 es) ≡ Some x.1) [
      | true ↦ λ t.
          let same : x.0 ≡ e.0 = path_same x.0 e.0 (Equal_from_is_eq _ t) in
          let lesser : T (is_lt (path_cmp e.0 x.0)) = below_in e.0 es x (first_T _ _ s) l in
          absurd (subst T (ap is_lt (ap (path_cmp e.0) same ∙ tied_itself path_cmp_total e.0)) lesser)
      | false ↦ λ t. found_in es x (second_T _ _ s) l
    ] refl)

in_found : (es : List (Path × Record)) (p : Path) (r : Record) → find path_cmp p es ≡ Some r → Contains es (p, r)
in_found [] p r e = absurd (cc (e))
in_found (x ∷ es) p r h =
    elim (eq_by_cmp path_cmp p x.0) as (λ b. eq_by_cmp path_cmp p x.0 ≡ b → cond b (Some x.1) (find path_cmp p es) ≡ Some r → Contains (x ∷ es) (p, r)) [
      | true ↦ λ t e.
          let same : x.0 ≡ p = sym (path_same p x.0 (Equal_from_is_eq _ t)) in
          let value : x.1 ≡ r = cc (e) in
          at_first x (p, r) es (λ i. (same i, value i))
      | false ↦ λ t e. Contains-there x (p, r) es (in_found es p r e)
    ] refl h

kept_at : (records : Stored) (x : Path × Record) → Contains (map.entries records) x → map.get records x.0 ≡ Some x.1
kept_at records x k = map.get-entries records x.0 ∙ found_in (map.entries records) x (map.entries_sorted records) k

in_kept : (records : Stored) (p : Path) (r : Record) → map.get records p ≡ Some r → Contains (map.entries records) (p, r)
in_kept records p r e = in_found (map.entries records) p r (sym (map.get-entries records p) ∙ e)

below_name : (name : List ℕ) (names : List (List ℕ)) → is_below name names ≡ true → Contains names name → ⊥
below_name name [] b k = nowhere name k
below_name name (other ∷ names) b k =
    either (first_or other name names k)
    (λ e. let lesser : is_lt (octets_cmp name other) ≡ true = first_so _ _ b in cc (lesser, ap is_lt (ap (octets_cmp name) e ∙ tied_itself nat_list_cmp_total name)))
    (λ l. below_name name names (second_so _ _ b) l)

names_once : (names : List (List ℕ)) → is_rising names ≡ true → EachOnce names
names_once [] r = tt
names_once (name ∷ names) r = (below_name name names (first_so _ _ r), names_once names (second_so _ _ r))

-- ---- datasets

starts_length : (xs ys : List ℕ) → starts_with nat_eq xs ys ≡ true → length ys ≤ length xs
starts_length xs [] e = omega arith
starts_length [] (y ∷ ys) e = absurd (cc (e))
starts_length (x ∷ xs) (y ∷ ys) e = let less : length ys ≤ length xs = starts_length xs ys (second_so _ _ e) in omega (arith, less)

module _ (records : Stored) (formed : AreWellFormed records) where
  abbrev lies : List ℕ → Path × Record → Bool
  lies dataset e = starts_with nat_eq e.0.dataset dataset

  -- an entry that makes a dataset, as it is reached
  abbrev IsMaker : List ℕ → ℕ → List ℕ → Path × Record → Type 0
  IsMaker dataset depth made e =
      (map.get records e.0 ≡ Some e.1) × ((lies dataset e ≡ true) × ((is_reached depth (levels (drop (length dataset) e.0.dataset)) ≡ true)
      × (((makes_dataset e.1 && is_component_name e.0.name) ≡ true) × (full_path e.0 ++ slash ∷ [] ≡ made))))

  maker : (dataset : List ℕ) (depth : ℕ) (made : List ℕ) → Contains (beneath records dataset depth) made → (e : Path × Record) × IsMaker dataset depth made e
  unfolding beneath
  maker dataset depth made k =
      let m = from_made (reached_by dataset depth) (filter (lies dataset) (map.entries records)) made k in
      let f = from_filter (lies dataset) (map.entries records) m.0 m.1.0 in
      let is = made_is _ _ _ made m.1.1 in
      (m.0, (kept_at records m.0 f.0, (f.1, (is.0, (is.1.0, is.1.1)))))

  -- such an entry is the dataset's own
  owned : (p : Path) (r : Record) (made : List ℕ) → map.get records p ≡ Some r → full_path p ++ slash ∷ [] ≡ made → own_entry made ≡ Some (p.dataset, p.name)
  owned p r made kept whole = (own_entry_law made p).1 (form_law.split p (formed p r kept), whole)

  beneath_once : (dataset : List ℕ) (depth : ℕ) → EachOnce (beneath records dataset depth)
  unfolding beneath
  beneath_once dataset depth =
      subst EachOnce (plain (filter_map (reached_by dataset depth) (filter (lies dataset) (map.entries records))))
      (once_made (reached_by dataset depth) (λ d. d) (λ e. e.0) (filter (lies dataset) (map.entries records))
      (λ x z a b c d e f same.
      let of_x = owned x.0 x.1 a (kept_at records x (from_filter (lies dataset) (map.entries records) x c).0) (made_is _ _ _ a e).1.1 in
      let of_z = owned z.0 z.1 b (kept_at records z (from_filter (lies dataset) (map.entries records) z d).0) (made_is _ _ _ b f).1.1 in
      let one : Some (x.0.dataset, x.0.name) ≡ Some (z.0.dataset, z.0.name) = sym of_x ∙ (ap own_entry same ∙ of_z) in
      let pair : ◌≡◌ {A = List ℕ × List ℕ} (x.0.dataset, x.0.name) (z.0.dataset, z.0.name) = cc (one) in
      λ i. record { dataset = (pair i).0; name = (pair i).1 })
      (once_filter (λ e. e.0) (lies dataset) (map.entries records) (keys_once (map.entries records) (map.entries_sorted records))))

  not_beneath : (dataset : List ℕ) (depth : ℕ) → Contains (beneath records dataset depth) dataset → ⊥
  not_beneath dataset depth k =
      let m = maker dataset depth dataset k in
      let long = starts_length m.0.0.dataset dataset m.1.1.0 in
      let whole : length (full_path m.0.0 ++ slash ∷ []) ≡ length dataset = ap length m.1.1.1.1.1 in
      let a = length-append (full_path m.0.0) (slash ∷ []) in
      let b = length-append m.0.0.dataset m.0.0.name in
      omega (arith, long, whole, a, b)

  datasets_once : (scope : Scope) → EachOnce (datasets_of records scope)
  datasets_once scope =
      elim scope.depth as (λ depth. EachOnce (scope.dataset ∷ option_map_or (beneath records scope.dataset) depth []))
      [ None ↦ (λ k. nowhere scope.dataset k, tt) | Some depth ↦ (not_beneath scope.dataset depth, beneath_once scope.dataset depth) ]

  -- ---- which datasets these are

  exists_own : (d : List ℕ) (own : Path) → own_entry d ≡ Some (own.dataset, own.name) → dataset_exists records d ≡ (octets_eq d (slash ∷ []) || option_map_or makes_dataset (map.get records own) false)
  exists_own d own e = ap (λ o. octets_eq d (slash ∷ []) || option_map_or makes_dataset (option_and_then (λ own. record_at records own.0 own.1) o) false) e

  -- an existing dataset ends in a slash
  closed : (d : List ℕ) → dataset_exists records d ≡ true → ends_with slash d ≡ true
  closed d =
      elim (own_entry d) as (λ o. own_entry d ≡ o → (octets_eq d (slash ∷ []) || option_map_or makes_dataset (option_and_then (λ own. record_at records own.0 own.1) o) false) ≡ true → ends_with slash d ≡ true) [
        | Some own ↦ λ e h. sym (ap (ends_with slash) ((own_entry_law d (record { dataset = own.0; name = own.1 })).0 e).1) ∙ closed_by_slash (own.0 ++ own.1)
        | None ↦ λ e h. ap (ends_with slash) ((bytes_decides d (slash ∷ [])).0 (true_without _ h))
      ] refl

  closed_in : (scope : Scope) → dataset_exists records scope.dataset ≡ true → (d : List ℕ) → Contains (datasets_of records scope) d → ends_with slash d ≡ true
  closed_in scope exists d =
      elim scope.depth as (λ depth. Contains (scope.dataset ∷ option_map_or (beneath records scope.dataset) depth []) d → ends_with slash d ≡ true) [
        | None ↦ λ k. either (first_or scope.dataset d [] k) (λ e. sym (ap (ends_with slash) e) ∙ closed scope.dataset exists) (λ l. nowhere d l)
        | Some depth ↦ λ k. either (first_or scope.dataset d (beneath records scope.dataset depth) k)
            (λ e. sym (ap (ends_with slash) e) ∙ closed scope.dataset exists)
            (λ l. let m = maker scope.dataset depth d l in sym (ap (ends_with slash) m.1.1.1.1.1) ∙ closed_by_slash (full_path m.0.0))
      ]

-- what has an own entry isn't the root
not_root : (d : List ℕ) (own : Path) → own_entry d ≡ Some (own.dataset, own.name) → octets_eq d (slash ∷ []) ≡ false
unfolding dataset_of
not_root d own e =
    elim (octets_eq d (slash ∷ [])) as (λ b. octets_eq d (slash ∷ []) ≡ b → b ≡ false) [
      | true ↦ λ t. let root : own_entry d ≡ None = ap own_entry ((bytes_decides d (slash ∷ [])).0 t) in absurd (cc (root, e))
      | false ↦ λ t. refl
    ] refl

-- the record of an existing dataset's own entry makes it
maker_of : (o : Option Record) → option_map_or makes_dataset o false ≡ true → (r : Record) × ((o ≡ Some r) × (makes_dataset r ≡ true))
maker_of None h = absurd (cc (h))
maker_of (Some r) h = (r, (refl, h))

made_there : (records : Stored) (formed : AreWellFormed records) (d : List ℕ) (own : Path) → own_entry d ≡ Some (own.dataset, own.name) → dataset_exists records d ≡ true
    → (r : Record) × ((map.get records own ≡ Some r) × (makes_dataset r ≡ true))
made_there records formed d own e exists =
    maker_of (map.get records own) (ap (λ t. t || option_map_or makes_dataset (map.get records own) false) (sym (not_root d own e)) ∙ (sym (exists_own records formed d own e) ∙ exists))

-- a dataset beneath some octets in one store is beneath them in each in which it exists
beneath_too : (a b : Stored) → AreWellFormed a → AreWellFormed b → (dataset : List ℕ) (depth : ℕ) (d : List ℕ) → dataset_exists b d ≡ true
    → Contains (beneath a dataset depth) d → Contains (beneath b dataset depth) d
unfolding beneath
beneath_too a b of_a of_b dataset depth d exists k =
    let m = maker a of_a dataset depth d k in
    let p : Path = m.0.0 in
    let n = made_there b of_b d p (owned a of_a p m.0.1 d m.1.0 m.1.1.1.1.1) exists in
    in_made (reached_by dataset depth) (filter (lies b of_b dataset) (map.entries b)) (p, n.0) d
    (in_filter (lies b of_b dataset) (map.entries b) (p, n.0) (in_kept b p n.0 n.1.0) m.1.1.0)
    ((λ i. cond (m.1.1.1.0 i) (cond (and_from (makes_dataset n.0) (is_component_name p.name) n.1.1 (second_so (makes_dataset m.0.1) (is_component_name p.name) m.1.1.1.1.0) i) (Some (full_path p ++ slash ∷ [])) None) None) ∙ ap Some m.1.1.1.1.1)

pub looked_through_too : (a b : Stored) → AreWellFormed a → AreWellFormed b → (scope : Scope) (d : List ℕ) → dataset_exists b d ≡ true
    → Contains (datasets_of a scope) d → Contains (datasets_of b scope) d
looked_through_too a b of_a of_b scope d exists =
    elim scope.depth as (λ depth. Contains (scope.dataset ∷ option_map_or (beneath a scope.dataset) depth []) d → Contains (scope.dataset ∷ option_map_or (beneath b scope.dataset) depth []) d) [
      | None ↦ λ k. k
      | Some depth ↦ λ k. either (first_or scope.dataset d (beneath a scope.dataset depth) k)
          (λ s. at_first scope.dataset d (beneath b scope.dataset depth) s)
          (λ l. Contains-there scope.dataset d (beneath b scope.dataset depth) (beneath_too a b of_a of_b scope.dataset depth d exists l))
    ]

-- ---- octets that begin another dataset

pub same_number : (x y : ℕ) → x ≡ y → nat_eq x y ≡ true
same_number x y e = (unsigned_Decides x y).1 e

some_rest : {P : Type 0} (rest : List ℕ) → (rest ≡ [] → P) → ((rest ≡ [] → ⊥) → P) → P
some_rest [] f g = f refl
some_rest (x ∷ rest) f g = g (λ e. cc (e))

none_within : (a n rest : List ℕ) → ends_with slash a ≡ true → has slash n ≡ false → (rest ≡ [] → ⊥) → a ++ rest ≡ n ++ slash ∷ [] → ⊥
none_within [] n rest h plain_name more e = absurd (cc (h))
none_within (x ∷ []) [] rest h plain_name more e = more (cc (e))
none_within (x ∷ []) (m ∷ n) rest h plain_name more e = let same : x ≡ m = cc (e) in absurd (cc (sym h ∙ ap (λ v. v == slash) same, (or_parts (m == slash) (has slash n) plain_name).0))
none_within (x ∷ y ∷ a) [] rest h plain_name more e = absurd (cc (e))
none_within (x ∷ y ∷ a) (m ∷ n) rest h plain_name more e = none_within (y ∷ a) n rest (closed_dropped 1 (x ∷ y ∷ a) (omega arith) h) (or_parts (m == slash) (has slash n) plain_name).1 more (cc (e))

prefix : (a p n rest : List ℕ) → ends_with slash a ≡ true → has slash n ≡ false → (rest ≡ [] → ⊥) → a ++ rest ≡ p ++ (n ++ slash ∷ []) → (starts_with nat_eq p a ≡ true) × (drop (length a) p ++ (n ++ slash ∷ []) ≡ rest)
prefix [] p n rest h plain_name more e = absurd (cc (h))
prefix (x ∷ a) [] n rest h plain_name more e = absurd (none_within (x ∷ a) n rest h plain_name more e)
prefix (x ∷ []) (z ∷ p) n rest h plain_name more e = let same : x ≡ z = cc (e) in let tails : rest ≡ p ++ (n ++ slash ∷ []) = cc (e) in (and_from _ _ (same_number x z same) refl, sym tails)
prefix (x ∷ y ∷ a) (z ∷ p) n rest h plain_name more e =
    let same : x ≡ z = cc (e) in
    let tails : y ∷ (a ++ rest) ≡ p ++ (n ++ slash ∷ []) = cc (e) in
    let r = prefix (y ∷ a) p n rest (closed_dropped 1 (x ∷ y ∷ a) (omega arith) h) plain_name more tails in
    (and_from _ _ (same_number x z same) r.0, r.1)

pub starts_split : (xs ys : List ℕ) → starts_with nat_eq xs ys ≡ true → ys ++ drop (length ys) xs ≡ xs
starts_split xs [] e = refl
starts_split [] (y ∷ ys) e = absurd (cc (e))
starts_split (x ∷ xs) (y ∷ ys) e =
    let same : x ≡ y = sym ((unsigned_Decides y x).0 (first_so (nat_eq y x) (starts_with nat_eq xs ys) e)) in
    let rest = starts_split xs ys (second_so (nat_eq y x) (starts_with nat_eq xs ys) e) in
    λ i. sym same i ∷ rest i

levels_more : (a b : List ℕ) → levels (a ++ b) ≡ levels a + levels b
levels_more a b = ap length (filter-append is_slash a b) ∙ length-append (filter is_slash a) (filter is_slash b)

levels_name : (n : List ℕ) → has slash n ≡ false → levels (n ++ slash ∷ []) ≡ 1
levels_name [] h = refl
levels_name (x ∷ n) h = ap (λ b. length (cond b (x ∷ filter is_slash (n ++ slash ∷ [])) (filter is_slash (n ++ slash ∷ [])))) ((or_parts _ _ h).0) ∙ levels_name n (or_parts _ _ h).1

reached_within : (depth level : ℕ) → is_reached depth level ≡ true → (depth ≡ 0) ⊎ (level + 1 < depth)
reached_within depth level =
    elim (depth == 0) as (λ b. (depth == 0) ≡ b → (b || nat_lt (suc level) depth) ≡ true → (depth ≡ 0) ⊎ (level + 1 < depth)) [
      | true ↦ λ e h. inl (eqb-true depth 0 e)
      | false ↦ λ e h. inr (let less : suc level < depth = ltb-true (suc level) depth h in omega (arith, less))
    ] refl

within_reached : (depth level : ℕ) → (depth ≡ 0) ⊎ (level + 1 < depth) → is_reached depth level ≡ true
within_reached depth level (inl e) = ap (λ d. (d == 0) || nat_lt (suc level) d) e
within_reached depth level (inr less) = or_right (depth == 0) (nat_lt (suc level) depth) (lt-ltb (suc level) depth (omega (arith, less)))

component_named : (name : List ℕ) → is_component_name name ≡ true → name ≢ []
component_named name h e = let no_name : false ≡ true = ap is_component_name (sym e) ∙ h in cc (no_name)

not_zero : (n : ℕ) → (suc n == 0) ≡ false
not_zero n = elim (suc n == 0) as (λ b. (suc n == 0) ≡ b → b ≡ false) [ true ↦ λ e. let none : suc n ≡ 0 = eqb-true (suc n) 0 e in absurd (omega (arith, none)) | false ↦ λ e. refl ] refl

named_component : (name : List ℕ) → name ≢ [] → has slash name ≡ false → is_component_name name ≡ true
named_component [] h plain_name = absurd (h refl)
named_component (x ∷ name) h plain_name = and_from _ _ (ap not (not_zero (length name))) (ap not plain_name)

module _ (records : Stored) (formed : AreWellFormed records) (scope : Scope) (ends : ends_with slash scope.dataset ≡ true) (d : List ℕ) where
  beneath_by : (depth : ℕ) → scope.depth ≡ Some depth → Contains (beneath records scope.dataset depth) d → IsBeneath records scope d
  beneath_by depth deep k =
      let m = maker records formed scope.dataset depth d k in
      let p : Path = m.0.0 in
      let behind : List ℕ = drop (length scope.dataset) p.dataset in
      let own = owned records formed p m.0.1 d m.1.0 m.1.1.1.1.1 in
      let makes : makes_dataset m.0.1 ≡ true = first_so _ _ m.1.1.1.1.0 in
      let name : has slash p.name ≡ false = (form_law.split p (formed p m.0.1 m.1.0)).name in
      record {
        depth = depth;
        rest = behind ++ (p.name ++ slash ∷ []);
        own = p;
        whole = sym (append_assoc scope.dataset behind (p.name ++ slash ∷ []))
            ∙ (ap (λ xs. xs ++ (p.name ++ slash ∷ [])) (starts_split p.dataset scope.dataset m.1.1.0) ∙ (sym (append_assoc p.dataset p.name (slash ∷ [])) ∙ m.1.1.1.1.1));
        deep = deep;
        within = subst (λ n. (depth ≡ 0) ⊎ (n < depth)) (sym (levels_more behind (p.name ++ slash ∷ []) ∙ ap (λ n. levels behind + n) (levels_name p.name name))) (reached_within depth (levels behind) m.1.1.1.0);
        entry = own;
        named = component_named p.name (second_so _ _ m.1.1.1.1.0);
        exists = exists_own records formed d p own ∙ or_right _ _ (ap (λ o. option_map_or makes_dataset o false) m.1.0 ∙ makes);
      }

  pub only_beneath : Contains (datasets_of records scope) d → (d ≡ scope.dataset) ⊎ IsBeneath records scope d
  only_beneath =
      elim scope.depth as (λ depth. scope.depth ≡ depth → Contains (scope.dataset ∷ option_map_or (beneath records scope.dataset) depth []) d → (d ≡ scope.dataset) ⊎ IsBeneath records scope d) [
        | None ↦ λ e k. either (first_or scope.dataset d [] k) (λ s. inl (sym s)) (λ l. nowhere d l)
        | Some depth ↦ λ e k. either (first_or scope.dataset d (beneath records scope.dataset depth) k) (λ s. inl (sym s)) (λ l. inr (beneath_by depth e l))
      ] refl

  in_beneath : (b : IsBeneath records scope d) → (b.rest ≡ [] → ⊥) → Contains (beneath records scope.dataset b.depth) d
  unfolding beneath
  in_beneath b more =
      let own = (own_entry_law d b.own).0 b.entry in
      let m = made_there records formed d b.own b.entry b.exists in
      let parts = prefix scope.dataset b.own.dataset b.own.name b.rest ends own.0.name more (b.whole ∙ (sym own.1 ∙ append_assoc b.own.dataset b.own.name (slash ∷ []))) in
      let behind : List ℕ = drop (length scope.dataset) b.own.dataset in
      let count : levels b.rest ≡ levels behind + 1 = sym (ap levels parts.1) ∙ (levels_more behind (b.own.name ++ slash ∷ []) ∙ ap (λ n. levels behind + n) (levels_name b.own.name own.0.name)) in
      let near : is_reached b.depth (levels behind) ≡ true = within_reached b.depth (levels behind) (subst (λ n. (b.depth ≡ 0) ⊎ (n < b.depth)) count b.within) in
      in_made (reached_by scope.dataset b.depth) (filter (lies records formed scope.dataset) (map.entries records)) (b.own, m.0) d
      (in_filter (lies records formed scope.dataset) (map.entries records) (b.own, m.0) (in_kept records b.own m.0 m.1.0) parts.0)
      ((λ i. cond (near i) (cond (and_from _ _ m.1.1 (named_component b.own.name b.named own.0.name) i) (Some (full_path b.own ++ slash ∷ [])) None) None) ∙ ap Some own.1)

  pub all_beneath : (d ≡ scope.dataset) ⊎ IsBeneath records scope d → Contains (datasets_of records scope) d
  all_beneath (inl e) = at_first scope.dataset d (option_map_or (beneath records scope.dataset) scope.depth []) (sym e)
  all_beneath (inr b) =
      subst (λ depth. Contains (scope.dataset ∷ option_map_or (beneath records scope.dataset) depth []) d) (sym b.deep)
      (some_rest b.rest (λ e. at_first scope.dataset d (beneath records scope.dataset b.depth) (sym (append-nil scope.dataset) ∙ (ap (λ rest. scope.dataset ++ rest) (sym e) ∙ b.whole)))
      (λ more. Contains-there scope.dataset d (beneath records scope.dataset b.depth) (in_beneath b more)))

pub scope_law : ScopeLaw
scope_law = record {
  members = λ records scope dataset sound exists. (only_beneath records sound.formed scope (closed records sound.formed scope.dataset exists) dataset, all_beneath records sound.formed scope (closed records sound.formed scope.dataset exists) dataset);
  once = λ records scope sound. datasets_once records sound.formed scope;
}

-- ---- what is found

some_record : (o : Option Record) → is_some o ≡ true → (r : Record) × (o ≡ Some r)
some_record None h = absurd (cc (h))
some_record (Some r) h = (r, refl)

module _ (nothing : NothingLaw) (names : NamesLaw) (records : Stored) (realm : Realm) (user : List ℕ) (sound : IsSoundStore records) where
  paths_once : (scope : Scope) → EachOnce (sight_of records realm user scope).paths
  paths_once scope =
      let all : EachOnce (paths_of records scope) =
      once_flat (paths_in records scope.no_inherit) (λ p. p.dataset)
      (λ d. once_same (λ name. record { dataset = d; name = name }) (λ x y e. ap (λ (p : Path). p.name) e) (names_on records (chain_of records d scope.no_inherit)) (names_once _ (names.rising records (chain_of records d scope.no_inherit))))
      (λ d p k. let m = from_map (λ name. record { dataset = d; name = name }) (names_on records (chain_of records d scope.no_inherit)) p k in ap (λ (p : Path). p.dataset) (sym m.1.1))
      (datasets_of records scope) (datasets_once records sound.formed scope) in
      subst EachOnce (plain _) (once_sorted (λ p. p) full_path_lt _ (once_filter (λ p. p) _ (paths_of records scope) (subst EachOnce (sym (plain (paths_of records scope))) all)))

  module _ (sought : SearchSpec) (exists : dataset_exists records sought.dataset ≡ true) where
    abbrev pub sight : Sight
    sight = sight_of records realm user (scope_of sought)

    well_formed : (p : Path) → Contains sight.paths p → IsSplit p
    well_formed p k =
        let s = only_seen nothing names records realm user (scope_of sought) p k in
        let chain : List (List ℕ) = chain_of records p.dataset sought.no_inherit in
        let at = one_of_any (λ d. is_some (record_at records d p.name)) chain (sym (names.names records chain p.name) ∙ named nothing names records realm user (scope_of sought) p s.1) in
        let r = some_record (record_at records at.0 p.name) at.1 in
        record { dataset = closed_in records sound.formed (scope_of sought) exists p.dataset s.0; name = (form_law.split _ (sound.formed _ r.0 r.1)).name }

    pub found_at : (p : Path) (m : Match) → tuple_of sight sought p ≡ Some m → (m.path ≡ p) × (m.row.name ≡ name_told sought.depth p)
    found_at p m e =
        let same = (made_is (is_among sight.paths p) (holds sought.key None (sight.answers p)) (match_of sought p (sight.answers p) (stars_of (sight.answers p).read (sight.attributes p))) m e).1.1 in
        (ap (λ (m : Match). m.path) (sym same), ap (λ (m : Match). m.row.name) (sym same))

    same_full : (p q : Path) → Contains sight.paths p → Contains sight.paths q → full_path_cmp p q ≡ Equal → p ≡ q
    same_full p q k l e = full_paths.same p q (well_formed p k) (well_formed q l) e

    pub in_one : (p : Path) → Contains sight.paths p → sought.depth ≡ None → p.dataset ≡ sought.dataset
    in_one p k e =
        let s = (only_seen nothing names records realm user (scope_of sought) p k).0 in
        let one : Contains (sought.dataset ∷ []) p.dataset = subst (λ depth. Contains (sought.dataset ∷ option_map_or (beneath records sought.dataset) depth []) p.dataset) e s in
        either (first_or sought.dataset p.dataset [] one) (λ same. sym same) (λ l. nowhere p.dataset l)

    told_apart : (p q : Path) → Contains sight.paths p → Contains sight.paths q → (depth : Option ℕ) → sought.depth ≡ depth → name_told depth p ≡ name_told depth q → p ≡ q
    told_apart p q k l (Some depth) deep e = same_full p q k l (ap (λ x. octets_cmp x (full_path q)) e ∙ tied_itself nat_list_cmp_total (full_path q))
    told_apart p q k l None deep e = let same : p.dataset ≡ q.dataset = in_one p k deep ∙ sym (in_one q l deep) in λ i. record { dataset = same i; name = e i }

    matched_once : EachOnce (each (λ (m : Match). m.row.name) (filter_map (tuple_of sight sought) sight.paths))
    matched_once =
        once_made (tuple_of sight sought) (λ (m : Match). m.row.name) (λ p. p) sight.paths
        (λ p q a b k l e f same. told_apart p q k l sought.depth refl (sym (found_at p a e).1 ∙ (same ∙ (found_at q b f).1)))
        (subst EachOnce (sym (plain sight.paths)) (paths_once (scope_of sought)))

    in_order : (sort : Option (List SortItem)) (ms : List Match) → EachOnce (each (λ (m : Match). m.row.name) ms) → EachOnce (each (λ (m : Match). m.row.name) (ordered_by sort ms))
    in_order None ms h = h
    in_order (Some sort) ms h = once_sorted (λ (m : Match). m.row.name) match_lt ms h

    pub from_ordered : (sort : Option (List SortItem)) (ms : List Match) (m : Match) → Contains (ordered_by sort ms) m → Contains ms m
    from_ordered None ms m k = k
    from_ordered (Some sort) ms m k = from_order match_lt ms m k

    path_of : (m : Match) → Contains (fresh_of sight sought) m → Contains sight.paths m.path
    path_of m k =
        let w = from_made (tuple_of sight sought) sight.paths m (from_ordered sought.sort _ m k) in
        subst (λ p. Contains sight.paths p) (sym (found_at w.0 m w.1.1).0) w.1.0

    pub fresh_once : EachOnce (each (λ (m : Match). m.row.name) (fresh_of sight sought))
    fresh_once = in_order sought.sort _ matched_once

    one_path : (a b : Match) → Contains (fresh_of sight sought) a → Contains (fresh_of sight sought) b → match_cmp a b ≡ Equal → a.path ≡ b.path
    one_path a b k l e = same_full a.path b.path (path_of a k) (path_of b l) (second_Equal _ _ e)

pub once_law : NothingLaw → NamesLaw → OnceLaw
once_law nothing names = record {
  paths = λ records realm user scope sound. paths_once nothing names records realm user sound scope;
  names = λ records realm user sought sound exists. fresh_once nothing names records realm user sound sought exists;
  ties = λ records realm user sought sound exists. one_path nothing names records realm user sound sought exists;
}
