-- Of the datasets of a scope exactly the entries that are seen are in sight.
use Rattle.std.proofs.Common.{◌≡◌, ℕ, zero, suc, ◌<◌, ◌⊎◌, inl, inr, Bool, true, false, not, cond, Option, Some, None, List, [], ◌∷◌, length, refl, sym, ◌∙◌, ap, subst, arith, flat_map, codes, map as each}
use Rattle.std.proofs.lemmas.Bool.{or_parts}
use Rattle.std.specs.List.{filter, list_any, Contains}
use Rattle.std.specs.Option.{is_some}
use Rattle.std.specs.Cmp.Lexicographic.{bytes_decides}
use Rattle.std.proofs.lemmas.Map.Views.{Contains-from_any}
use Rattle.std.proofs.lemmas.List.Elements.{Contains-append_left, Contains-append_right, Contains-append_cases}
use Rattle.acap_entries.specs.Orders.{octets_eq}
use Rattle.acap_entries.specs.Store.{Stored}
use Rattle.acap_entries.specs.declared.path.Path.{Path}
use Rattle.acap_entries.specs.declared.record.Record.{Record}
use Rattle.acap_ordmap.proofs.Logic.{Contains-here, Contains-there}
use Rattle.acap_inherit.specs.Chains.{chain_of}
use Rattle.acap_inherit.specs.EntryNames.{names_on}
use Rattle.acap_inherit.specs.Laws.{NothingLaw, NamesLaw}
use Rattle.acap_inherit.specs.Records.{record_at}
use Rattle.acap_inherit.specs.Resolving.{Resolution, lookup}
use Rattle.acap_rights.specs.declared.realm.Realm.{Realm}
use Rattle.acap_search.specs.Fresh.{Sight, answers_on, paths_in, paths_of, full_path_lt, sight_of, is_among, tuple_of}
use Rattle.acap_search.specs.Laws.{SeenLaw, TupleLaw}
use Rattle.acap_search.specs.Matches.{put_by, sorted_from, sorted_by}
use Rattle.acap_search.specs.Scopes.{Scope, scope_of, datasets_of}
use Rattle.acap_search.specs.Sight.{Answers, is_seen, is_nil, cell_at, may_read, rights_on}
use Rattle.acap_search.specs.declared.query.SearchSpec.{SearchSpec}
use Rattle.acap_search.proofs.TupleLemmas.{from_among, tuple_at, tuple_inside}

-- ---- what lists contain

pub first_or : {A : Type 0} (x y : A) (xs : List A) → Contains (x ∷ xs) y → (x ≡ y) ⊎ Contains xs y
first_or x y xs (zero, lt, e) = inl e
first_or x y xs (suc k, lt, e) = let less : k < length xs = omega (arith, lt) in inr (k, less, e)

pub nowhere : {A : Type 0} {P : Type 0} (x : A) → Contains [] x → P
nowhere x h = absurd (omega (arith, h.1))

pub either : {P Q R : Type 0} → P ⊎ Q → (P → R) → (Q → R) → R
either (inl p) f g = f p
either (inr q) f g = g q

pub at_first : {A : Type 0} (x y : A) (xs : List A) → x ≡ y → Contains (x ∷ xs) y
at_first x y xs e = subst (λ z. Contains (x ∷ xs) z) e (Contains-here x xs)

pub in_map : {A B : Type 0} (f : A → B) (xs : List A) (x : A) → Contains xs x → Contains (each f xs) (f x)
in_map f [] x h = nowhere x h
in_map f (y ∷ ys) x h = either (first_or y x ys h) (λ e. at_first (f y) (f x) (each f ys) (ap f e)) (λ k. Contains-there (f y) (f x) (each f ys) (in_map f ys x k))

pub from_map : {A B : Type 0} (f : A → B) (xs : List A) (z : B) → Contains (each f xs) z → (x : A) × (Contains xs x × (f x ≡ z))
from_map f [] z h = nowhere z h
from_map f (y ∷ ys) z h = either (first_or (f y) z (each f ys) h) (λ e. (y, (Contains-here y ys, e))) (λ k. let r = from_map f ys z k in (r.0, (Contains-there y r.0 ys r.1.0, r.1.1)))

in_all : {A B : Type 0} (f : A → List B) (xs : List A) (x : A) (z : B) → Contains xs x → Contains (f x) z → Contains (flat_map f xs) z
in_all f [] x z h k = nowhere x h
in_all f (y ∷ ys) x z h k = either (first_or y x ys h) (λ e. Contains-append_left (f y) (flat_map f ys) z (subst (λ w. Contains (f w) z) (sym e) k)) (λ l. Contains-append_right (f y) (flat_map f ys) z (in_all f ys x z l k))

pub from_all : {A B : Type 0} (f : A → List B) (xs : List A) (z : B) → Contains (flat_map f xs) z → (x : A) × (Contains xs x × Contains (f x) z)
from_all f [] z h = nowhere z h
from_all f (y ∷ ys) z h = either (Contains-append_cases (f y) (flat_map f ys) z h) (λ k. (y, (Contains-here y ys, k))) (λ k. let r = from_all f ys z k in (r.0, (Contains-there y r.0 ys r.1.0, r.1.1)))

pub in_filter : {A : Type 0} (p : A → Bool) (xs : List A) (x : A) → Contains xs x → p x ≡ true → Contains (filter p xs) x
in_filter p [] x h e = nowhere x h
in_filter p (y ∷ ys) x h e =
    elim (p y) as (λ b. p y ≡ b → Contains (cond b (y ∷ filter p ys) (filter p ys)) x) [
      | true ↦ λ t. either (first_or y x ys h) (λ same. at_first y x (filter p ys) same) (λ k. Contains-there y x (filter p ys) (in_filter p ys x k e))
      | false ↦ λ t. either (first_or y x ys h) (λ same. absurd (cc (t, e, ap p same))) (λ k. in_filter p ys x k e)
    ] refl

pub from_filter : {A : Type 0} (p : A → Bool) (xs : List A) (x : A) → Contains (filter p xs) x → Contains xs x × (p x ≡ true)
from_filter p [] x h = nowhere x h
from_filter p (y ∷ ys) x h =
    elim (p y) as (λ b. p y ≡ b → Contains (cond b (y ∷ filter p ys) (filter p ys)) x → Contains (y ∷ ys) x × (p x ≡ true)) [
      | true ↦ λ t h. either (first_or y x (filter p ys) h) (λ same. (at_first y x ys same, sym (ap p same) ∙ t)) (λ k. let r = from_filter p ys x k in (Contains-there y x ys r.0, r.1))
      | false ↦ λ t h. let r = from_filter p ys x h in (Contains-there y x ys r.0, r.1)
    ] refl h

module _ {A : Type 0} (lt : A → A → Bool) where
  in_put : (x : A) (ys : List A) (z : A) → Contains (x ∷ ys) z → Contains (put_by lt x ys) z
  in_put x [] z h = h
  in_put x (y ∷ ys) z h =
      elim (lt y x) as (λ b. Contains (cond b (y ∷ put_by lt x ys) (x ∷ y ∷ ys)) z) [
        | true ↦ either (first_or x z (y ∷ ys) h)
            (λ e. Contains-there y z (put_by lt x ys) (in_put x ys z (at_first x z ys e)))
            (λ k. either (first_or y z ys k) (λ e. at_first y z (put_by lt x ys) e) (λ l. Contains-there y z (put_by lt x ys) (in_put x ys z (Contains-there x z ys l))))
        | false ↦ h
      ]

  pub from_put : (x : A) (ys : List A) (z : A) → Contains (put_by lt x ys) z → Contains (x ∷ ys) z
  from_put x [] z h = h
  from_put x (y ∷ ys) z h =
      elim (lt y x) as (λ b. Contains (cond b (y ∷ put_by lt x ys) (x ∷ y ∷ ys)) z → Contains (x ∷ y ∷ ys) z) [
        | true ↦ λ h. either (first_or y z (put_by lt x ys) h)
            (λ e. Contains-there x z (y ∷ ys) (at_first y z ys e))
            (λ k. either (first_or x z ys (from_put x ys z k)) (λ e. at_first x z (y ∷ ys) e) (λ l. Contains-there x z (y ∷ ys) (Contains-there y z ys l)))
        | false ↦ λ h. h
      ] h

  in_sorted : (xs : List A) (z : A) → Contains xs z → Contains (sorted_from lt xs) z
  in_sorted [] z h = h
  in_sorted (x ∷ xs) z h = in_put x (sorted_from lt xs) z (either (first_or x z xs h) (λ e. at_first x z (sorted_from lt xs) e) (λ k. Contains-there x z (sorted_from lt xs) (in_sorted xs z k)))

  pub from_sorted : (xs : List A) (z : A) → Contains (sorted_from lt xs) z → Contains xs z
  from_sorted [] z h = h
  from_sorted (x ∷ xs) z h = either (first_or x z (sorted_from lt xs) (from_put x (sorted_from lt xs) z h)) (λ e. at_first x z xs e) (λ k. Contains-there x z xs (from_sorted xs z k))

  in_order : (xs : List A) (z : A) → Contains xs z → Contains (sorted_by lt xs) z
  unfolding sorted_by
  in_order xs z h = in_sorted xs z h

  pub from_order : (xs : List A) (z : A) → Contains (sorted_by lt xs) z → Contains xs z
  unfolding sorted_by
  from_order xs z h = from_sorted xs z h

-- ---- names

pub same_name : (a b : List ℕ) → octets_eq a b ≡ true → a ≡ b
same_name a b e = (bytes_decides a b).0 e

no_record : (o : Option Record) → is_some o ≡ false → o ≡ None
no_record None h = refl
no_record (Some r) h = absurd (cc)

pub not_any : {A : Type 0} (p : A → Bool) (xs : List A) (x : A) → list_any p xs ≡ false → Contains xs x → p x ≡ false
not_any p [] x h k = nowhere x k
not_any p (y ∷ ys) x h k =
    let two = or_parts (p y) (list_any p ys) h in
    either (first_or y x ys k) (λ e. sym (ap p e) ∙ two.0) (λ l. not_any p ys x two.1 l)

module _ (nothing : NothingLaw) (names : NamesLaw) (records : Stored) (realm : Realm) (user : List ℕ) (scope : Scope) where
  abbrev chain_at : Path → List (List ℕ)
  chain_at path = chain_of records path.dataset scope.no_inherit

  pub unseen : (path : Path) → ((d : List ℕ) → Contains (chain_at path) d → record_at records d path.name ≡ None) → is_seen (answers_on records realm user scope.no_inherit path) ≡ false
  unseen path h =
      let e : lookup records (chain_at path) path.name (codes "entry") ≡ None = ((nothing.entry records (chain_at path) path.name h).2) (codes "entry") in
      ap (λ (found : Resolution). not (is_nil (cell_at may_read (rights_on records realm user (codes "entry") path.name path.dataset) (λ d. rights_on records realm user (codes "entry") path.name d) found))) e

  pub named : (path : Path) → is_seen (answers_on records realm user scope.no_inherit path) ≡ true → list_any (octets_eq path.name) (names_on records (chain_at path)) ≡ true
  named path seen =
      elim (list_any (λ d. is_some (record_at records d path.name)) (chain_at path)) as (λ b. list_any (λ d. is_some (record_at records d path.name)) (chain_at path) ≡ b → list_any (octets_eq path.name) (names_on records (chain_at path)) ≡ true) [
        | true ↦ λ e. names.names records (chain_at path) path.name ∙ e
        | false ↦ λ e. absurd (cc (seen, unseen path (λ d k. no_record _ (not_any (λ d. is_some (record_at records d path.name)) (chain_at path) d e k))))
      ] refl

  pub all_seen : (path : Path) → Contains (datasets_of records scope) path.dataset → is_seen (answers_on records realm user scope.no_inherit path) ≡ true → Contains (sight_of records realm user scope).paths path
  all_seen path h seen =
      let name : Contains (names_on records (chain_at path)) path.name = Contains-from_any same_name path.name (names_on records (chain_at path)) (named path seen) in
      let there_is : Contains (paths_in records scope.no_inherit path.dataset) path = in_map (λ name. record { dataset = path.dataset; name = name }) (names_on records (chain_at path)) path.name name in
      in_order full_path_lt _ path (in_filter _ (paths_of records scope) path (in_all (paths_in records scope.no_inherit) (datasets_of records scope) path.dataset path h there_is) seen)

  pub only_seen : (path : Path) → Contains (sight_of records realm user scope).paths path → Contains (datasets_of records scope) path.dataset × (is_seen (answers_on records realm user scope.no_inherit path) ≡ true)
  only_seen path h =
      let kept = from_filter (λ path. is_seen (answers_on records realm user scope.no_inherit path)) (paths_of records scope) path (from_order full_path_lt _ path h) in
      let place = from_all (paths_in records scope.no_inherit) (datasets_of records scope) path kept.0 in
      let name = from_map (λ name. record { dataset = place.0; name = name }) (names_on records (chain_of records place.0 scope.no_inherit)) path place.1.1 in
      let same : place.0 ≡ path.dataset = ap (λ (p : Path). p.dataset) name.1.1 in
      (subst (λ d. Contains (datasets_of records scope) d) same place.1.0, kept.1)

pub seen_law : NothingLaw → NamesLaw → SeenLaw
seen_law nothing names = record {
  all = λ records realm user scope path. all_seen nothing names records realm user scope path;
  only = λ records realm user scope path. only_seen nothing names records realm user scope path;
}

module _ (nothing : NothingLaw) (names : NamesLaw) (records : Stored) (realm : Realm) (user : List ℕ) (sought : SearchSpec) (path : Path) where
  abbrev sight : Sight
  sight = sight_of records realm user (scope_of sought)

  abbrev answers : Answers
  answers = answers_on records realm user sought.no_inherit path

  out_of_sight : is_among sight.paths path ≡ false → tuple_of sight sought path ≡ None
  out_of_sight e = ap (λ b. cond b (tuple_at sight sought path) None) e

  outside : (Contains (datasets_of records (scope_of sought)) path.dataset → ⊥) → tuple_of sight sought path ≡ None
  outside h =
      elim (is_among sight.paths path) as (λ b. is_among sight.paths path ≡ b → tuple_of sight sought path ≡ None) [
        | true ↦ λ e. absurd (h (only_seen nothing names records realm user (scope_of sought) path (from_among sight.paths path e)).0)
        | false ↦ out_of_sight
      ] refl

  inside : Contains (datasets_of records (scope_of sought)) path.dataset → tuple_of sight sought path ≡ cond (is_seen answers) (tuple_at sight sought path) None
  inside h =
      elim (is_seen answers) as (λ b. is_seen answers ≡ b → tuple_of sight sought path ≡ cond b (tuple_at sight sought path) None) [
        | true ↦ λ e. tuple_inside sight sought path (all_seen nothing names records realm user (scope_of sought) path h e)
        | false ↦ λ e. elim (is_among sight.paths path) as (λ b. is_among sight.paths path ≡ b → tuple_of sight sought path ≡ None) [
          | true ↦ λ f. absurd (cc (e, (only_seen nothing names records realm user (scope_of sought) path (from_among sight.paths path f)).1))
          | false ↦ out_of_sight
        ] refl
      ] refl

pub tuple_law : NothingLaw → NamesLaw → TupleLaw
tuple_law nothing names = record {
  outside = λ records realm user sought path. outside nothing names records realm user sought path;
  inside = λ records realm user sought path. inside nothing names records realm user sought path;
  found = λ records realm user sought path k. sym (inside nothing names records realm user sought path k);
}
