-- Datasets, their own entries and the ways to them.
use Rattle.std.proofs.Common.{◌≡◌, ℕ, zero, suc, Bool, true, false, not, cond, ◌&&◌, ◌||◌, List, [], ◌∷◌, ◌++◌, length, map, Option, Some, None, refl, sym, ap, ◌∙◌}
use Rattle.std.specs.Prelude.{find, option_map}
use Rattle.std.proofs.lemmas.List.Folds.{list_any-append}
use Rattle.std.proofs.lemmas.Slice.Eq.{bytes_eq-Decides}
use Rattle.std.specs.List.{list_any}
use Rattle.std.specs.Option.{option_map_or, option_and_then}
use Rattle.std.specs.FinMap as table
use Rattle.std.proofs.Math.Bool.{or-false, and-false, and-true}
use Rattle.std.proofs.lemmas.Bool.{and_from}
use Rattle.std.specs.Cmp.{second_so, first_so}
use Rattle.acap_entries.proofs.OwnLaws.{own_entry_law}
use Rattle.acap_entries.specs.Datasets.{dataset_exists, makes_dataset}
use Rattle.acap_entries.specs.Names.{slash, own_entry, dataset_of}
use Rattle.acap_entries.specs.Orders.{octets_eq}
use Rattle.acap_entries.specs.Store.{Stored, path_cmp}
use Rattle.acap_entries.specs.declared.change.RecordEdit.{RecordEdit}
use Rattle.acap_entries.specs.declared.path.Path.{Path}
use Rattle.acap_entries.specs.declared.record.Record.{Record}
use Rattle.acap_ordmap.proofs.Logic.{same_from_both, either_and}
use Rattle.acap_commands.specs.declared.store.StoreEntry.{StoreEntry}
use Rattle.acap_store.specs.DatasetLaws.{own_path, way_within, way_to, is_on_way}
use Rattle.acap_store.specs.Refusing.{same_path}
use Rattle.acap_store.specs.Writing.{missing_within, missing_to, missing_for, own_if_missing}
use Rattle.acap_store.proofs.StoreLaws.{path_tie}

-- ---- tests

pub not_true : (a : Bool) → (a ≡ true → false ≡ true) → a ≡ false
not_true true f = sym (f refl)
not_true false f = refl

pub octets_same : (a b : List ℕ) → octets_eq a b ≡ true → a ≡ b
octets_same a b e = (bytes_eq-Decides a b).0 e

pub octets_refl : (a b : List ℕ) → a ≡ b → octets_eq a b ≡ true
octets_refl a b e = (bytes_eq-Decides a b).1 e

pub paths_same : (p q : Path) → same_path p q ≡ true → p ≡ q
paths_same p q e =
    let dataset = octets_same p.dataset q.dataset (first_so _ _ e) in
    let name = octets_same p.name q.name (second_so _ _ e) in
    λ i. record { dataset = dataset i; name = name i }

pub paths_refl : (p q : Path) → p ≡ q → same_path p q ≡ true
paths_refl p q e = and_from _ _ (octets_refl p.dataset q.dataset (ap (λ (r : Path). r.dataset) e)) (octets_refl p.name q.name (ap (λ (r : Path). r.name) e))

-- ---- own entries

pub append_behind : (xs ys zs : List ℕ) → (xs ++ ys) ++ zs ≡ xs ++ (ys ++ zs)
append_behind [] ys zs = refl
append_behind (x ∷ xs) ys zs = ap (λ t. x ∷ t) (append_behind xs ys zs)

-- a dataset is its own entry's path with a slash after it
pub own_whole : (d : List ℕ) (own : List ℕ × List ℕ) → own_entry d ≡ Some own → own.0 ++ (own.1 ++ slash ∷ []) ≡ d
own_whole d own e = sym (append_behind own.0 own.1 (slash ∷ [])) ∙ ((own_entry_law d (own_path own)).0 e).1

-- so datasets with the same own entry are the same
pub own_tie : (d x : List ℕ) (a b : List ℕ × List ℕ) → own_entry d ≡ Some a → own_entry x ≡ Some b → same_path (own_path a) (own_path b) ≡ octets_eq d x
own_tie d x a b p q = same_from_both _ _
    (λ e. let same = paths_same (own_path a) (own_path b) e in
    octets_refl d x (sym (own_whole d a p) ∙ ap (λ (r : Path). r.dataset ++ (r.name ++ slash ∷ [])) same ∙ own_whole x b q))
    (λ e. let one : Some a ≡ Some b = sym p ∙ ap own_entry (octets_same d x e) ∙ q in
    let same : a ≡ b = cc in
    paths_refl (own_path a) (own_path b) (ap own_path same))

pub not_root : (d : List ℕ) (own : List ℕ × List ℕ) → own_entry d ≡ Some own → octets_eq d (slash ∷ []) ≡ false
unfolding dataset_of
not_root d own e = not_true _ (λ r. let root : own_entry d ≡ None = ap own_entry (octets_same d (slash ∷ []) r) in let no : Some own ≡ None = sym e ∙ root in cc)

-- such a dataset exists where the record of its own entry makes it
abbrev pub makes_at : Option Record → Bool
makes_at o = option_map_or makes_dataset o false

pub exists_by : (records : Stored) (d : List ℕ) (own : List ℕ × List ℕ) → own_entry d ≡ Some own → dataset_exists records d ≡ makes_at (table.get records (own_path own))
exists_by records d own e =
    ap (λ b. b || option_map_or makes_dataset (option_and_then (λ o. table.get records (own_path o)) (own_entry d)) false) (not_root d own e)
    ∙ ap (λ o. option_map_or makes_dataset (option_and_then (λ o. table.get records (own_path o)) o) false) e

pub exists_without : (records : Stored) (d : List ℕ) → own_entry d ≡ None → dataset_exists records d ≡ octets_eq d (slash ∷ [])
exists_without records d e =
    ap (λ o. octets_eq d (slash ∷ []) || option_map_or makes_dataset (option_and_then (λ o. table.get records (own_path o)) o) false) e ∙ or-false _

-- ---- what is missing on the ways to datasets

pub any_own : (p q : Path) (b : Bool) → list_any (same_path p) (cond b [] (q ∷ [])) ≡ (same_path p q && not b)
any_own p q true = sym (and-false (same_path p q))
any_own p q false = or-false (same_path p q) ∙ sym (and-true (same_path p q))

and_same : (a b c : Bool) → (a ≡ true → b ≡ c) → (a && not b) ≡ (a && not c)
and_same true b c f = ap not (f refl)
and_same false b c f = refl

shared : (a b n : Bool) → ((a && n) || (b && n)) ≡ ((b || a) && n)
shared true true true = refl
shared true true false = refl
shared true false true = refl
shared true false false = refl
shared false true true = refl
shared false true false = refl
shared false false true = refl
shared false false false = refl

missing_step : (records : Stored) (d x : List ℕ) (own o : List ℕ × List ℕ) → own_entry d ≡ Some own → own_entry x ≡ Some o →
    list_any (same_path (own_path own)) (own_if_missing records x o) ≡ (octets_eq d x && not (dataset_exists records d))
missing_step records d x own o p q =
    any_own (own_path own) (own_path o) (dataset_exists records x)
    ∙ ap (λ b. b && not (dataset_exists records x)) (own_tie d x own o p q)
    ∙ and_same (octets_eq d x) (dataset_exists records x) (dataset_exists records d) (λ e. ap (dataset_exists records) (sym (octets_same d x e)))

missing_one : (records : Stored) (n : ℕ) (x d : List ℕ) (own : List ℕ × List ℕ) → own_entry d ≡ Some own →
    list_any (same_path (own_path own)) (missing_within n records x) ≡ (list_any (λ step. octets_eq d step) (way_within n x) && not (dataset_exists records d))
missing_one records zero x d own p = refl
missing_one records (suc n) x d own p =
    elim (own_entry x) as (λ o. own_entry x ≡ o →
    list_any (same_path (own_path own)) (option_map_or (λ o. missing_within n records o.0 ++ own_if_missing records x o) o [])
    ≡ (list_any (λ step. octets_eq d step) (option_map_or (λ o. x ∷ way_within n o.0) o []) && not (dataset_exists records d))) [
      | None ↦ λ q. refl
      | (Some o) ↦ λ q.
          list_any-append (same_path (own_path own)) (missing_within n records o.0) (own_if_missing records x o)
          ∙ ap (λ b. b || list_any (same_path (own_path own)) (own_if_missing records x o)) (missing_one records n o.0 d own p)
          ∙ ap (λ b. (list_any (λ step. octets_eq d step) (way_within n o.0) && not (dataset_exists records d)) || b) (missing_step records d x own o p q)
          ∙ shared (list_any (λ step. octets_eq d step) (way_within n o.0)) (octets_eq d x) (not (dataset_exists records d))
    ] refl

-- the own entry of a dataset is written as a step exactly where that is on the way to an entry's path and doesn't exist
pub missing_is : (records : Stored) (entries : List StoreEntry) (d : List ℕ) (own : List ℕ × List ℕ) → own_entry d ≡ Some own →
    list_any (same_path (own_path own)) (missing_for records entries) ≡ (is_on_way entries d && not (dataset_exists records d))
missing_is records [] d own p = refl
missing_is records (e ∷ entries) d own p =
    list_any-append (same_path (own_path own)) (missing_to records e.path.dataset) (missing_for records entries)
    ∙ ap (λ b. b || list_any (same_path (own_path own)) (missing_for records entries)) (missing_one records (length e.path.dataset) e.path.dataset d own p)
    ∙ ap (λ b. (list_any (λ step. octets_eq d step) (way_to e.path.dataset) && not (dataset_exists records d)) || b) (missing_is records entries d own p)
    ∙ either_and (list_any (λ step. octets_eq d step) (way_to e.path.dataset)) (is_on_way entries d) (not (dataset_exists records d))

-- ---- what is found of a list that is written

pub found_as : {A : Type 0} (at : A → Path) (edit : A → RecordEdit) (p : Path) (xs : List A) → table.find path_cmp p (map (λ x. (at x, edit x)) xs) ≡ option_map edit (find (λ x. same_path p (at x)) xs)
found_as at edit p [] = refl
found_as at edit p (x ∷ xs) =
    ap (λ b. cond b (Some (edit x)) (table.find path_cmp p (map (λ x. (at x, edit x)) xs))) (path_tie p (at x))
    ∙ elim (same_path p (at x)) as (λ b. cond b (Some (edit x)) (table.find path_cmp p (map (λ x. (at x, edit x)) xs)) ≡ option_map edit (cond b (Some x) (find (λ x. same_path p (at x)) xs))) [
      | true ↦ refl
      | false ↦ found_as at edit p xs
    ]

-- the first that has the path: it has it
pub found_has : {A : Type 0} (test : A → Bool) (xs : List A) (y : A) → find test xs ≡ Some y → test y ≡ true
found_has test [] y = λ e. cc
found_has test (x ∷ xs) y = elim (test x) as (λ b. test x ≡ b → cond b (Some x) (find test xs) ≡ Some y → test y ≡ true) [
  | true ↦ λ t e. let same : x ≡ y = cc in ap test (sym same) ∙ t
  | false ↦ λ t e. found_has test xs y e
] refl

pub not_found_none : {A : Type 0} (test : A → Bool) (xs : List A) → list_any test xs ≡ false → find test xs ≡ None
not_found_none test [] = λ e. refl
not_found_none test (x ∷ xs) = elim (test x) as (λ b. b || list_any test xs ≡ false → cond b (Some x) (find test xs) ≡ None) [
  | true ↦ λ e. cc
  | false ↦ λ e. not_found_none test xs e
]

pub some_found : {A : Type 0} (test : A → Bool) (xs : List A) → list_any test xs ≡ true → (y : A) × (find test xs ≡ Some y)
some_found test [] = λ e. cc
some_found test (x ∷ xs) = elim (test x) as (λ b. b || list_any test xs ≡ true → (y : _) × (cond b (Some x) (find test xs) ≡ Some y)) [
  | true ↦ λ e. (x, refl)
  | false ↦ λ e. some_found test xs e
]
