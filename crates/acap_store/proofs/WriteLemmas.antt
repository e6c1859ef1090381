-- What the loops that write need of the definitions.
use Rattle.std.proofs.Common.{◌≡◌, ℕ, zero, suc, ◌<◌, ◌≤◌, Bool, true, false, cond, T, subst, List, [], ◌∷◌, ◌++◌, length, map, Some, None, refl, sym, ap, ◌∙◌, arith}
use Rattle.std.specs.Prelude.{take, filter, ◌-◌}
use Rattle.std.specs.Option.{option_map_or}
use Rattle.std.specs.FinMap as table
use Rattle.std.specs.FinMap.{put, is_sorted, empty_of_len}
use Rattle.std.specs.FinMap.Entries.{by_order, below_all}
use Rattle.acap_ordmap.specs.Sorted.{put_in, InOrder}
use Rattle.acap_entries.specs.Store.{path_cmp}
use Rattle.acap_ordmap.proofs.MapLemmas.{from_sorted_none, insert_kept}
use Rattle.acap_entries.proofs.StoreLemmas.{path_cmp_total}
use Rattle.acap_entries.specs.Names.{own_entry, dataset_of, name_of, dataset_len}
use Rattle.acap_entries.specs.Store.{Stored, Written}
use Rattle.acap_entries.specs.declared.path.Path.{Path}
use Rattle.acap_entries.specs.declared.change.RecordEdit.{RecordEdit}
use Rattle.acap_ordmap.proofs.Logic.{true_from_T, first_T, second_T, Less_from_T}
use Rattle.acap_commands.specs.declared.store.StoreEntry.{StoreEntry}
use Rattle.acap_commands.specs.declared.store.StoreItem.{StoreItem}
use Rattle.acap_store.specs.Writing.{Celled, Listed, put_all, with_value, with_values, with_list, with_lists, missing_within, missing_to, missing_for, own_if_missing}

pub put_all_append : (front back : List (Path × RecordEdit)) (w : Written) → put_all (front ++ back) w ≡ put_all front (put_all back w)
put_all_append [] back w = refl
put_all_append (x ∷ front) back w = ap (λ m. table.insert m x.0 x.1) (put_all_append front back w)

-- what comes before all the others stands first
put_first : (k : Path) (v : RecordEdit) (es : List (Path × RecordEdit)) → T (below_all path_cmp k es) → put_in path_cmp k v es ≡ (k, v) ∷ es
unfolding put_in
put_first k v [] h = refl
put_first k v (e ∷ es) h = ap (λ r. by_order r ((k, v) ∷ e ∷ es) ((e.0, v) ∷ es) (e ∷ put path_cmp k v es)) (Less_from_T _ (first_T _ _ h))

ascending : (es : List (Path × RecordEdit)) → T (is_sorted path_cmp es) → put_all es table.empty ≡ table.from_sorted es
ascending [] h = sym (from_sorted_none path_cmp)
ascending (e ∷ es) h =
    ap (λ w. table.insert w e.0 e.1) (ascending es (second_T _ _ h))
    ∙ sym (insert_kept path_cmp path_cmp_total es e.0 e.1 (record { rises = true_from_T _ (second_T _ _ h) }))
    ∙ ap table.from_sorted (put_first e.0 e.1 es (first_T _ _ h))

-- writes over none, by ascending paths, are what they are as a list
pub put_all_ascending : (es : List (Path × RecordEdit)) (w : Written) → table.len w ≡ 0 → InOrder path_cmp es → put_all es w ≡ table.from_sorted es
put_all_ascending es w none h = ap (put_all es) (empty_of_len w none) ∙ ascending es (subst T (sym h.rises) tt)

pub with_values_push : (user : List ℕ) (p : Path) (cells : Celled) (items : List StoreItem) (item : StoreItem) → with_values user p cells (items ++ item ∷ []) ≡ with_value user p (with_values user p cells items) item
with_values_push user p cells [] item = refl
with_values_push user p cells (x ∷ items) item = with_values_push user p (with_value user p cells x) items item

pub with_lists_push : (acls : Listed) (items : List StoreItem) (item : StoreItem) → with_lists acls (items ++ item ∷ []) ≡ with_list (with_lists acls items) item
with_lists_push acls [] item = refl
with_lists_push acls (x ∷ items) item = with_lists_push (with_list acls x) items item

map_append : {A B : Type 0} (f : A → B) (xs ys : List A) → map f (xs ++ ys) ≡ map f xs ++ map f ys
map_append f [] ys = refl
map_append f (x ∷ xs) ys = ap (λ t. f x ∷ t) (map_append f xs ys)

both_put : (f : Path → Path × RecordEdit) (xs ys : List Path) (w : Written) → put_all (map f (xs ++ ys)) w ≡ put_all (map f xs) (put_all (map f ys) w)
both_put f xs ys w = ap (λ t. put_all t w) (map_append f xs ys) ∙ put_all_append (map f xs) (map f ys) w

-- ---- the way to a dataset

no_longer : (n : ℕ) (xs : List ℕ) → length (take n xs) ≤ length xs
no_longer zero xs = omega arith
no_longer (suc n) [] = omega arith
no_longer (suc n) (x ∷ xs) = omega (arith, no_longer n xs)

cut_shorter : (n : ℕ) (xs : List ℕ) → length (take n xs) ≤ n
cut_shorter zero xs = omega arith
cut_shorter (suc n) [] = omega arith
cut_shorter (suc n) (x ∷ xs) = omega (arith, cut_shorter n xs)

parent_within : (text : List ℕ) → length (dataset_of text) ≤ length text
unfolding dataset_of
parent_within text = no_longer (dataset_len text) text

-- a parent's name is shorter
parent_of : (b : Bool) (d p n : List ℕ) (own : List ℕ × List ℕ) → length p ≤ length d → cond b (Some (p, n)) None ≡ Some own → length own.0 ≤ length d
parent_of true d p n own h e = let same : p ≡ own.0 = cc in omega (arith, ap length same, h)
parent_of false d p n own h e = cc

pub parent_shorter : (d : List ℕ) (own : List ℕ × List ℕ) → own_entry d ≡ Some own → length own.0 < length d
parent_shorter [] own e = cc
parent_shorter (x ∷ d) own e =
    let path = take (length (x ∷ d) - 1) (x ∷ d) in
    let shorter : length path ≤ length d = omega (arith, cut_shorter (length (x ∷ d) - 1) (x ∷ d)) in
    let within : length (dataset_of path) ≤ length d = omega (arith, parent_within path, shorter) in
    omega (arith, parent_of _ d (dataset_of path) (name_of path) own within e)

-- as many steps as the name has octets are enough
enough : (records : Stored) (n m : ℕ) (d : List ℕ) → length d ≤ n → length d ≤ m → missing_within n records d ≡ missing_within m records d
enough records zero zero d p q = refl
enough records zero (suc m) [] p q = refl
enough records zero (suc m) (x ∷ d) p q = absurd (omega (arith, p))
enough records (suc n) zero [] p q = refl
enough records (suc n) zero (x ∷ d) p q = absurd (omega (arith, q))
enough records (suc n) (suc m) d p q =
    elim (own_entry d) as (λ o. own_entry d ≡ o → option_map_or (λ own. missing_within n records own.0 ++ own_if_missing records d own) o [] ≡ option_map_or (λ own. missing_within m records own.0 ++ own_if_missing records d own) o []) [
      | None ↦ λ e. refl
      | (Some own) ↦ λ e.
          let less = parent_shorter d own e in
          ap (λ t. t ++ own_if_missing records d own) (enough records n m own.0 (omega (arith, p, less)) (omega (arith, q, less)))
    ] refl

-- the missing ones on the way to a dataset are those on the way to its parent, and perhaps itself
pub missing_by : (records : Stored) (d : List ℕ) (own : List ℕ × List ℕ) → own_entry d ≡ Some own → missing_to records d ≡ missing_to records own.0 ++ own_if_missing records d own
missing_by records [] own e = cc
missing_by records (x ∷ d) own e =
    let less = parent_shorter (x ∷ d) own e in
    ap (λ o. option_map_or (λ own. missing_within (length d) records own.0 ++ own_if_missing records (x ∷ d) own) o []) e
    ∙ ap (λ t. t ++ own_if_missing records (x ∷ d) own) (enough records (length d) (length own.0) own.0 (omega (arith, less)) (omega arith))

pub way_up : (records : Stored) (f : Path → Path × RecordEdit) (d : List ℕ) (own : List ℕ × List ℕ) (w : Written) → own_entry d ≡ Some own → put_all (map f (missing_to records own.0)) (put_all (map f (own_if_missing records d own)) w) ≡ put_all (map f (missing_to records d)) w
way_up records f d own w e = sym (ap (λ t. put_all (map f t) w) (missing_by records d own e) ∙ both_put f (missing_to records own.0) (own_if_missing records d own) w)

pub none_within : (records : Stored) (n : ℕ) (d : List ℕ) → own_entry d ≡ None → missing_within n records d ≡ []
none_within records zero d e = refl
none_within records (suc n) d e = ap (λ o. option_map_or (λ own. missing_within n records own.0 ++ own_if_missing records d own) o []) e

-- ---- the entries, from the last to the first

append_assoc : {A : Type 0} (xs ys zs : List A) → (xs ++ ys) ++ zs ≡ xs ++ (ys ++ zs)
append_assoc [] ys zs = refl
append_assoc (x ∷ xs) ys zs = ap (λ t. x ∷ t) (append_assoc xs ys zs)

append_none : {A : Type 0} (xs : List A) → xs ++ [] ≡ xs
append_none [] = refl
append_none (x ∷ xs) = ap (λ t. x ∷ t) (append_none xs)

missing_push : (records : Stored) (entries : List StoreEntry) (e : StoreEntry) → missing_for records (entries ++ e ∷ []) ≡ missing_for records entries ++ missing_to records e.path.dataset
missing_push records [] e = append_none (missing_to records e.path.dataset)
missing_push records (x ∷ entries) e = ap (λ t. missing_to records x.path.dataset ++ t) (missing_push records entries e) ∙ sym (append_assoc (missing_to records x.path.dataset) (missing_for records entries) (missing_to records e.path.dataset))

pub last_entry : (records : Stored) (f : Path → Path × RecordEdit) (entries : List StoreEntry) (e : StoreEntry) (w : Written) → put_all (map f (missing_for records entries)) (put_all (map f (missing_to records e.path.dataset)) w) ≡ put_all (map f (missing_for records (entries ++ e ∷ []))) w
last_entry records f entries e w = sym (ap (λ t. put_all (map f t) w) (missing_push records entries e) ∙ both_put f (missing_for records entries) (missing_to records e.path.dataset) w)

-- ---- what a loop keeps of a list

pub filter_append : {A : Type 0} (test : A → Bool) (xs ys : List A) → filter test (xs ++ ys) ≡ filter test xs ++ filter test ys
filter_append test [] ys = refl
filter_append test (x ∷ xs) ys = elim (test x) as (λ b. cond b (x ∷ filter test (xs ++ ys)) (filter test (xs ++ ys)) ≡ cond b (x ∷ filter test xs) (filter test xs) ++ filter test ys) [
  | true ↦ ap (λ t. x ∷ t) (filter_append test xs ys)
  | false ↦ filter_append test xs ys
]
