-- Which paths are among the touched ones, and that a list of paths in their order is known by what is in it.
use Rattle.std.proofs.Common.{◌≡◌, ℕ, Bool, true, false, cond, T, ◌&&◌, ◌||◌, List, [], ◌∷◌, ◌++◌, map as each, Option, Some, None, arith, refl, sym, ap, subst, ◌∙◌}
use Rattle.std.specs.Prelude.{is_some, filter}
use Rattle.std.specs.FinMap as map
use Rattle.std.specs.FinMap.{IsAntisymmetric, find}
use Rattle.std.specs.FinMap.Entries.{is_some-find, same_entries}
use Rattle.std.specs.List.{list_any}
use Rattle.std.specs.declared.cmp.Ordering.{Ordering}
use Rattle.std.specs.declared.cmp.Ordering.TheVariants.{Less, Equal, Greater}
use Rattle.std.specs.Ordering.{eq_by_cmp, is_eq, ordering_then}
use Rattle.std.specs.Cmp.{IsTotalOrder, tied_itself, first_so, second_so}
use Rattle.std.specs.Cmp.Lexicographic.{nat_list_cmp_total, same_text}
use Rattle.std.proofs.lemmas.List.{append_cancel_left}
use Rattle.std.proofs.lemmas.List.Folds.{list_any-append}
use Rattle.std.proofs.lemmas.Bool.{or_left, or_right, and_from}
use Rattle.acap_entries.specs.Datasets.{dataset_exists}
use Rattle.acap_entries.specs.FullPaths.{full_path_cmp, IsSplit}
use Rattle.acap_entries.specs.Orders.{octets_cmp, octets_eq}
use Rattle.acap_ordmap.specs.Ranks.{units, Ascending}
use Rattle.acap_entries.specs.Store.{Stored, Written, IsPathByPath, path_cmp, after_edit}
use Rattle.acap_entries.specs.declared.change.RecordEdit.{RecordEdit}
use Rattle.acap_entries.specs.declared.path.Path.{Path}
use Rattle.acap_entries.specs.declared.record.Record.{Record}
use Rattle.acap_entries.proofs.FullPathLaws.{full_paths}
use Rattle.acap_ordmap.proofs.RankLaws.{rank_holds}
use Rattle.acap_ordmap.proofs.RankLemmas.{items, items_units, order_of_units}
use Rattle.acap_entries.proofs.StoreLemmas.{octets_same, path_same}
use Rattle.acap_ordmap.proofs.Logic.{Equal_from_is_eq, true_without, both_Equal, same_from_both, and_either, one_of_any, either_and, false_and}
use Rattle.acap_inherit.specs.Chains.{chain_of}
use Rattle.acap_inherit.specs.Records.{record_at}
use Rattle.acap_inherit.specs.Touched.{is_written, is_written_on, has_record_on, is_reached, is_touched, paths_known, paths_across, in_question, by_octets, octets_total, in_order, touched_paths}
use Rattle.acap_inherit.proofs.IndexLemmas.{any_with}
use Rattle.acap_inherit.proofs.MergeLemmas.{marked, itself}
use Rattle.acap_inherit.proofs.UnreadLaws.{chain_alone}
use Rattle.acap_inherit.proofs.WrittenLemmas.{has_edit, written_edit}

-- ---- tests

pub absorbed : (q t : Bool) → (t ≡ true → q ≡ true) → (q && t) ≡ t
absorbed true t h = refl
absorbed false true h = h refl
absorbed false false h = refl

pub any_weaker : {A : Type 0} (p q : A → Bool) → ((x : A) → p x ≡ true → q x ≡ true) → (xs : List A) → list_any p xs ≡ true → list_any q xs ≡ true
any_weaker p q h [] e = e
any_weaker p q h (x ∷ xs) e =
    elim (p x) as (λ b. p x ≡ b → (b || list_any p xs) ≡ true → (q x || list_any q xs) ≡ true) [
      | true ↦ λ is _. or_left _ _ (h x is)
      | false ↦ λ _ e. or_right _ _ (any_weaker p q h xs e)
    ] refl e

-- ---- the order

pub same_paths : IsAntisymmetric by_octets
same_paths a b e =
    let parts = both_Equal _ _ e in
    let full = octets_same _ _ parts.0 in
    let dataset = octets_same _ _ parts.1 in
    let name = append_cancel_left b.dataset a.name b.name (ap (λ d. d ++ a.name) (sym dataset) ∙ full) in
    λ i. record { dataset = dataset i; name = name i }

-- whether a path is that one
abbrev pub is_path : Path → Path → Bool
is_path p = eq_by_cmp by_octets p

pub path_is : (p q : Path) → is_path p q ≡ true → p ≡ q
path_is p q e = same_paths p q (Equal_from_is_eq _ e)

pub own_path : (p : Path) → is_path p p ≡ true
own_path p = ap is_eq (tied_itself octets_total p)

pub by_parts : (p q : Path) → is_path p q ≡ (octets_eq p.dataset q.dataset && octets_eq p.name q.name)
by_parts p q =
    same_from_both _ _
    (λ e. subst (λ (r : Path). (octets_eq p.dataset r.dataset && octets_eq p.name r.name) ≡ true) (path_is p q e) (and_from _ _ (itself p.dataset) (itself p.name)))
    (λ e.
    let dataset = same_text p.dataset q.dataset (sym (first_so _ _ e)) in
    let name = same_text p.name q.name (sym (second_so _ _ e)) in
    let same : p ≡ q = λ i. record { dataset = dataset i; name = name i } in
    subst (λ (r : Path). is_path p r ≡ true) same (own_path p))

-- ---- lists in an order are known by what is in them

module _ {K : Type 0} (R : K → K → Ordering) (o : IsTotalOrder R) (same : IsAntisymmetric R) where
  found_in : (xs : List K) (q : K) → is_some (find R q (units xs)) ≡ list_any (eq_by_cmp R q) xs
  found_in xs q = is_some-find R q (units xs) ∙ ap (list_any (eq_by_cmp R q)) (items_units xs)

  pub same_list : (xs ys : List K) → Ascending R xs → Ascending R ys → ((q : K) → list_any (eq_by_cmp R q) xs ≡ list_any (eq_by_cmp R q) ys) → xs ≡ ys
  same_list xs ys a b h =
      let e = same_entries R o same (units xs) (units ys) (subst T (sym (order_of_units R o xs a)) tt) (subst T (sym (order_of_units R o ys b)) tt)
      (λ q. marked _ _ (found_in xs q ∙ (h q ∙ sym (found_in ys q)))) in
      sym (items_units xs) ∙ (ap items e ∙ items_units ys)

pub order_rises : (xs : List Path) → Ascending by_octets (in_order xs)
order_rises [] = record { rises = λ i j d lt within. absurd (omega arith) }
order_rises (x ∷ xs) = (rank_holds by_octets octets_total).after_put x (in_order xs) (order_rises xs)

-- ---- what is in the list of touched paths

pub any_order : (p : Path) (xs : List Path) → list_any (is_path p) (in_order xs) ≡ list_any (is_path p) xs
any_order p [] = refl
any_order p (x ∷ xs) = any_with by_octets octets_total p x (in_order xs) ∙ ap (λ b. is_path p x || b) (any_order p xs)

abbrev pub kept : (Path → Bool) → List Path → List Path
kept f xs = filter f xs

any_kept : (f : Path → Bool) (p : Path) (xs : List Path) → list_any (is_path p) (kept f xs) ≡ (list_any (is_path p) xs && f p)
any_kept f p [] = refl
any_kept f p (x ∷ xs) =
    let rest = kept f xs in
    elim (is_path p x) as (λ t. is_path p x ≡ t → list_any (is_path p) (cond (f x) (x ∷ rest) rest) ≡ ((t || list_any (is_path p) xs) && f p)) [
      | true ↦ λ e.
          ap (λ y. list_any (is_path p) (cond (f y) (x ∷ rest) rest)) (sym (path_is p x e))
          ∙ elim (f p) as (λ b. f p ≡ b → list_any (is_path p) (cond b (x ∷ rest) rest) ≡ b) [
            | true ↦ λ _. or_left _ _ e
            | false ↦ λ n. any_kept f p xs ∙ (ap (λ b. list_any (is_path p) xs && b) n ∙ sym (false_and (list_any (is_path p) xs)))
          ] refl
      | false ↦ λ e. elim (f x) as (λ b. list_any (is_path p) (cond b (x ∷ rest) rest) ≡ (list_any (is_path p) xs && f p)) [
        | true ↦ ap (λ b. b || list_any (is_path p) rest) e ∙ any_kept f p xs
        | false ↦ any_kept f p xs
      ]
    ] refl

abbrev in_dataset : Path → Path → Bool
in_dataset p q = octets_eq p.dataset q.dataset

abbrev of_name : Path → Path → Bool
of_name p q = octets_eq p.name q.name

any_row : (p d : Path) (ns : List Path) → list_any (is_path p) (each (λ (n : Path). record { dataset = d.dataset; name = n.name }) ns) ≡ (in_dataset p d && list_any (of_name p) ns)
any_row p d [] = false_and (in_dataset p d)
any_row p d (n ∷ ns) =
    (λ i. by_parts p (record { dataset = d.dataset; name = n.name }) i || any_row p d ns i)
    ∙ and_either (in_dataset p d) (of_name p n) (list_any (of_name p) ns)

any_crossed : (p : Path) (ds ns : List Path) → list_any (is_path p) (paths_across ds ns) ≡ (list_any (in_dataset p) ds && list_any (of_name p) ns)
any_crossed p [] ns = refl
any_crossed p (d ∷ ds) ns =
    list_any-append (is_path p) (each (λ (n : Path). record { dataset = d.dataset; name = n.name }) ns) (paths_across ds ns)
    ∙ ((λ i. any_row p d ns i || any_crossed p ds ns i)
    ∙ either_and (in_dataset p d) (list_any (in_dataset p) ds) (list_any (of_name p) ns))

-- ---- what is touched is in question

-- whether anything is to be done at a path, or it has a record before
abbrev pub is_known : Written → Stored → List ℕ → List ℕ → Bool
is_known written old m n = has_edit written m n || is_some (record_at old m n)

abbrev path_at : List ℕ → List ℕ → Path
path_at m n = record { dataset = m; name = n }

known_by : (written : Written) (old : Stored) (test : Path → Bool) (m n : List ℕ) → test (path_at m n) ≡ true → is_known written old m n ≡ true → list_any test (paths_known written old) ≡ true
known_by written old test m n h e =
    let tests : (x : Path) → eq_by_cmp path_cmp (path_at m n) x ≡ true → test x ≡ true = λ x t. subst (λ y. test y ≡ true) (path_same (path_at m n) x (Equal_from_is_eq _ t)) h in
    list_any-append test (map.keys old) (map.keys written)
    ∙ elim (has_edit written m n) as (λ b. has_edit written m n ≡ b → (b || is_some (record_at old m n)) ≡ true → (list_any test (map.keys old) || list_any test (map.keys written)) ≡ true) [
      | true ↦ λ w _. or_right _ _ (any_weaker _ test tests (map.keys written) (sym (map.contains_key-keys written (path_at m n)) ∙ w))
      | false ↦ λ _ r. or_left _ _ (any_weaker _ test tests (map.keys old) (sym (map.contains_key-keys old (path_at m n)) ∙ r))
    ] refl e

-- a store each of whose records was there before or is written
abbrev pub IsKnown : Written → Stored → Stored → Type 0
IsKnown written old records = (m n : List ℕ) → is_some (record_at records m n) ≡ true → is_known written old m n ≡ true

pub known_after : (written : Written) (old new : Stored) → IsPathByPath written old new → IsKnown written old new
known_after written old new h m n e =
    elim (map.get written (path_at m n)) as (λ (found : Option RecordEdit). map.get written (path_at m n) ≡ found → (is_some found || is_some (record_at old m n)) ≡ true) [
      | Some edit ↦ λ _. refl
      | None ↦ λ none. ap is_some (sym (h.at_path (path_at m n) ∙ ap (λ (found : Option RecordEdit). after_edit found (record_at old m n)) none)) ∙ e
    ] refl

reach_name : (written : Written) (old records : Stored) → IsKnown written old records → (p : Path) (chain : List (List ℕ)) → is_reached written old records chain p.name ≡ true → list_any (of_name p) (paths_known written old) ≡ true
reach_name written old records k p chain e =
    elim (is_written_on written old chain p.name) as (λ b. is_written_on written old chain p.name ≡ b → (b || (is_written_on written old chain [] && has_record_on records chain p.name)) ≡ true → list_any (of_name p) (paths_known written old) ≡ true) [
      | true ↦ λ w _. let m = one_of_any (λ m. is_written written old m p.name) chain w in known_by written old (of_name p) m.0 p.name (itself p.name) (or_left _ _ (written_edit written old m.0 p.name m.1))
      | false ↦ λ _ e. let m = one_of_any (λ m. is_some (record_at records m p.name)) chain (second_so _ _ e) in known_by written old (of_name p) m.0 p.name (itself p.name) (k m.0 p.name m.1)
    ] refl e

reach_dataset : (written : Written) (old records : Stored) → IsKnown written old records → (p : Path) → is_reached written old records (chain_of records p.dataset false) p.name ≡ true → list_any (in_dataset p) (paths_known written old) ≡ true
reach_dataset written old records k p e =
    elim (record_at records p.dataset []) as (λ (found : Option Record). record_at records p.dataset [] ≡ found → list_any (in_dataset p) (paths_known written old) ≡ true) [
      | Some entry ↦ λ is. known_by written old (in_dataset p) p.dataset [] (itself p.dataset) (k p.dataset [] (ap is_some is))
      | None ↦ λ none.
          let w = is_written written old p.dataset [] in
          let alone : is_reached written old records (p.dataset ∷ []) p.name ≡ true = ap (λ chain. is_reached written old records chain p.name) (sym (chain_alone records p.dataset none)) ∙ e in
          elim (is_written written old p.dataset p.name) as (λ b. is_written written old p.dataset p.name ≡ b → ((b || false) || ((w || false) && has_record_on records (p.dataset ∷ []) p.name)) ≡ true → list_any (in_dataset p) (paths_known written old) ≡ true) [
            | true ↦ λ is _. known_by written old (in_dataset p) p.dataset p.name (itself p.dataset) (or_left _ _ (written_edit written old p.dataset p.name is))
            | false ↦ λ _ e. known_by written old (in_dataset p) p.dataset [] (itself p.dataset) (or_left (has_edit written p.dataset []) (is_some (record_at old p.dataset [])) (written_edit written old p.dataset [] (true_without w (first_so (w || false) (has_record_on records (p.dataset ∷ []) p.name) e))))
          ] refl alone
    ] refl

touched_known : (written : Written) (old new : Stored) → IsPathByPath written old new → (p : Path) → is_touched written old new p ≡ true → list_any (is_path p) (in_question written old) ≡ true
unfolding is_touched
touched_known written old new h p e =
    let reached = second_so (dataset_exists new p.dataset) _ e in
    let before : IsKnown written old old = λ m n r. or_right _ _ r in
    let after = known_after written old new h in
    any_crossed p (paths_known written old) (paths_known written old)
    ∙ elim (is_reached written old old (chain_of old p.dataset false) p.name) as (λ b. is_reached written old old (chain_of old p.dataset false) p.name ≡ b → (b || is_reached written old new (chain_of new p.dataset false) p.name) ≡ true → (list_any (in_dataset p) (paths_known written old) && list_any (of_name p) (paths_known written old)) ≡ true) [
      | true ↦ λ r _. and_from _ _ (reach_dataset written old old before p r) (reach_name written old old before p _ r)
      | false ↦ λ _ r. and_from _ _ (reach_dataset written old new after p r) (reach_name written old new after p _ r)
    ] refl reached

pub any_touched : (written : Written) (old new : Stored) → IsPathByPath written old new → (p : Path) → list_any (is_path p) (touched_paths written old new) ≡ is_touched written old new p
unfolding touched_paths
any_touched written old new h p =
    any_order p (kept (is_touched written old new) (in_question written old))
    ∙ (any_kept (is_touched written old new) p (in_question written old)
    ∙ absorbed (list_any (is_path p) (in_question written old)) (is_touched written old new p) (touched_known written old new h p))

pub touched_rises : (written : Written) (old new : Stored) → Ascending by_octets (touched_paths written old new)
unfolding touched_paths
touched_rises written old new = order_rises (filter (is_touched written old new) (in_question written old))

-- a list in the order in which are just the touched paths is the list of them
pub touched_is : (written : Written) (old new : Stored) → IsPathByPath written old new → (xs : List Path) → Ascending by_octets xs → ((p : Path) → list_any (is_path p) xs ≡ is_touched written old new p) → xs ≡ touched_paths written old new
touched_is written old new h xs a e =
    same_list by_octets octets_total same_paths xs (touched_paths written old new) a (touched_rises written old new) (λ p. e p ∙ sym (any_touched written old new h p))

-- ---- paths that are well formed

then_equal : (r s : Ordering) → (r ≡ Equal → s ≡ Equal) → ordering_then r s ≡ r
then_equal Less s h = refl
then_equal Equal s h = h refl
then_equal Greater s h = refl

pub formed_order : (a b : Path) → IsSplit a → IsSplit b → by_octets a b ≡ full_path_cmp a b
formed_order a b p q =
    then_equal (full_path_cmp a b) (octets_cmp a.dataset b.dataset)
    (λ e. ap (λ (r : Path). octets_cmp r.dataset b.dataset) (full_paths.same a b p q e) ∙ tied_itself nat_list_cmp_total b.dataset)
