-- The index of heirs, once what a change writes is settled in it.
use Rattle.std.proofs.Common.{◌≡◌, ℕ, Bool, true, false, not, cond, ◌&&◌, ◌||◌, List, [], ◌∷◌, ◌++◌, map as each, length, Option, Some, None, refl, sym, ap, subst, ◌∙◌}
use Rattle.std.specs.Prelude.{if◌then◌else◌}
use Rattle.std.specs.FinMap as map
use Rattle.std.specs.FinMap.Entries.{by_order}
use Rattle.std.specs.List.{list_any, flat_map}
use Rattle.std.specs.declared.cmp.Ordering.{Ordering}
use Rattle.std.specs.declared.cmp.Ordering.TheVariants.{Less, Equal, Greater}
use Rattle.std.specs.Ordering.{eq_by_cmp, is_eq}
use Rattle.std.specs.Cmp.{IsTotalOrder, then_total, alike_right, eq_by_cmp_equiv}
use Rattle.std.specs.Cmp.Lexicographic.{on_texts, texts_ties, same_text}
use Rattle.std.proofs.Math.Bool.{or_assoc, and-true}
use Rattle.std.proofs.Math.Dec.{eqb-suc-zero}
use Rattle.std.proofs.lemmas.List.Folds.{list_any-append}
use Rattle.acap_entries.specs.Changes.{IsStoreAfter}
use Rattle.acap_entries.specs.Orders.{octets_cmp}
use Rattle.acap_ordmap.specs.Ranks.{with_item, without_item}
use Rattle.acap_entries.specs.Store.{Store, Stored, Written, IsPathByPath, path_cmp}
use Rattle.acap_entries.specs.declared.change.Change.{Change}
use Rattle.acap_entries.specs.declared.path.Path.{Path}
use Rattle.acap_entries.specs.declared.change.RecordEdit.{RecordEdit}
use Rattle.acap_ordmap.proofs.Logic.{either_and, false_and, is_eq-then}
use Rattle.acap_inherit.specs.Chains.{base_at}
use Rattle.acap_inherit.specs.Index.{link_cmp, is_linked, is_base, IsIndexOf, link_at, links_of, links_written, without_all, with_all, index_with}
use Rattle.acap_inherit.specs.Records.{record_at}
use Rattle.acap_inherit.specs.Touched.{is_written}
use Rattle.acap_inherit.specs.declared.link.Link.{Link}
use Rattle.acap_inherit.proofs.UnreadLaws.{unwritten}
use Rattle.acap_inherit.proofs.WrittenLemmas.{has_edit, no_edit}

pub link_total : IsTotalOrder link_cmp
link_total = then_total (on_texts (λ (l : Link). l.base)) (on_texts (λ (l : Link). l.heir))

-- ---- items with one more, and without one, in any order

module _ {K : Type 0} (R : K → K → Ordering) (o : IsTotalOrder R) where
  or_swap : (a b c : Bool) → (a || (b || c)) ≡ (b || (a || c))
  or_swap true true c = refl
  or_swap true false c = refl
  or_swap false b c = refl

  tied_or : (a c : Bool) → (a || c) ≡ (a || (a || c))
  tied_or true c = refl
  tied_or false c = refl

  pub any_with : (q x : K) (xs : List K) → list_any (eq_by_cmp R q) (with_item R x xs) ≡ (eq_by_cmp R q x || list_any (eq_by_cmp R q) xs)
  unfolding with_item
  any_with q x [] = refl
  any_with q x (y ∷ ys) =
      elim (R x y) as (λ r. R x y ≡ r → list_any (eq_by_cmp R q) (by_order r (x ∷ y ∷ ys) (y ∷ ys) (y ∷ with_item R x ys)) ≡ (eq_by_cmp R q x || list_any (eq_by_cmp R q) (y ∷ ys))) [
        | Less ↦ λ _. refl
        | Equal ↦ λ e.
            let same : eq_by_cmp R q x ≡ eq_by_cmp R q y = ap is_eq (alike_right o x y q e) in
            tied_or (eq_by_cmp R q y) (list_any (eq_by_cmp R q) ys) ∙ ap (λ b. b || (eq_by_cmp R q y || list_any (eq_by_cmp R q) ys)) (sym same)
        | Greater ↦ λ _. ap (λ b. eq_by_cmp R q y || b) (any_with q x ys) ∙ or_swap (eq_by_cmp R q y) (eq_by_cmp R q x) (list_any (eq_by_cmp R q) ys)
      ] refl

  drop_step : (k y rest : Bool) → (y ≡ true → true ≡ k) → (not k && rest) ≡ (not k && (y || rest))
  drop_step true y rest h = refl
  drop_step false true rest h = let e = h refl in cc
  drop_step false false rest h = refl

  keep_step : (k y rest : Bool) → (y ≡ true → false ≡ k) → (y || (not k && rest)) ≡ (not k && (y || rest))
  keep_step k false rest h = refl
  keep_step true true rest h = let e = h refl in cc
  keep_step false true rest h = refl

  equal : (r : Ordering) → is_eq r ≡ true → r ≡ Equal
  equal Less e = cc
  equal Equal e = refl
  equal Greater e = cc

  pub any_without : (q k : K) (xs : List K) → list_any (eq_by_cmp R q) (without_item R k xs) ≡ (not (eq_by_cmp R q k) && list_any (eq_by_cmp R q) xs)
  unfolding without_item
  any_without q k [] = elim (eq_by_cmp R q k) as (λ b. false ≡ (not b && false)) [ true ↦ refl | false ↦ refl ]
  any_without q k (y ∷ ys) =
      let rest = list_any (eq_by_cmp R q) ys in
      elim (eq_by_cmp R k y) as (λ b. (eq_by_cmp R q y ≡ true → b ≡ eq_by_cmp R q k) → list_any (eq_by_cmp R q) (cond (not b) (y ∷ without_item R k ys) (without_item R k ys)) ≡ (not (eq_by_cmp R q k) && (eq_by_cmp R q y || rest))) [
        | true ↦ λ h. any_without q k ys ∙ drop_step (eq_by_cmp R q k) (eq_by_cmp R q y) rest h
        | false ↦ λ h. ap (λ b. eq_by_cmp R q y || b) (any_without q k ys) ∙ keep_step (eq_by_cmp R q k) (eq_by_cmp R q y) rest h
      ] (λ e. ap is_eq (sym (alike_right o q y k (equal _ e))) ∙ (eq_by_cmp_equiv o).symm k q)

-- ---- pairs with some, and without some

pub linked_with : (put links : List Link) (base heir : List ℕ) → is_linked (with_all put links) base heir ≡ (is_linked put base heir || is_linked links base heir)
linked_with [] links base heir = refl
linked_with (x ∷ put) links base heir =
    let q : Link = record { base = base; heir = heir } in
    any_with link_cmp link_total q x (with_all put links)
    ∙ (ap (λ b. eq_by_cmp link_cmp q x || b) (linked_with put links base heir)
    ∙ sym (or_assoc (eq_by_cmp link_cmp q x) (is_linked put base heir) (is_linked links base heir)))

not_both : (a b c : Bool) → (not a && (not b && c)) ≡ (not (a || b) && c)
not_both true b c = refl
not_both false b c = refl

pub linked_without : (taken links : List Link) (base heir : List ℕ) → is_linked (without_all taken links) base heir ≡ (not (is_linked taken base heir) && is_linked links base heir)
linked_without [] links base heir = refl
linked_without (x ∷ taken) links base heir =
    let q : Link = record { base = base; heir = heir } in
    any_without link_cmp link_total q x (without_all taken links)
    ∙ (ap (λ b. not (eq_by_cmp link_cmp q x) && b) (linked_without taken links base heir)
    ∙ not_both (eq_by_cmp link_cmp q x) (is_linked taken base heir) (is_linked links base heir))

pub with_last : (put links : List Link) (x : Link) → with_all (put ++ x ∷ []) links ≡ with_all put (with_item link_cmp x links)
with_last [] links x = refl
with_last (y ∷ put) links x = ap (with_item link_cmp y) (with_last put links x)

pub without_last : (taken links : List Link) (x : Link) → without_all (taken ++ x ∷ []) links ≡ without_all taken (without_item link_cmp x links)
without_last [] links x = refl
without_last (y ∷ taken) links x = ap (without_item link_cmp y) (without_last taken links x)

-- ---- the pairs of written management entries

swap_and : (a b : Bool) → ((a && b) || false) ≡ (b && a)
swap_and true true = refl
swap_and true false = refl
swap_and false true = refl
swap_and false false = refl

is_same : List ℕ → List ℕ → Bool
is_same heir dataset = is_eq (octets_cmp heir dataset)

one_at : (dataset : List ℕ) (found : Option (List ℕ)) (base heir : List ℕ) → is_linked (link_at dataset found) base heir ≡ (is_same heir dataset && is_base found base)
unfolding is_same
one_at dataset None base heir = false_and (is_eq (octets_cmp heir dataset))
one_at dataset (Some found) base heir =
    ap (λ b. b || false) (is_eq-then (octets_cmp base found) (octets_cmp heir dataset))
    ∙ (swap_and (is_eq (octets_cmp base found)) (is_eq (octets_cmp heir dataset))
    ∙ ap (λ b. is_eq (octets_cmp heir dataset) && b) (sym (texts_ties base found)))

of_same : (records : Stored) (dataset base heir : List ℕ) → (is_same heir dataset && is_base (base_at records dataset) base) ≡ (is_same heir dataset && is_base (base_at records heir) base)
unfolding is_same
of_same records dataset base heir =
    elim (is_eq (octets_cmp heir dataset)) as (λ b. is_eq (octets_cmp heir dataset) ≡ b → (b && is_base (base_at records dataset) base) ≡ (b && is_base (base_at records heir) base)) [
      | true ↦ λ e. ap (λ d. is_base (base_at records d) base) (sym (same_text heir dataset (sym (texts_ties heir dataset ∙ e))))
      | false ↦ λ _. refl
    ] refl

abbrev managed : List ℕ → Path
managed heir = record { dataset = heir; name = [] }

one_written : (records : Stored) (dataset name base heir : List ℕ) → is_linked (links_of records (record { dataset = dataset; name = name })) base heir ≡ (eq_by_cmp path_cmp (managed heir) (record { dataset = dataset; name = name }) && is_base (base_at records heir) base)
unfolding is_same
one_written records dataset [] base heir =
    one_at dataset (base_at records dataset) base heir
    ∙ (of_same records dataset base heir
    ∙ ap (λ b. b && is_base (base_at records heir) base) (sym (is_eq-then (octets_cmp heir dataset) Equal ∙ and-true (is_eq (octets_cmp heir dataset)))))
one_written records dataset (x ∷ xs) base heir =
    ap (λ b. is_linked (if b then link_at dataset (base_at records dataset) else []) base heir) (eqb-suc-zero (length xs))
    ∙ sym (ap (λ b. b && is_base (base_at records heir) base) (is_eq-then (octets_cmp heir dataset) Less ∙ sym (false_and (is_eq (octets_cmp heir dataset)))))

all_written : (records : Stored) (es : List (Path × RecordEdit)) (base heir : List ℕ) → is_linked (flat_map (λ w. links_of records w.0) es) base heir ≡ (list_any (eq_by_cmp path_cmp (managed heir)) (each (λ e. e.0) es) && is_base (base_at records heir) base)
all_written records [] base heir = refl
all_written records (w ∷ es) base heir =
    list_any-append (eq_by_cmp link_cmp (record { base = base; heir = heir })) (links_of records w.0) (flat_map (λ w. links_of records w.0) es)
    ∙ ((λ i. one_written records w.0.dataset w.0.name base heir i || all_written records es base heir i)
    ∙ either_and (eq_by_cmp path_cmp (managed heir) w.0) (list_any (eq_by_cmp path_cmp (managed heir)) (each (λ e. e.0) es)) (is_base (base_at records heir) base))

pub linked_written : (written : Written) (records : Stored) (base heir : List ℕ) → is_linked (links_written written records) base heir ≡ (has_edit written heir [] && is_base (base_at records heir) base)
linked_written written records base heir =
    all_written records (map.entries written) base heir
    ∙ ap (λ b. b && is_base (base_at records heir) base) (sym (map.contains_key-keys written (managed heir)))

-- ---- what the index is afterwards

settles : (w old new : Bool) → (w ≡ false → old ≡ new) → ((w && new) || (not (w && old) && old)) ≡ new
settles true true true h = refl
settles true true false h = refl
settles true false true h = refl
settles true false false h = refl
settles false old new h = h refl

pub base_kept : (written : Written) (old new : Stored) → IsPathByPath written old new → (heir : List ℕ) → is_written written old heir [] ≡ false → base_at old heir ≡ base_at new heir
base_kept written old new h heir e = let same = unwritten written old new h heir [] e in rw same refl

pub settled_index : (written : Written) (old new : Stored) (links : List Link) → IsPathByPath written old new → IsIndexOf old links → IsIndexOf new (index_with (links_written written old, links_written written new) links)
settled_index written old new links h index = record {
  each = λ base heir.
      let taken = links_written written old in
      let put = links_written written new in
      linked_with put (without_all taken links) base heir
      ∙ (ap (λ b. is_linked put base heir || b) (linked_without taken links base heir)
      ∙ ((λ i. linked_written written new base heir i || (not (linked_written written old base heir i) && index.each base heir i))
      ∙ settles (has_edit written heir []) (is_base (base_at old heir) base) (is_base (base_at new heir) base) (λ e. ap (λ found. is_base found base) (base_kept written old new h heir (no_edit written old heir [] e)))));
}

nothing_named : (heir : List ℕ) → base_at map.empty heir ≡ None
nothing_named heir = let none : record_at map.empty heir [] ≡ None = map.get-empty path_cmp (managed heir) in rw none refl

pub empty_index : (links : List Link) → links ≡ [] → IsIndexOf map.empty links
empty_index links e = record {
  each = λ base heir. ap (λ ls. is_linked ls base heir) e ∙ ap (λ found. is_base found base) (sym (nothing_named heir));
}

pub index_after : (change : Change) (old new : Store) (links taken put : List Link) (left : Stored) → IsIndexOf old.records links → IsStoreAfter change old new
    → taken ≡ links_written change.writes old.records → put ≡ links_written change.writes left → left ≡ new.records → IsIndexOf new.records (index_with (taken, put) links)
index_after change old new links taken put left index h t p same =
    subst (λ (prepared : List Link × List Link). IsIndexOf new.records (index_with prepared links)) (λ i. (sym t i, sym (p ∙ ap (links_written change.writes) same) i)) (settled_index change.writes old.records new.records links h.paths index)
