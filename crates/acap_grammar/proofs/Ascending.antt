-- What ascending keys say: a key greater than the last one is none of those before.
use Rattle.std.proofs.Common.{◌≡◌, ℕ, ◌-◌, Bool, true, false, ◌&&◌, List, [], ◌∷◌, ◌++◌, length, Option, Some, None, refl, sym, ap, ◌∙◌, arith, length-append}
use Rattle.std.specs.declared.cmp.Ordering.{Ordering}
use Rattle.std.specs.declared.cmp.Ordering.TheVariants.{Less, Equal, Greater}
use Rattle.std.specs.Ordering.{is_eq, is_le, is_lt, ordering_then}
use Rattle.std.specs.Cmp.{IsTotalOrder}
use Rattle.std.specs.List.{slice_get}
use Rattle.std.specs.Str.{bytes_eq}
use Rattle.std.proofs.Math.Seq.{get_or-append_seam}
use Rattle.std.proofs.lemmas.Bool.{and_left}
use Rattle.std.proofs.lemmas.List.Elements.{All-nil, All-cons, All-append, All-weaker}
use Rattle.std.proofs.lemmas.List.Folds.{list_any_none}
use Rattle.std.proofs.lemmas.Map.Text.{is_eq-slice_cmp}
use Rattle.std.proofs.lemmas.Option.{slice_get-get_or}
use Rattle.acap_entries.specs.Orders.{octets_cmp}
use Rattle.acap_entries.specs.Store.{path_cmp}
use Rattle.acap_entries.specs.declared.path.Path.{Path}
use Rattle.acap_ordmap.proofs.Logic.{Less_from_is_lt}
use Rattle.acap_grammar.specs.Ascending.{item_cmp, last_cmp, Ascends}
use Rattle.acap_commands.specs.EntryOrder.{has_path}
use Rattle.acap_grammar.specs.Storing.{has_attribute, has_item, same_metadata}
use Rattle.acap_commands.specs.declared.store.StoreEntry.{StoreEntry}
use Rattle.acap_commands.specs.declared.store.StoreItem.{StoreItem}
use Rattle.acap_commands.specs.declared.store.StoreMetadata.{StoreMetadata}

-- ---- the last item

last_of : {A : Type 0} (seen : List A) (x : A) → slice_get (seen ++ x ∷ []) (length (seen ++ x ∷ []) - 1) ≡ Some x
last_of seen x =
    let e : length (seen ++ x ∷ []) - 1 ≡ length seen = rw (length-append seen (x ∷ [])) (omega arith) in
    rw e (slice_get-get_or (seen ++ x ∷ []) (length seen) x (rw (length-append seen (x ∷ [])) (omega arith)) ∙ ap (λ y. Some y) (get_or-append_seam seen x [] x))

module _ {A K : Type 0} (key : A → K) (R : K → K → Ordering) (o : IsTotalOrder R) where
  below_next : (a : Ordering) (i k p : K) → R i k ≡ a → is_le a ≡ true → R k p ≡ Less → R i p ≡ Less
  below_next Less i k p e h less = o.trans i k p e less
  below_next Equal i k p e h less = o.congr i k p e ∙ less
  below_next Greater i k p e h less = cc

  item_below : (i : Option A) (k p : K) → is_le (item_cmp key R i k) ≡ true → R k p ≡ Less → item_cmp key R i p ≡ Less
  item_below None k p h less = refl
  item_below (Some x) k p h less = below_next (R (key x) k) (key x) k p refl h less

  last_below : (seen : List A) (k p : K) → is_le (last_cmp key R seen k) ≡ true → R k p ≡ Less → last_cmp key R seen p ≡ Less
  unfolding last_cmp
  last_below seen k p h less = item_below _ k p h less

  last_cmp-append : (seen : List A) (x : A) (k : K) → last_cmp key R (seen ++ x ∷ []) k ≡ R (key x) k
  unfolding last_cmp
  last_cmp-append seen x k = ap (λ i. item_cmp key R i k) (last_of seen x)

  abbrev below : K → A → Type 0
  below k x = R (key x) k ≡ Less

  not_both : (b : Bool) → b ≡ false → b ≡ true → ⊥
  not_both true f e = cc
  not_both false f e = cc

  pub ascends_not : (b : Bool) (seen : List A) → b ≡ false → Ascends key R b seen
  ascends_not b seen fell = record { below = λ e k less. absurd (not_both b fell e) }

  -- one more after those that ascend
  pub ascends_more : (b c : Bool) (seen : List A) (x : A) → Ascends key R b seen → b ≡ true → c ≡ is_le (last_cmp key R seen (key x)) → Ascends key R c (seen ++ x ∷ [])
  ascends_more b c seen x h rose le = record {
    below = λ e k less.
        let next : R (key x) k ≡ Less = sym (last_cmp-append seen x k) ∙ less in
        All-append (below k) seen (x ∷ []) (h.below rose k (last_below seen (key x) k (sym le ∙ e) next)) (All-cons (below k) x [] next (All-nil (below k)));
  }

-- ---- what differs

differs : (a b : List ℕ) → octets_cmp a b ≡ Less → bytes_eq a b ≡ false
differs a b less = sym (is_eq-slice_cmp a b) ∙ ap is_eq less

path_differs : (a b : Ordering) → ordering_then a b ≡ Less → (is_eq a && is_eq b) ≡ false
path_differs Less b less = refl
path_differs Equal b less = ap is_eq less
path_differs Greater b less = refl

pub no_path : (b : Bool) (seen : List StoreEntry) (path : Path) → Ascends (λ e. e.path) path_cmp b seen → b ≡ true → is_lt (last_cmp (λ e. e.path) path_cmp seen path) ≡ true → has_path path seen ≡ false
unfolding has_path
no_path b seen path h e less = list_any_none _ seen (All-weaker _ _ other seen (h.below e path (Less_from_is_lt _ less))) where
  other : (x : StoreEntry) → path_cmp x.path path ≡ Less → (bytes_eq x.path.dataset path.dataset && bytes_eq x.path.name path.name) ≡ false
  other x p = rw (← is_eq-slice_cmp x.path.dataset path.dataset, ← is_eq-slice_cmp x.path.name path.name) (path_differs _ _ p)

pub no_attribute : (b : Bool) (seen : List StoreItem) (attribute : List ℕ) → Ascends (λ i. i.attribute) octets_cmp b seen → b ≡ true → is_lt (last_cmp (λ i. i.attribute) octets_cmp seen attribute) ≡ true → has_attribute attribute seen ≡ false
unfolding has_attribute
no_attribute b seen attribute h e less = list_any_none _ seen (All-weaker _ _ other seen (h.below e attribute (Less_from_is_lt _ less))) where
  other : (i : StoreItem) → octets_cmp i.attribute attribute ≡ Less → bytes_eq i.attribute attribute ≡ false
  other i p = differs i.attribute attribute p

pub no_item : (b : Bool) (seen : List StoreItem) (attribute : List ℕ) (m : StoreMetadata) → Ascends (λ i. i.attribute) octets_cmp b seen → b ≡ true → is_lt (last_cmp (λ i. i.attribute) octets_cmp seen attribute) ≡ true → has_item attribute m seen ≡ false
unfolding has_item
no_item b seen attribute m h e less = list_any_none _ seen (All-weaker _ _ other seen (h.below e attribute (Less_from_is_lt _ less))) where
  other : (i : StoreItem) → octets_cmp i.attribute attribute ≡ Less → (bytes_eq i.attribute attribute && same_metadata i.metadata m) ≡ false
  other i p = and_left _ _ (differs i.attribute attribute p)
