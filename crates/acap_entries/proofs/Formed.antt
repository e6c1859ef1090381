-- Maps from paths that are well formed.
use Rattle.std.proofs.Common.{◌≡◌, true, false, cond, List, [], ◌∷◌, Option, Some, None, refl, sym, subst, ◌∙◌}
use Rattle.std.specs.List.{list_all}
use Rattle.std.specs.Ordering.{eq_by_cmp}
use Rattle.std.specs.FinMap as map
use Rattle.std.specs.FinMap.{find, get-insert, get-remove}
use Rattle.std.proofs.lemmas.Bool.{and_parts}
use Rattle.acap_entries.specs.FullPaths.{IsWellFormed, AreWellFormed, AreInForm, is_well_formed}
use Rattle.acap_ordmap.specs.Sorted.{InOrder, put_in, without}
use Rattle.acap_entries.specs.Store.{Stored, Written, IsPathByPath, path_cmp, after_edit}
use Rattle.acap_entries.specs.declared.change.RecordEdit.{RecordEdit}
use Rattle.acap_entries.specs.declared.change.RecordEdit.TheVariants.{Put, Remove}
use Rattle.acap_entries.specs.declared.path.Path.{Path}
use Rattle.acap_entries.specs.declared.record.Record.{Record}
use Rattle.acap_ordmap.proofs.MapLemmas.{get_found, insert_kept, put_in_order, remove_kept, without_in_order, none_in_order}
use Rattle.acap_entries.proofs.StoreLemmas.{path_cmp_total, path_same}
use Rattle.acap_ordmap.proofs.Logic.{Equal_from_is_eq}

same_path : (p q : Path) → eq_by_cmp path_cmp p q ≡ true → p ≡ q
same_path p q e = path_same p q (Equal_from_is_eq _ e)

pub formed : (p : Path) → is_well_formed p ≡ true → IsWellFormed p
formed p e = let parts = and_parts _ _ e in record { dataset = parts.0; name = parts.1 }

find_formed : {X : Type 0} (es : List (Path × X)) (p : Path) (x : X) → list_all (λ e. is_well_formed e.0) es ≡ true → find path_cmp p es ≡ Some x → IsWellFormed p
find_formed [] p x all = λ g. cc
find_formed (e ∷ es) p x all = elim (eq_by_cmp path_cmp p e.0) as (λ b. eq_by_cmp path_cmp p e.0 ≡ b → cond b (Some e.1) (find path_cmp p es) ≡ Some x → IsWellFormed p) [
  | true ↦ λ t g. subst IsWellFormed (sym (same_path p e.0 t)) (formed e.0 (and_parts _ _ all).0)
  | false ↦ λ t g. find_formed es p x (and_parts _ _ all).1 g
] refl

pub in_form : {X : Type 0} (es : List (Path × X)) → InOrder path_cmp es → list_all (λ e. is_well_formed e.0) es ≡ true → AreInForm es
in_form es h all = record { sorted = h; formed = λ p x g. find_formed es p x all (sym (get_found path_cmp path_cmp_total es p h) ∙ g) }

pub none_in_form : {X : Type 0} → AreInForm {X = X} []
none_in_form = in_form [] (none_in_order path_cmp) refl

put_formed : {X : Type 0} (m : map.FinMap path_cmp X) (p : Path) (x : X) → AreWellFormed m → IsWellFormed p → AreWellFormed (map.insert m p x)
put_formed m p x all h q y g =
    elim (eq_by_cmp path_cmp q p) as (λ b. eq_by_cmp path_cmp q p ≡ b → cond b (Some x) (map.get m q) ≡ Some y → IsWellFormed q) [
      | true ↦ λ t g. subst IsWellFormed (sym (same_path q p t)) h
      | false ↦ λ t g. all q y g
    ] refl (sym (get-insert path_cmp_total m p x q) ∙ g)

taken_formed : {X : Type 0} (m : map.FinMap path_cmp X) (p : Path) → AreWellFormed m → AreWellFormed (map.remove m p)
taken_formed {X} m p all q y g =
    elim (eq_by_cmp path_cmp q p) as (λ b. cond {A = Option X} b None (map.get m q) ≡ Some y → IsWellFormed q) [
      | true ↦ λ g. cc
      | false ↦ λ g. all q y g
    ] (sym (get-remove path_cmp_total m p q) ∙ g)

pub put_in_form : {X : Type 0} (es : List (Path × X)) (p : Path) (x : X) → AreInForm es → IsWellFormed p → AreInForm (put_in path_cmp p x es)
put_in_form es p x h w = record {
  sorted = put_in_order path_cmp path_cmp_total es p x h.sorted;
  formed = subst AreWellFormed (sym (insert_kept path_cmp path_cmp_total es p x h.sorted)) (put_formed (map.from_sorted es) p x h.formed w);
}

pub without_in_form : {X : Type 0} (es : List (Path × X)) (p : Path) → AreInForm es → AreInForm (without path_cmp p es)
without_in_form es p h = record {
  sorted = without_in_order path_cmp path_cmp_total es p h.sorted;
  formed = subst AreWellFormed (sym (remove_kept path_cmp path_cmp_total path_same es p h.sorted)) (taken_formed (map.from_sorted es) p h.formed);
}

after : (p : Path) (w : Option RecordEdit) (old : Option Record) (x : Record) → ((f : RecordEdit) → w ≡ Some f → IsWellFormed p) → ((r : Record) → old ≡ Some r → IsWellFormed p) → after_edit w old ≡ Some x → IsWellFormed p
after p None old x f g e = g x e
after p (Some (Put r)) old x f g e = f (Put r) refl
after p (Some Remove) old x f g e = f Remove refl

pub after_formed : (written : Written) (old new : Stored) → IsPathByPath written old new → AreWellFormed written → AreWellFormed old → AreWellFormed new
after_formed written old new h w o p x e = after p (map.get written p) (map.get old p) x (λ f g. w p f g) (λ r g. o p r g) (sym (h.at_path p) ∙ e)
