-- The records of a dataset, and those of it and the datasets beneath it, lie between two keys.
use Rattle.std.proofs.Common.{◌≡◌, ◌<◌, ℕ, Bool, not, List, [], ◌∷◌, ◌++◌, ◌-◌, take, drop, refl, sym, ap, ◌∙◌, ◌&&◌, arith, nat_eq, append-nil}
use Rattle.std.specs.Prelude.{filter}
use Rattle.std.specs.List.{starts_with}
use Rattle.std.specs.declared.cmp.Ordering.{Ordering}
use Rattle.std.specs.declared.cmp.Ordering.TheVariants.{Less, Equal, Greater}
use Rattle.std.specs.Ordering.{is_gt, ordering_then, nat_cmp}
use Rattle.std.proofs.lemmas.Cmp.{ranked}
use Rattle.acap_entries.specs.Orders.{octets_cmp, octets_eq}
use Rattle.acap_ordmap.specs.Sorted.{place, InOrder}
use Rattle.acap_entries.specs.Store.{path_cmp}
use Rattle.acap_entries.specs.declared.path.Path.{Path}
use Rattle.acap_ordmap.proofs.RangeLemmas.{lies_between, between}
use Rattle.acap_entries.proofs.EdgeLemmas.{greater_by_dataset, own_range, beneath_range, rises_by}
use Rattle.acap_entries.proofs.StoreLemmas.{path_cmp_total}

-- the management entry of a name
abbrev pub edge : List ℕ → Path
edge name = record { dataset = name; name = [] }

not_greater_than : (n : List ℕ) → octets_cmp [] n ≡ Greater → ⊥
not_greater_than [] e = cc
not_greater_than (x ∷ n) e = cc

then_greater : (a b : Ordering) → (b ≡ Greater → ⊥) → ordering_then a b ≡ Greater → a ≡ Greater
then_greater Less b h e = cc
then_greater Equal b h e = absurd (h e)
then_greater Greater b h e = refl

by_name : (k : List ℕ) (x : Path) → path_cmp (edge k) x ≡ Greater → octets_cmp k x.dataset ≡ Greater
by_name k x e = then_greater _ _ (not_greater_than x.name) e

to_name : (k : List ℕ) (x : Path) → octets_cmp k x.dataset ≡ Greater → path_cmp (edge k) x ≡ Greater
to_name k x e = rw e refl

edge_rises : (f s t : List ℕ) → ((x : List ℕ) → octets_cmp s x ≡ Greater → octets_cmp t x ≡ Greater) → (x : Path) → path_cmp (edge (f ++ s)) x ≡ Greater → path_cmp (edge (f ++ t)) x ≡ Greater
edge_rises f s t h x e = to_name (f ++ t) x (rises_by f s t x.dataset h (by_name (f ++ s) x e))

none_less : (x : List ℕ) → octets_cmp [] x ≡ Greater → octets_cmp (0 ∷ []) x ≡ Greater
none_less x e = absurd (not_greater_than x e)

greater_than : (a b : ℕ) → b < a → nat_cmp a b ≡ Greater
greater_than a b lt = elim (nat_cmp a b) as (λ r. r ≡ nat_cmp a b → r ≡ Greater) [
  | Less ↦ λ e. let bad : a < b = ranked a b Less e in absurd (omega arith)
  | Equal ↦ λ e. let bad : a ≡ b = ranked a b Equal e in absurd (omega arith)
  | Greater ↦ λ e. refl
] refl

slash_less : (x : List ℕ) → octets_cmp (47 ∷ []) x ≡ Greater → octets_cmp (48 ∷ []) x ≡ Greater
slash_less [] e = refl
slash_less (y ∷ x) e =
    let before : y < 47 = ranked 47 y Greater (sym (then_greater _ _ (not_greater_than x) e)) in
    rw (greater_than 48 y (omega arith)) refl

pub own_rises : (d : List ℕ) (x : Path) → path_cmp (edge (d ++ [])) x ≡ Greater → path_cmp (edge (d ++ 0 ∷ [])) x ≡ Greater
own_rises d x e = edge_rises d [] (0 ∷ []) none_less x e

pub beneath_rises : (f : List ℕ) (x : Path) → path_cmp (edge (f ++ 47 ∷ [])) x ≡ Greater → path_cmp (edge (f ++ 48 ∷ [])) x ≡ Greater
beneath_rises f x e = edge_rises f (47 ∷ []) (48 ∷ []) slash_less x e

module _ {X : Type 0} where
  by_edges : (k l : List ℕ) (e : Path × X) → lies_between path_cmp path_cmp_total (edge k) (edge l) e ≡ is_gt (octets_cmp l e.0.dataset) && not (is_gt (octets_cmp k e.0.dataset))
  by_edges k l e = ap (λ v. v && not (is_gt (path_cmp (edge k) e.0))) (greater_by_dataset (octets_cmp l e.0.dataset) e.0.name) ∙ ap (λ v. is_gt (octets_cmp l e.0.dataset) && not v) (greater_by_dataset (octets_cmp k e.0.dataset) e.0.name)

  is_own : (d : List ℕ) (e : Path × X) → octets_eq d e.0.dataset ≡ lies_between path_cmp path_cmp_total (edge (d ++ [])) (edge (d ++ 0 ∷ [])) e
  is_own d e = own_range d e.0.dataset ∙ ap (λ k. is_gt (octets_cmp (d ++ 0 ∷ []) e.0.dataset) && not (is_gt (octets_cmp k e.0.dataset))) (sym (append-nil d)) ∙ sym (by_edges (d ++ []) (d ++ 0 ∷ []) e)

  is_beneath : (f : List ℕ) (e : Path × X) → starts_with nat_eq e.0.dataset (f ++ 47 ∷ []) ≡ lies_between path_cmp path_cmp_total (edge (f ++ 47 ∷ [])) (edge (f ++ 48 ∷ [])) e
  is_beneath f e = beneath_range f e.0.dataset ∙ sym (by_edges (f ++ 47 ∷ []) (f ++ 48 ∷ []) e)

  same_filter : (p q : Path × X → Bool) → ((e : Path × X) → p e ≡ q e) → (es : List (Path × X)) → filter p es ≡ filter q es
  same_filter p q h es = λ i. filter (λ e. h e i) es

  pub own_entries : (d : List ℕ) (es : List (Path × X)) → InOrder path_cmp es
      → filter (λ e. octets_eq d e.0.dataset) es ≡ take (place path_cmp (edge (d ++ 0 ∷ [])) es - place path_cmp (edge (d ++ [])) es) (drop (place path_cmp (edge (d ++ [])) es) es)
  own_entries d es h = same_filter _ _ (is_own d) es ∙ between path_cmp path_cmp_total (edge (d ++ [])) (edge (d ++ 0 ∷ [])) (own_rises d) es h

  pub beneath_entries : (f : List ℕ) (es : List (Path × X)) → InOrder path_cmp es
      → filter (λ e. starts_with nat_eq e.0.dataset (f ++ 47 ∷ [])) es ≡ take (place path_cmp (edge (f ++ 48 ∷ [])) es - place path_cmp (edge (f ++ 47 ∷ [])) es) (drop (place path_cmp (edge (f ++ 47 ∷ [])) es) es)
  beneath_entries f es h = same_filter _ _ (is_beneath f) es ∙ between path_cmp path_cmp_total (edge (f ++ 47 ∷ [])) (edge (f ++ 48 ∷ [])) (beneath_rises f) es h
