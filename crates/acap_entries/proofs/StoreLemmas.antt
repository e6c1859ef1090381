-- The order of paths, and what writes leave at each path.
use Rattle.std.proofs.Common.{◌≡◌, true, false, cond, List, [], ◌∷◌, ◌++◌, Option, Some, None, refl, sym, ap, ◌∙◌}
use Rattle.std.specs.Ordering.{eq_by_cmp}
use Rattle.std.specs.Cmp.{IsTotalOrder, then_total}
use Rattle.std.specs.Cmp.Lexicographic.{on_texts}
use Rattle.std.specs.FinMap.{IsAntisymmetric, find, from_sorted, get, get-entries, entries, get-insert, get-remove, slice_cmp-IsAntisymmetric, nat_cmp-IsAntisymmetric}
use Rattle.acap_entries.specs.Orders.{octets_cmp}
use Rattle.acap_entries.specs.declared.path.Path.{Path}
use Rattle.acap_entries.specs.declared.record.Record.{Record}
use Rattle.acap_entries.specs.Store.{path_cmp, Stored, IsPathByPath, Written, after_edit, after_write, after_writes}
use Rattle.acap_entries.specs.declared.change.RecordEdit.{RecordEdit}
use Rattle.acap_entries.specs.declared.change.RecordEdit.TheVariants.{Put, Remove}
use Rattle.acap_ordmap.specs.Sorted.{InOrder}
use Rattle.acap_ordmap.proofs.MapLemmas.{get_found}
use Rattle.acap_ordmap.proofs.Logic.{both_Equal}

pub path_cmp_total : IsTotalOrder path_cmp
path_cmp_total = then_total (on_texts (λ (p : Path). p.dataset)) (on_texts (λ (p : Path). p.name))

pub octets_same : IsAntisymmetric octets_cmp
octets_same = slice_cmp-IsAntisymmetric nat_cmp-IsAntisymmetric

pub path_same : IsAntisymmetric path_cmp
path_same a b e =
    let parts = both_Equal _ _ e in
    let dataset = octets_same _ _ parts.0 in
    let name = octets_same _ _ parts.1 in
    λ i. record { dataset = dataset i; name = name i }

pub after_writes-append : (ws : List (Path × RecordEdit)) (w : Path × RecordEdit) (m : Stored) → after_writes (ws ++ w ∷ []) m ≡ after_writes ws (after_write w.0 w.1 m)
after_writes-append [] w m = refl
after_writes-append (x ∷ ws) w m = ap (after_write x.0 x.1) (after_writes-append ws w m)

get-after_write : (p : Path) (edit : RecordEdit) (m : Stored) (q : Path) → get (after_write p edit m) q ≡ cond (eq_by_cmp path_cmp q p) (after_edit (Some edit) None) (get m q)
get-after_write p (Put r) m q = get-insert path_cmp_total m p r q
get-after_write p Remove m q = get-remove path_cmp_total m p q

sure : (edit : RecordEdit) (old : Option Record) → after_edit (Some edit) None ≡ after_edit (Some edit) old
sure (Put r) old = refl
sure Remove old = refl

pub get_written : (ws : List (Path × RecordEdit)) (m : Stored) (q : Path) → get (after_writes ws m) q ≡ after_edit (find path_cmp q ws) (get m q)
get_written [] m q = refl
get_written (w ∷ ws) m q =
    get-after_write w.0 w.1 (after_writes ws m) q
    ∙ elim (eq_by_cmp path_cmp q w.0) as (λ b. cond b (after_edit (Some w.1) None) (get (after_writes ws m) q) ≡ after_edit (cond b (Some w.1) (find path_cmp q ws)) (get m q)) [
      | true ↦ sure w.1 (get m q)
      | false ↦ get_written ws m q
    ]

pub after_writes-IsPathByPath : (ws : List (Path × RecordEdit)) (m : Stored) → InOrder path_cmp ws → IsPathByPath (from_sorted ws) m (after_writes ws m)
after_writes-IsPathByPath ws m h = record {
  at_path = λ p. get_written ws m p ∙ ap (λ o. after_edit o (get m p)) (sym (get_found path_cmp path_cmp_total ws p h));
}

pub entries-IsPathByPath : (written : Written) (m : Stored) → IsPathByPath written m (after_writes (entries written) m)
entries-IsPathByPath written m = record {
  at_path = λ p. get_written (entries written) m p ∙ ap (λ o. after_edit o (get m p)) (sym (get-entries written p));
}
