-- One notice, applied to rows by name.
use Rattle.std.proofs.Common.{◌≡◌, true, false, List, [], ◌∷◌, Some, None, Option, refl, sym, ap, subst, ◌∙◌, cond}
use Rattle.std.specs.Prelude.{is_some}
use Rattle.std.specs.Ordering.{eq_by_cmp}
use Rattle.std.specs.Cmp.Lexicographic.{nat_list_cmp_total, texts_ties}
use Rattle.std.specs.FinMap as finite
use Rattle.std.specs.FinMap.{get, get-insert, get-remove, same_map}
use Rattle.acap_entries.specs.Orders.{octets_cmp}
use Rattle.acap_entries.specs.declared.row.Row.{Row}
use Rattle.acap_entries.proofs.Equalities.{row_exact}
use Rattle.acap_entries.proofs.StoreLemmas.{octets_same}
use Rattle.acap_notices.specs.declared.notice.Notice.{Notice}
use Rattle.acap_notices.specs.declared.notice.Notice.TheVariants.{AddTo, RemoveFrom, Change}
use Rattle.acap_notices.specs.Rows.{is_held, RowMap, by_name}
use Rattle.acap_notices.specs.Client.{mapped_after}
use Rattle.acap_notices.specs.Holding.{Mapped, holding_after_all}
use Rattle.acap_notices.proofs.NameLemmas.{get_held, name_insert}
use Rattle.acap_moves.specs.Hits.{Name, Shape, IsLawful, put, put_some, rank, rows, spot}
use Rattle.acap_moves.specs.Notices.{same_row, plain_notice}
use Rattle.acap_moves.proofs.Splits.{itself, same_name}
use Rattle.acap_moves.proofs.ListSteps.{Absent, spot_absent, spot_put, rows_put, held_absent, row_of}

not_some : (o : Option Row) → is_some o ≡ false → o ≡ None
not_some None e = refl
not_some (Some x) e = cc

get_inserted : (m : RowMap) (p : Name) (x : Row) → get (finite.insert m p x) p ≡ Some x
get_inserted m p x = get-insert nat_list_cmp_total m p x p ∙ ap (λ b. cond b (Some x) (get m p)) (sym (texts_ties p p) ∙ itself p p refl)

remove_inserted : (m : RowMap) (p : Name) (x : Row) → get m p ≡ None → finite.remove (finite.insert m p x) p ≡ m
remove_inserted m p x n = same_map nat_list_cmp_total octets_same _ _ (λ q.
    get-remove nat_list_cmp_total (finite.insert m p x) p q
    ∙ elim (eq_by_cmp octets_cmp q p) as (λ b. eq_by_cmp octets_cmp q p ≡ b → cond b None (get (finite.insert m p x) q) ≡ get m q) [
      | true ↦ λ e. sym n ∙ ap (get m) (sym (same_name q p (texts_ties q p ∙ e)))
      | false ↦ λ e. get-insert nat_list_cmp_total m p x q ∙ ap (λ b. cond b (Some x) (get m q)) e
    ] refl)

insert_inserted : (m : RowMap) (p : Name) (x y : Row) → finite.insert (finite.insert m p x) p y ≡ finite.insert m p y
insert_inserted m p x y = same_map nat_list_cmp_total octets_same _ _ (λ q.
    get-insert nat_list_cmp_total (finite.insert m p x) p y q
    ∙ elim (eq_by_cmp octets_cmp q p) as (λ b. eq_by_cmp octets_cmp q p ≡ b → cond b (Some y) (get (finite.insert m p x) q) ≡ cond b (Some y) (get m q)) [
      | true ↦ λ e. refl
      | false ↦ λ e. get-insert nat_list_cmp_total m p x q ∙ ap (λ b. cond b (Some x) (get m q)) e
    ] refl
    ∙ sym (get-insert nat_list_cmp_total m p y q))

mapped_applied : (m new : RowMap) (n : Notice) → mapped_after m n ≡ Some new → holding_after_all (Mapped m) (n ∷ []) ≡ Some (Mapped new)
mapped_applied m new n e = rw e refl

add_fits : (m : RowMap) (r : Row) → get m r.name ≡ None → mapped_after m (AddTo 0 r) ≡ Some (finite.insert m r.name r)
unfolding mapped_after
add_fits m r e = rw e refl

remove_fits : (m : RowMap) (p : Name) (r : Row) → p ≡ r.name → get m p ≡ None → mapped_after (finite.insert m r.name r) (RemoveFrom p 0) ≡ Some m
unfolding mapped_after
remove_fits m p r e n =
    subst (λ q. cond (is_some (get (finite.insert m q r) p)) (Some (finite.remove (finite.insert m q r) p)) None ≡ Some m) e
    (ap (λ o. cond (is_some o) (Some (finite.remove (finite.insert m p r) p)) None) (get_inserted m p r) ∙ ap Some (remove_inserted m p r n))

change_fits : (m : RowMap) (r s : Row) → r.name ≡ s.name → mapped_after (finite.insert m r.name r) (Change 0 0 s) ≡ Some (finite.insert m s.name s)
unfolding mapped_after
change_fits m r s e =
    subst (λ q. cond (is_some (get (finite.insert m q r) s.name)) (Some (finite.insert (finite.insert m q r) s.name s)) None ≡ Some (finite.insert m s.name s)) (sym e)
    (ap (λ o. cond (is_some o) (Some (finite.insert (finite.insert m s.name r) s.name s)) None) (get_inserted m s.name r) ∙ ap Some (insert_inserted m s.name r s))

module _ {H : Type 0} (v : Shape H) (l : IsLawful v) where
  get_absent : (p : Name) (es : List H) → Absent v p es → get (by_name (rows v es)) p ≡ None
  get_absent p es a = not_some _ (get_held p (rows v es) ∙ held_absent v l p es a)

  map_put : (p : Name) (h : H) (es : List H) → v.name h ≡ p → Absent v p es → by_name (rows v (put v h es)) ≡ finite.insert (by_name (rows v es)) (v.row h).name (v.row h)
  map_put p h es e a =
      ap by_name (rows_put v h es)
      ∙ name_insert (rows v es) (rank v h es) (v.row h) (subst (λ n. is_held n (rows v es) ≡ false) (row_of v l p h e) (held_absent v l p es a))

  add_step : (p : Name) (h : H) (es : List H) → Absent v p es → v.name h ≡ p →
      holding_after_all (Mapped (by_name (rows v es))) (plain_notice v p (spot v p es) (spot v p (put v h es))) ≡ Some (Mapped (by_name (rows v (put v h es))))
  add_step p h es a e =
      rw (spot_absent v p es a, spot_put v p h es e a, map_put p h es e a)
      (mapped_applied _ _ _ (add_fits (by_name (rows v es)) (v.row h) (subst (λ n. get (by_name (rows v es)) n ≡ None) (row_of v l p h e) (get_absent p es a))))

  remove_step : (p : Name) (h : H) (es : List H) → Absent v p es → v.name h ≡ p →
      holding_after_all (Mapped (by_name (rows v (put v h es)))) (plain_notice v p (spot v p (put v h es)) (spot v p es)) ≡ Some (Mapped (by_name (rows v es)))
  remove_step p h es a e =
      rw (spot_absent v p es a, spot_put v p h es e a, map_put p h es e a)
      (mapped_applied _ _ _ (remove_fits (by_name (rows v es)) p (v.row h) (row_of v l p h e) (get_absent p es a)))

  change_step : (p : Name) (g h : H) (es : List H) → Absent v p es → v.name g ≡ p → v.name h ≡ p →
      holding_after_all (Mapped (by_name (rows v (put v g es)))) (plain_notice v p (spot v p (put v g es)) (spot v p (put v h es))) ≡ Some (Mapped (by_name (rows v (put v h es))))
  change_step p g h es a d e =
      rw (spot_put v p g es d a, spot_put v p h es e a, map_put p g es d a, map_put p h es e a)
      (elim (same_row (v.row g) (v.row h)) as (λ b. same_row (v.row g) (v.row h) ≡ b →
      holding_after_all (Mapped (finite.insert (by_name (rows v es)) (v.row g).name (v.row g))) (cond b [] (Change 0 0 (v.row h) ∷ [])) ≡ Some (Mapped (finite.insert (by_name (rows v es)) (v.row h).name (v.row h)))) [
        | true ↦ λ t. rw ((row_exact (v.row g) (v.row h)).0 t) refl
        | false ↦ λ t. mapped_applied _ _ _ (change_fits (by_name (rows v es)) (v.row g) (v.row h) (sym (row_of v l p g d) ∙ row_of v l p h e))
      ] refl)

  none_step : (p : Name) (es : List H) → Absent v p es →
      holding_after_all (Mapped (by_name (rows v es))) (plain_notice v p (spot v p es) (spot v p es)) ≡ Some (Mapped (by_name (rows v es)))
  none_step p es a = rw (spot_absent v p es a) refl

  -- one notice takes the map with the name's old hit to that with its new one
  pub mapped_step : (p : Name) (a b : Option H) (es : List H) → Absent v p es → ((h : H) → a ≡ Some h → v.name h ≡ p) → ((h : H) → b ≡ Some h → v.name h ≡ p) →
      holding_after_all (Mapped (by_name (rows v (put_some v a es)))) (plain_notice v p (spot v p (put_some v a es)) (spot v p (put_some v b es))) ≡ Some (Mapped (by_name (rows v (put_some v b es))))
  unfolding put_some
  mapped_step p None None es n d e = none_step p es n
  mapped_step p None (Some h) es n d e = add_step p h es n (e h refl)
  mapped_step p (Some g) None es n d e = remove_step p g es n (d g refl)
  mapped_step p (Some g) (Some h) es n d e = change_step p g h es n (d g refl) (e h refl)
