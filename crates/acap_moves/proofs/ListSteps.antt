-- One notice, applied to a list with positions.
use Rattle.std.proofs.Common.{◌≡◌, ℕ, suc, ◌+◌, ◌≤◌, true, false, ◌&&◌, eqb, List, [], ◌∷◌, length, map, Some, None, Option, refl, sym, ap, subst, ◌∙◌, arith, tests, cond}
use Rattle.std.specs.declared.cmp.Ordering.TheVariants.{Less, Equal, Greater}
use Rattle.std.specs.Prelude.{nat_le}
use Rattle.std.specs.List.{insert}
use Rattle.std.specs.Option.{option_map}
use Rattle.std.specs.FinMap.Entries.{by_order}
use Rattle.std.proofs.lemmas.Bool.{and_parts}
use Rattle.acap_entries.specs.Orders.{octets_eq}
use Rattle.acap_entries.specs.declared.row.Row.{Row}
use Rattle.acap_entries.proofs.Equalities.{row_exact}
use Rattle.acap_ordmap.proofs.Logic.{one_back}
use Rattle.acap_notices.specs.declared.notice.Notice.{Notice}
use Rattle.acap_notices.specs.declared.notice.Notice.TheVariants.{AddTo, RemoveFrom, Change}
use Rattle.acap_notices.specs.Rows.{is_held, stands_at, has_position}
use Rattle.acap_notices.specs.Client.{listed_after}
use Rattle.acap_notices.specs.Holding.{Holding, Listed, holding_after, holding_after_all}
use Rattle.acap_notices.proofs.RowLemmas.{get-insert, remove-insert}
use Rattle.acap_moves.specs.Hits.{Name, Shape, IsLawful, put, put_some, rank, found, rows, spot}
use Rattle.acap_moves.specs.Notices.{same_row, listed_notice}
use Rattle.acap_moves.proofs.Splits.{itself}
use borrow.Author.Tests.{eqb-true}

fits : (i : ℕ) (rs : List Row) → i ≤ length rs → has_position (i + 1) rs ≡ true
fits i rs h = grind (arith, tests)

add_fits : (rs : List Row) (r : Row) (j : ℕ) → is_held r.name rs ≡ false → j ≤ length rs → listed_after rs (AddTo (j + 1) r) ≡ Some (insert rs j r)
unfolding listed_after
add_fits rs r j a h = rw (a, fits j rs h, one_back j) refl

stands_inserted : (rs : List Row) (p : Name) (r : Row) (i : ℕ) → p ≡ r.name → i ≤ length rs → stands_at p (i + 1) (insert rs i r) ≡ true
stands_inserted rs p r i e h =
    let above : nat_le 1 (i + 1) ≡ true = grind (arith, tests) in
    rw (above, one_back i, get-insert rs i r h) (itself p r.name e)

remove_fits : (rs : List Row) (p : Name) (r : Row) (i : ℕ) → p ≡ r.name → i ≤ length rs → listed_after (insert rs i r) (RemoveFrom p (i + 1)) ≡ Some rs
unfolding listed_after
remove_fits rs p r i e h = rw (stands_inserted rs p r i e h, one_back i, remove-insert rs i r h) refl

change_fits : (rs : List Row) (r s : Row) (i j : ℕ) → s.name ≡ r.name → i ≤ length rs → j ≤ length rs → listed_after (insert rs i r) (Change (i + 1) (j + 1) s) ≡ Some (insert rs j s)
unfolding listed_after
change_fits rs r s i j e h k = rw (stands_inserted rs s.name r i e h, one_back i, remove-insert rs i r h, fits j rs k, one_back j) refl

module _ {H : Type 0} (v : Shape H) where
  -- no hit is of the name
  unfoldable pub Absent : Name → List H → Type 0
  Absent p [] = Unit {0}
  Absent p (h ∷ hs) = (octets_eq p (v.name h) ≡ false) × Absent p hs

  pub absent_put : (p : Name) (h : H) (es : List H) → octets_eq p (v.name h) ≡ false → Absent p es → Absent p (put v h es)
  unfolding Absent put
  absent_put p h [] n a = (n, tt)
  absent_put p h (e ∷ es) n a = elim (v.order h e) as (λ r. Absent p (by_order r (h ∷ e ∷ es) (h ∷ e ∷ es) (e ∷ put v h es))) [
    | Less ↦ (n, a)
    | Equal ↦ (n, a)
    | Greater ↦ (a.0, absent_put p h es n a.1)
  ]

  pub found_absent : (p : Name) (es : List H) → Absent p es → found v p es ≡ None
  unfolding Absent found
  found_absent p [] a = refl
  found_absent p (e ∷ es) a = rw (a.0, found_absent p es a.1) refl

  found_first : (p : Name) (h : H) (es : List H) → v.name h ≡ p → found v p (h ∷ es) ≡ Some (0, h)
  unfolding found
  found_first p h es e = rw (itself p (v.name h) (sym e)) refl

  found_later : (p : Name) (x : H) (es : List H) (n : ℕ) (y : H) → octets_eq p (v.name x) ≡ false → found v p es ≡ Some (n, y) → found v p (x ∷ es) ≡ Some (suc n, y)
  unfolding found
  found_later p x es n y e s = rw (e, s) refl

  pub found_put : (p : Name) (h : H) (es : List H) → v.name h ≡ p → Absent p es → found v p (put v h es) ≡ Some (rank v h es, h)
  unfolding Absent put rank
  found_put p h [] e a = found_first p h [] e
  found_put p h (x ∷ es) e a = elim (v.order h x) as (λ r. found v p (by_order r (h ∷ x ∷ es) (h ∷ x ∷ es) (x ∷ put v h es)) ≡ Some (by_order r 0 0 (suc (rank v h es)), h)) [
    | Less ↦ found_first p h (x ∷ es) e
    | Equal ↦ found_first p h (x ∷ es) e
    | Greater ↦ found_later p x (put v h es) (rank v h es) h a.0 (found_put p h es e a.1)
  ]

  pub spot_absent : (p : Name) (es : List H) → Absent p es → spot v p es ≡ None
  unfolding spot
  spot_absent p es a = rw (found_absent p es a) refl

  pub spot_put : (p : Name) (h : H) (es : List H) → v.name h ≡ p → Absent p es → spot v p (put v h es) ≡ Some (rank v h es + 1, h)
  unfolding spot
  spot_put p h es e a = rw (found_put p h es e a) refl

  pub rows_put : (h : H) (es : List H) → rows v (put v h es) ≡ insert (rows v es) (rank v h es) (v.row h)
  unfolding put rank rows
  rows_put h [] = refl
  rows_put h (x ∷ es) = elim (v.order h x) as (λ r. map v.row (by_order r (h ∷ x ∷ es) (h ∷ x ∷ es) (x ∷ put v h es)) ≡ insert (rows v (x ∷ es)) (by_order r 0 0 (suc (rank v h es))) (v.row h)) [
    | Less ↦ refl
    | Equal ↦ refl
    | Greater ↦ ap (λ t. v.row x ∷ t) (rows_put h es)
  ]

  rank_le : (h : H) (es : List H) → rank v h es ≤ length (rows v es)
  unfolding rank rows
  rank_le h [] = omega arith
  rank_le h (x ∷ es) = elim (v.order h x) as (λ r. by_order r 0 0 (suc (rank v h es)) ≤ length (rows v (x ∷ es))) [
    | Less ↦ omega arith
    | Equal ↦ omega arith
    | Greater ↦ let e = rank_le h es in omega arith
  ]

  pub held_absent : IsLawful v → (p : Name) (es : List H) → Absent p es → is_held p (rows v es) ≡ false
  unfolding Absent rows
  held_absent l p [] a = refl
  held_absent l p (e ∷ es) a = rw (l.row_name e, a.0) (held_absent l p es a.1)

one_applied : (held new : Holding) (n : Notice) → holding_after held n ≡ Some new → holding_after_all held (n ∷ []) ≡ Some new
one_applied held new n e = rw e refl

listed_applied : (rs new : List Row) (n : Notice) → listed_after rs n ≡ Some new → holding_after_all (Listed rs) (n ∷ []) ≡ Some (Listed new)
listed_applied rs new n e = one_applied (Listed rs) (Listed new) n (ap (option_map Listed) e)

module _ {H : Type 0} (v : Shape H) (l : IsLawful v) where
  pub row_of : (p : Name) (h : H) → v.name h ≡ p → p ≡ (v.row h).name
  row_of p h e = sym e ∙ sym (l.row_name h)

  add_step : (p : Name) (h : H) (es : List H) → Absent v p es → v.name h ≡ p →
      holding_after_all (Listed (rows v es)) (listed_notice v p (spot v p es) (spot v p (put v h es))) ≡ Some (Listed (rows v (put v h es)))
  add_step p h es a e =
      rw (spot_absent v p es a, spot_put v p h es e a, rows_put v h es)
      (listed_applied (rows v es) _ _ (add_fits (rows v es) (v.row h) (rank v h es) (subst (λ n. is_held n (rows v es) ≡ false) (row_of p h e) (held_absent v l p es a)) (rank_le v h es)))

  remove_step : (p : Name) (h : H) (es : List H) → Absent v p es → v.name h ≡ p →
      holding_after_all (Listed (rows v (put v h es))) (listed_notice v p (spot v p (put v h es)) (spot v p es)) ≡ Some (Listed (rows v es))
  remove_step p h es a e =
      rw (spot_absent v p es a, spot_put v p h es e a, rows_put v h es)
      (listed_applied _ _ _ (remove_fits (rows v es) p (v.row h) (rank v h es) (row_of p h e) (rank_le v h es)))

  change_step : (p : Name) (g h : H) (es : List H) → Absent v p es → v.name g ≡ p → v.name h ≡ p →
      holding_after_all (Listed (rows v (put v g es))) (listed_notice v p (spot v p (put v g es)) (spot v p (put v h es))) ≡ Some (Listed (rows v (put v h es)))
  change_step p g h es a d e =
      rw (spot_put v p g es d a, spot_put v p h es e a, rows_put v g es, rows_put v h es)
      (elim (eqb (rank v g es + 1) (rank v h es + 1) && same_row (v.row g) (v.row h)) as (λ b. (eqb (rank v g es + 1) (rank v h es + 1) && same_row (v.row g) (v.row h)) ≡ b →
      holding_after_all (Listed (insert (rows v es) (rank v g es) (v.row g))) (cond b [] (Change (rank v g es + 1) (rank v h es + 1) (v.row h) ∷ [])) ≡ Some (Listed (insert (rows v es) (rank v h es) (v.row h)))) [
        | true ↦ λ t.
            let two = and_parts (eqb (rank v g es + 1) (rank v h es + 1)) (same_row (v.row g) (v.row h)) t in
            let places : rank v g es ≡ rank v h es = let m : rank v g es + 1 ≡ rank v h es + 1 = eqb-true _ _ two.0 in omega arith in
            let shown : v.row g ≡ v.row h = (row_exact (v.row g) (v.row h)).0 two.1 in
            rw (places, shown) refl
        | false ↦ λ t. listed_applied _ _ _ (change_fits (rows v es) (v.row g) (v.row h) (rank v g es) (rank v h es) (sym (row_of p h e) ∙ row_of p g d) (rank_le v g es) (rank_le v h es))
      ] refl)

  none_step : (p : Name) (es : List H) → Absent v p es →
      holding_after_all (Listed (rows v es)) (listed_notice v p (spot v p es) (spot v p es)) ≡ Some (Listed (rows v es))
  none_step p es a = rw (spot_absent v p es a) refl

  -- one notice takes the rows with the name's old hit to those with its new one
  pub listed_step : (p : Name) (a b : Option H) (es : List H) → Absent v p es → ((h : H) → a ≡ Some h → v.name h ≡ p) → ((h : H) → b ≡ Some h → v.name h ≡ p) →
      holding_after_all (Listed (rows v (put_some v a es))) (listed_notice v p (spot v p (put_some v a es)) (spot v p (put_some v b es))) ≡ Some (Listed (rows v (put_some v b es)))
  unfolding put_some
  listed_step p None None es n d e = none_step p es n
  listed_step p None (Some h) es n d e = add_step p h es n (e h refl)
  listed_step p (Some g) None es n d e = remove_step p g es n (d g refl)
  listed_step p (Some g) (Some h) es n d e = change_step p g h es n (d g refl) (e h refl)
