-- Rows in the order of their names, as a map by name.
use Rattle.std.proofs.Common.{◌≡◌, ℕ, zero, suc, Bool, true, false, cond, List, [], ◌∷◌, map, length, get_or, set, refl, sym, ap, subst, ◌∙◌, Some, None}
use Rattle.std.specs.Prelude.{is_some}
use Rattle.std.specs.List.{insert, remove}
use Rattle.std.specs.declared.cmp.Ordering.TheVariants.{Less, Equal, Greater}
use Rattle.std.specs.Cmp.Lexicographic.{nat_list_cmp_total}
use Rattle.std.specs.FinMap as finite
use Rattle.std.specs.FinMap.Entries.{by_order as in_turn}
use Rattle.acap_entries.specs.Orders.{octets_cmp}
use Rattle.acap_ordmap.specs.Sorted.{place, is_tied, put_in, without, InOrder}
use Rattle.acap_ordmap.proofs.MapLemmas.{entries_kept, get_kept, insert_kept, put_in_order, remove_kept, without_in_order}
use Rattle.acap_ordmap.proofs.SortedLemmas.{put_in_absent, put_in_tied, without_tied, found_tied, found_absent}
use Rattle.acap_entries.proofs.StoreLemmas.{octets_same}
use Rattle.acap_grammar.specs.Printed.{PrintedRow, AddTo, RemoveFrom, Change, printed_map_after}
use Rattle.acap_client.specs.Placing.{keyed, by_order, held_in, rows_of, IsInPlace}

pub length_keyed : (rows : List PrintedRow) → length (keyed rows) ≡ length rows
length_keyed [] = refl
length_keyed (r ∷ rows) = ap suc (length_keyed rows)

pub keyed_at : (rows : List PrintedRow) (i : ℕ) (d : PrintedRow) → get_or (keyed rows) i (d.name, d) ≡ ((get_or rows i d).name, get_or rows i d)
keyed_at [] i d = refl
keyed_at (r ∷ rows) zero d = refl
keyed_at (r ∷ rows) (suc i) d = keyed_at rows i d

keyed_insert : (rows : List PrintedRow) (i : ℕ) (row : PrintedRow) → keyed (insert rows i row) ≡ insert (keyed rows) i (row.name, row)
keyed_insert [] zero row = refl
keyed_insert [] (suc i) row = refl
keyed_insert (r ∷ rows) zero row = refl
keyed_insert (r ∷ rows) (suc i) row = ap (λ t. (r.name, r) ∷ t) (keyed_insert rows i row)

keyed_remove : (rows : List PrintedRow) (i : ℕ) → keyed (remove rows i) ≡ remove (keyed rows) i
keyed_remove [] zero = refl
keyed_remove [] (suc i) = refl
keyed_remove (r ∷ rows) zero = refl
keyed_remove (r ∷ rows) (suc i) = ap (λ t. (r.name, r) ∷ t) (keyed_remove rows i)

keyed_set : (rows : List PrintedRow) (i : ℕ) (row : PrintedRow) → keyed (set rows i row) ≡ set (keyed rows) i (row.name, row)
keyed_set [] i row = refl
keyed_set (r ∷ rows) zero row = refl
keyed_set (r ∷ rows) (suc i) row = ap (λ t. (r.name, r) ∷ t) (keyed_set rows i row)

-- the key that stands at the place of a key that is there
tied_key : (k : List ℕ) (es : List (List ℕ × PrintedRow)) (d : List ℕ × PrintedRow) → is_tied octets_cmp k es ≡ true → (get_or es (place octets_cmp k es) d).0 ≡ k
tied_key k [] d = λ e. cc
tied_key k (x ∷ es) d = elim (octets_cmp k x.0) as (λ o. octets_cmp k x.0 ≡ o → in_turn o false true (is_tied octets_cmp k es) ≡ true → (get_or (x ∷ es) (in_turn o 0 0 (suc (place octets_cmp k es))) d).0 ≡ k) [
  | Less ↦ λ p e. cc
  | Equal ↦ λ p e. sym (octets_same k x.0 p)
  | Greater ↦ λ p e. tied_key k es d e
] refl

-- what a row is found as
pub held_there : (rows : List PrintedRow) (k : List ℕ) (d : PrintedRow) → InOrder octets_cmp (keyed rows) → is_tied octets_cmp k (keyed rows) ≡ true
    → finite.get (by_order rows) k ≡ Some (get_or rows (place octets_cmp k (keyed rows)) d)
held_there rows k d h t =
    get_kept octets_cmp nat_list_cmp_total (keyed rows) k h ∙ found_tied octets_cmp nat_list_cmp_total k (keyed rows) (d.name, d) h t
    ∙ ap (λ e. Some e.1) (keyed_at rows (place octets_cmp k (keyed rows)) d)

pub held_not : (rows : List PrintedRow) (k : List ℕ) → InOrder octets_cmp (keyed rows) → is_tied octets_cmp k (keyed rows) ≡ false → finite.get (by_order rows) k ≡ None
held_not rows k h t = get_kept octets_cmp nat_list_cmp_total (keyed rows) k h ∙ found_absent octets_cmp nat_list_cmp_total k (keyed rows) h t

pub tied_held : (rows : List PrintedRow) (k : List ℕ) → InOrder octets_cmp (keyed rows) → is_some (finite.get (by_order rows) k) ≡ is_tied octets_cmp k (keyed rows)
tied_held rows k h = elim (is_tied octets_cmp k (keyed rows)) as (λ b. is_tied octets_cmp k (keyed rows) ≡ b → is_some (finite.get (by_order rows) k) ≡ b) [
  | true ↦ λ t. ap is_some (held_there rows k (record { name = []; items = [] }) h t)
  | false ↦ λ t. ap is_some (held_not rows k h t)
] refl

-- ---- the three edits

abbrev pub place_in : List PrintedRow → List ℕ → ℕ
place_in rows k = place octets_cmp k (keyed rows)

added : (rows : List PrintedRow) (row : PrintedRow) → is_tied octets_cmp row.name (keyed rows) ≡ false → keyed (insert rows (place_in rows row.name) row) ≡ put_in octets_cmp row.name row (keyed rows)
added rows row t = keyed_insert rows (place_in rows row.name) row ∙ sym (put_in_absent octets_cmp row.name row (keyed rows) t)

changed : (rows : List PrintedRow) (row d : PrintedRow) → is_tied octets_cmp row.name (keyed rows) ≡ true → keyed (set rows (place_in rows row.name) row) ≡ put_in octets_cmp row.name row (keyed rows)
changed rows row d t =
    keyed_set rows (place_in rows row.name) row
    ∙ ap (λ k. set (keyed rows) (place_in rows row.name) (k, row)) (sym (tied_key row.name (keyed rows) (d.name, d) t))
    ∙ sym (put_in_tied octets_cmp row.name row (keyed rows) (d.name, d) t)

pub add_order : (rows : List PrintedRow) (row : PrintedRow) → InOrder octets_cmp (keyed rows) → is_tied octets_cmp row.name (keyed rows) ≡ false → InOrder octets_cmp (keyed (insert rows (place_in rows row.name) row))
add_order rows row h t = subst (InOrder octets_cmp) (sym (added rows row t)) (put_in_order octets_cmp nat_list_cmp_total (keyed rows) row.name row h)

pub change_order : (rows : List PrintedRow) (row : PrintedRow) → InOrder octets_cmp (keyed rows) → is_tied octets_cmp row.name (keyed rows) ≡ true → InOrder octets_cmp (keyed (set rows (place_in rows row.name) row))
change_order rows row h t = subst (InOrder octets_cmp) (sym (changed rows row row t)) (put_in_order octets_cmp nat_list_cmp_total (keyed rows) row.name row h)

left : (rows : List PrintedRow) (k : List ℕ) → InOrder octets_cmp (keyed rows) → is_tied octets_cmp k (keyed rows) ≡ true → keyed (remove rows (place_in rows k)) ≡ without octets_cmp k (keyed rows)
left rows k h t = keyed_remove rows (place_in rows k) ∙ sym (without_tied octets_cmp nat_list_cmp_total k (keyed rows) h t)

pub remove_order : (rows : List PrintedRow) (k : List ℕ) → InOrder octets_cmp (keyed rows) → is_tied octets_cmp k (keyed rows) ≡ true → InOrder octets_cmp (keyed (remove rows (place_in rows k)))
remove_order rows k h t = subst (InOrder octets_cmp) (sym (left rows k h t)) (without_in_order octets_cmp nat_list_cmp_total (keyed rows) k h)

pub insert_is : (rows : List PrintedRow) (row : PrintedRow) → InOrder octets_cmp (keyed rows) → is_tied octets_cmp row.name (keyed rows) ≡ false → by_order (insert rows (place_in rows row.name) row) ≡ finite.insert (by_order rows) row.name row
insert_is rows row h t = ap finite.from_sorted (added rows row t) ∙ insert_kept octets_cmp nat_list_cmp_total (keyed rows) row.name row h

set_is : (rows : List PrintedRow) (row : PrintedRow) → InOrder octets_cmp (keyed rows) → is_tied octets_cmp row.name (keyed rows) ≡ true → by_order (set rows (place_in rows row.name) row) ≡ finite.insert (by_order rows) row.name row
set_is rows row h t = ap finite.from_sorted (changed rows row row t) ∙ insert_kept octets_cmp nat_list_cmp_total (keyed rows) row.name row h

remove_is : (rows : List PrintedRow) (k : List ℕ) → InOrder octets_cmp (keyed rows) → is_tied octets_cmp k (keyed rows) ≡ true → by_order (remove rows (place_in rows k)) ≡ finite.remove (by_order rows) k
remove_is rows k h t = ap finite.from_sorted (left rows k h t) ∙ remove_kept octets_cmp nat_list_cmp_total octets_same (keyed rows) k h

-- ---- what a notice leads to

pub add_leads : (rows : List PrintedRow) (n : ℕ) (row : PrintedRow) → InOrder octets_cmp (keyed rows) → is_tied octets_cmp row.name (keyed rows) ≡ false
    → printed_map_after (by_order rows) (AddTo n row) ≡ Some (by_order (insert rows (place_in rows row.name) row))
unfolding printed_map_after
add_leads rows n row h t = ap (λ b. cond b None (Some (finite.insert (by_order rows) row.name row))) (tied_held rows row.name h ∙ t) ∙ ap Some (sym (insert_is rows row h t))

pub add_misfits : (rows : List PrintedRow) (n : ℕ) (row : PrintedRow) → InOrder octets_cmp (keyed rows) → is_tied octets_cmp row.name (keyed rows) ≡ true
    → printed_map_after (by_order rows) (AddTo n row) ≡ None
unfolding printed_map_after
add_misfits rows n row h t = ap (λ b. cond b None (Some (finite.insert (by_order rows) row.name row))) (tied_held rows row.name h ∙ t)

pub remove_leads : (rows : List PrintedRow) (n : ℕ) (k : List ℕ) → InOrder octets_cmp (keyed rows) → is_tied octets_cmp k (keyed rows) ≡ true
    → printed_map_after (by_order rows) (RemoveFrom k n) ≡ Some (by_order (remove rows (place_in rows k)))
unfolding printed_map_after
remove_leads rows n k h t = ap (λ b. cond b (Some (finite.remove (by_order rows) k)) None) (tied_held rows k h ∙ t) ∙ ap Some (sym (remove_is rows k h t))

pub remove_misfits : (rows : List PrintedRow) (n : ℕ) (k : List ℕ) → InOrder octets_cmp (keyed rows) → is_tied octets_cmp k (keyed rows) ≡ false
    → printed_map_after (by_order rows) (RemoveFrom k n) ≡ None
unfolding printed_map_after
remove_misfits rows n k h t = ap (λ b. cond b (Some (finite.remove (by_order rows) k)) None) (tied_held rows k h ∙ t)

pub change_leads : (rows : List PrintedRow) (m n : ℕ) (row : PrintedRow) → InOrder octets_cmp (keyed rows) → is_tied octets_cmp row.name (keyed rows) ≡ true
    → printed_map_after (by_order rows) (Change m n row) ≡ Some (by_order (set rows (place_in rows row.name) row))
unfolding printed_map_after
change_leads rows m n row h t = ap (λ b. cond b (Some (finite.insert (by_order rows) row.name row)) None) (tied_held rows row.name h ∙ t) ∙ ap Some (sym (set_is rows row h t))

pub change_misfits : (rows : List PrintedRow) (m n : ℕ) (row : PrintedRow) → InOrder octets_cmp (keyed rows) → is_tied octets_cmp row.name (keyed rows) ≡ false
    → printed_map_after (by_order rows) (Change m n row) ≡ None
unfolding printed_map_after
change_misfits rows m n row h t = ap (λ b. cond b (Some (finite.insert (by_order rows) row.name row)) None) (tied_held rows row.name h ∙ t)

-- ---- as the code tells them

pub tied_in : (entry : List ℕ) (seen rows : List PrintedRow) (tied b : Bool) → tied ≡ is_tied octets_cmp entry (keyed seen) → tied ≡ b → seen ≡ rows → is_tied octets_cmp entry (keyed rows) ≡ b
tied_in entry seen rows tied b e t same = ap (λ rows. is_tied octets_cmp entry (keyed rows)) (sym same) ∙ sym e ∙ t

pub placed_in : (entry : List ℕ) (seen rows : List PrintedRow) (at : ℕ) → at ≡ place octets_cmp entry (keyed seen) → seen ≡ rows → at ≡ place octets_cmp entry (keyed rows)
placed_in entry seen rows at e same = e ∙ ap (λ rows. place octets_cmp entry (keyed rows)) same

pub added_at : (rows new : List PrintedRow) (row : PrintedRow) (at : ℕ) → InOrder octets_cmp (keyed rows) → is_tied octets_cmp row.name (keyed rows) ≡ false → at ≡ place octets_cmp row.name (keyed rows) → new ≡ insert rows at row
    → (printed_map_after (by_order rows) (AddTo 0 row) ≡ Some (by_order new)) × InOrder octets_cmp (keyed new)
added_at rows new row at h t p e =
    let left : new ≡ insert rows (place_in rows row.name) row = e ∙ ap (λ i. insert rows i row) p in
    (add_leads rows 0 row h t ∙ ap (λ t. Some (by_order t)) (sym left), subst (λ t. InOrder octets_cmp (keyed t)) (sym left) (add_order rows row h t))

pub removed_at : (rows new : List PrintedRow) (entry : List ℕ) (at : ℕ) → InOrder octets_cmp (keyed rows) → is_tied octets_cmp entry (keyed rows) ≡ true → at ≡ place octets_cmp entry (keyed rows) → new ≡ remove rows at
    → (printed_map_after (by_order rows) (RemoveFrom entry 0) ≡ Some (by_order new)) × InOrder octets_cmp (keyed new)
removed_at rows new entry at h t p e =
    let left : new ≡ remove rows (place_in rows entry) = e ∙ ap (remove rows) p in
    (remove_leads rows 0 entry h t ∙ ap (λ t. Some (by_order t)) (sym left), subst (λ t. InOrder octets_cmp (keyed t)) (sym left) (remove_order rows entry h t))

pub changed_at : (rows new : List PrintedRow) (row : PrintedRow) (at : ℕ) → InOrder octets_cmp (keyed rows) → is_tied octets_cmp row.name (keyed rows) ≡ true → at ≡ place octets_cmp row.name (keyed rows) → new ≡ set rows at row
    → (printed_map_after (by_order rows) (Change 0 0 row) ≡ Some (by_order new)) × InOrder octets_cmp (keyed new)
changed_at rows new row at h t p e =
    let left : new ≡ set rows (place_in rows row.name) row = e ∙ ap (λ i. set rows i row) p in
    (change_leads rows 0 0 row h t ∙ ap (λ t. Some (by_order t)) (sym left), subst (λ t. InOrder octets_cmp (keyed t)) (sym left) (change_order rows row h t))

values_keyed : (rows : List PrintedRow) → map (λ e. e.1) (keyed rows) ≡ rows
values_keyed [] = refl
values_keyed (r ∷ rows) = ap (λ t. r ∷ t) (values_keyed rows)

-- the rows that are held
pub rows_in : (enumerated : Bool) (rows : List PrintedRow) → IsInPlace enumerated rows → rows_of (held_in enumerated rows) ≡ rows
rows_in true rows p = refl
rows_in false rows p = ap (map (λ e. e.1)) (entries_kept octets_cmp (keyed rows) (p.rises refl)) ∙ values_keyed rows
