-- Rows by name.
use Rattle.std.proofs.Common.{◌≡◌, ℕ, zero, suc, true, false, ◌||◌, List, [], ◌∷◌, map, cond, refl, sym, ap, ◌∙◌, true≢false}
use Rattle.std.specs.Prelude.{Option, Some, None, is_some, slice_get}
use Rattle.std.specs.List.{insert, remove}
use Rattle.std.specs.Cmp.Lexicographic.{bytes_decides, nat_list_cmp_total, texts_ties}
use Rattle.std.specs.Ordering.{eq_by_cmp}
use Rattle.std.specs.FinMap as finite
use Rattle.std.specs.FinMap.{get, get-from_entries, get-insert, get-remove, same_map}
use Rattle.std.specs.FinMap.Entries.{find}
use Rattle.acap_entries.specs.Orders.{octets_cmp, octets_eq}
use Rattle.acap_entries.specs.declared.row.Row.{Row}
use Rattle.acap_entries.proofs.StoreLemmas.{octets_same}
use Rattle.acap_notices.specs.Rows.{is_held, is_of, is_each_once, RowMap, by_name}
use Rattle.acap_notices.proofs.RowLemmas.{of_held, held_same, once_first, once_rest, apart_first, apart_rest}

-- the first row of an entry
row_of : List ℕ → List Row → Option Row
row_of entry [] = None
row_of entry (row ∷ rows) = cond (octets_eq entry row.name) (Some row) (row_of entry rows)

found_row : (q : List ℕ) (rows : List Row) → find octets_cmp q (map (λ row. (row.name, row)) rows) ≡ row_of q rows
unfolding row_of
found_row q [] = refl
found_row q (r ∷ rows) = ap (λ b. cond b (Some r) (find octets_cmp q (map (λ row. (row.name, row)) rows))) (sym (texts_ties q r.name)) ∙ ap (λ o. cond (octets_eq q r.name) (Some r) o) (found_row q rows)

get_row : (q : List ℕ) (rows : List Row) → get (by_name rows) q ≡ row_of q rows
get_row q rows = get-from_entries nat_list_cmp_total (map (λ row. (row.name, row)) rows) q ∙ found_row q rows

some_held : (q : List ℕ) (rows : List Row) → is_some (row_of q rows) ≡ is_held q rows
unfolding row_of
some_held q [] = refl
some_held q (r ∷ rows) = elim (octets_eq q r.name) as (λ b. is_some (cond b (Some r) (row_of q rows)) ≡ (b || is_held q rows)) [ true ↦ refl | false ↦ some_held q rows ]

pub get_held : (q : List ℕ) (rows : List Row) → is_some (get (by_name rows) q) ≡ is_held q rows
get_held q rows = ap is_some (get_row q rows) ∙ some_held q rows

none_held : (q : List ℕ) (rows : List Row) → is_held q rows ≡ false → row_of q rows ≡ None
none_held q rows h = elim (row_of q rows) as (λ o. row_of q rows ≡ o → o ≡ None) [
  | None ↦ λ e. refl
  | (Some x) ↦ λ e. absurd (true≢false (sym (ap is_some e) ∙ some_held q rows ∙ h))
] refl

swapped : (q : List ℕ) (r row : Row) (o : Option Row) → octets_eq row.name r.name ≡ false
    → cond (octets_eq q r.name) (Some r) (cond (octets_eq q row.name) (Some row) o) ≡ cond (octets_eq q row.name) (Some row) (cond (octets_eq q r.name) (Some r) o)
swapped q r row o apart = elim (octets_eq q r.name) as (λ a. octets_eq q r.name ≡ a → cond a (Some r) (cond (octets_eq q row.name) (Some row) o) ≡ cond (octets_eq q row.name) (Some row) (cond a (Some r) o)) [
  | false ↦ λ e. refl
  | true ↦ λ e. elim (octets_eq q row.name) as (λ b. octets_eq q row.name ≡ b → Some r ≡ cond b (Some row) (Some r)) [
    | false ↦ λ f. refl
    | true ↦ λ f. absurd (true≢false (sym e ∙ ap (λ n. octets_eq n r.name) ((bytes_decides q row.name).0 f) ∙ apart))
  ] refl
] refl

row_insert : (q : List ℕ) (rows : List Row) (i : ℕ) (row : Row) → is_held row.name rows ≡ false → row_of q (insert rows i row) ≡ cond (octets_eq q row.name) (Some row) (row_of q rows)
unfolding row_of
row_insert q [] zero row a = refl
row_insert q [] (suc i) row a = refl
row_insert q (r ∷ rows) zero row a = refl
row_insert q (r ∷ rows) (suc i) row a =
    ap (λ o. cond (octets_eq q r.name) (Some r) o) (row_insert q rows i row (apart_rest row.name r rows a)) ∙ swapped q r row (row_of q rows) (apart_first row.name r rows a)

pub name_insert : (rows : List Row) (i : ℕ) (row : Row) → is_held row.name rows ≡ false → by_name (insert rows i row) ≡ finite.insert (by_name rows) row.name row
name_insert rows i row a = same_map nat_list_cmp_total octets_same _ _ (λ q.
    get_row q (insert rows i row) ∙ row_insert q rows i row a
    ∙ ap (λ b. cond b (Some row) (row_of q rows)) (texts_ties q row.name)
    ∙ ap (λ o. cond (eq_by_cmp octets_cmp q row.name) (Some row) o) (sym (get_row q rows))
    ∙ sym (get-insert nat_list_cmp_total (by_name rows) row.name row q))

row_remove : (q entry : List ℕ) (rows : List Row) (i : ℕ) → is_each_once rows ≡ true → is_of entry (slice_get rows i) ≡ true → row_of q (remove rows i) ≡ cond (octets_eq q entry) None (row_of q rows)
unfolding row_of
row_remove q entry [] i o = λ e. absurd (true≢false (sym e))
row_remove q entry (r ∷ rows) zero o = λ e.
    let same : entry ≡ r.name = (bytes_decides entry r.name).0 e in
    elim (octets_eq q entry) as (λ b. octets_eq q entry ≡ b → row_of q rows ≡ cond b None (cond (octets_eq q r.name) (Some r) (row_of q rows))) [
      | true ↦ λ f. none_held q rows (held_same q r.name rows (sym (ap (octets_eq q) same) ∙ f) ∙ once_first r rows o)
      | false ↦ λ f. ap (λ b. cond b (Some r) (row_of q rows)) (sym (sym (ap (octets_eq q) same) ∙ f))
    ] refl
row_remove q entry (r ∷ rows) (suc i) o = λ e.
    ap (λ t. cond (octets_eq q r.name) (Some r) t) (row_remove q entry rows i (once_rest r rows o) e)
    ∙ elim (octets_eq q r.name) as (λ a. octets_eq q r.name ≡ a → cond a (Some r) (cond (octets_eq q entry) None (row_of q rows)) ≡ cond (octets_eq q entry) None (cond a (Some r) (row_of q rows))) [
      | false ↦ λ f. refl
      | true ↦ λ f. elim (octets_eq q entry) as (λ b. octets_eq q entry ≡ b → Some r ≡ cond b None (Some r)) [
        | false ↦ λ g. refl
        | true ↦ λ g. absurd (true≢false (sym (of_held entry rows i e) ∙ ap (λ n. is_held n rows) (sym ((bytes_decides q entry).0 g) ∙ (bytes_decides q r.name).0 f) ∙ once_first r rows o))
      ] refl
    ] refl

pub name_remove : (entry : List ℕ) (rows : List Row) (i : ℕ) → is_each_once rows ≡ true → is_of entry (slice_get rows i) ≡ true → by_name (remove rows i) ≡ finite.remove (by_name rows) entry
name_remove entry rows i o e = same_map nat_list_cmp_total octets_same _ _ (λ q.
    get_row q (remove rows i) ∙ row_remove q entry rows i o e
    ∙ ap (λ b. cond b None (row_of q rows)) (texts_ties q entry)
    ∙ ap (λ t. cond (eq_by_cmp octets_cmp q entry) None t) (sym (get_row q rows))
    ∙ sym (get-remove nat_list_cmp_total (by_name rows) entry q))

pub insert_removed : (m : RowMap) (p : List ℕ) (x : Row) → finite.insert (finite.remove m p) p x ≡ finite.insert m p x
insert_removed m p x = same_map nat_list_cmp_total octets_same _ _ (λ q.
    get-insert nat_list_cmp_total (finite.remove m p) p x q
    ∙ elim (eq_by_cmp octets_cmp q p) as (λ b. eq_by_cmp octets_cmp q p ≡ b → cond b (Some x) (get (finite.remove m p) q) ≡ cond b (Some x) (get m q)) [
      | true ↦ λ b. refl
      | false ↦ λ b. get-remove nat_list_cmp_total m p q ∙ ap (λ b. cond b None (get m q)) b
    ] refl
    ∙ sym (get-insert nat_list_cmp_total m p x q))
