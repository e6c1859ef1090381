-- The rows of a SEARCH, put into the order of their names: of each name the first is held.
use Rattle.std.proofs.Common.{◌≡◌, ℕ, Bool, true, false, not, ◌&&◌, cond, List, [], ◌∷◌, ◌++◌, refl, sym, ap, subst, ◌∙◌, Some, None}
use Rattle.std.specs.Prelude.{Option, is_some}
use Rattle.std.specs.List.{filter, insert}
use Rattle.std.specs.List.Sorted.{ties, IsStableBy}
use Rattle.std.specs.declared.cmp.Ordering.{Ordering}
use Rattle.std.specs.declared.cmp.Ordering.TheVariants.{Less, Equal, Greater}
use Rattle.std.specs.Cmp.Lexicographic.{nat_list_cmp_total}
use Rattle.std.specs.FinMap as finite
use Rattle.std.specs.Ordering.{eq_by_cmp, is_eq, is_lt, ordering_reverse}
use Rattle.std.specs.FinMap.{find, from_entries_push, get-from_entries, same_map}
use Rattle.acap_entries.specs.Orders.{octets_cmp}
use Rattle.acap_ordmap.specs.Sorted.{place, is_tied, InOrder}
use Rattle.acap_entries.proofs.StoreLemmas.{octets_same}
use Rattle.acap_ordmap.proofs.Logic.{Equal_from_is_eq}
use Rattle.acap_grammar.specs.Printed.{PrintedRow, printed_by_name}
use Rattle.acap_client.proofs.Placed.{tied_held, insert_is, place_in, add_order}
use Rattle.acap_client.specs.Placing.{keyed, by_order, with_first}

pub first_tied : (rows : List PrintedRow) (row : PrintedRow) → InOrder octets_cmp (keyed rows) → is_tied octets_cmp row.name (keyed rows) ≡ true → with_first row (by_order rows) ≡ by_order rows
first_tied rows row h t = ap (λ b. cond b (by_order rows) (finite.insert (by_order rows) row.name row)) (tied_held rows row.name h ∙ t)

pub first_new : (rows : List PrintedRow) (row : PrintedRow) → InOrder octets_cmp (keyed rows) → is_tied octets_cmp row.name (keyed rows) ≡ false → with_first row (by_order rows) ≡ by_order (insert rows (place_in rows row.name) row)
first_new rows row h t = ap (λ b. cond b (by_order rows) (finite.insert (by_order rows) row.name row)) (tied_held rows row.name h ∙ t) ∙ sym (insert_is rows row h t)

pub first_at : (rows new : List PrintedRow) (row : PrintedRow) (at : ℕ) → InOrder octets_cmp (keyed rows) → is_tied octets_cmp row.name (keyed rows) ≡ false → at ≡ place octets_cmp row.name (keyed rows) → new ≡ insert rows at row
    → (by_order new ≡ with_first row (by_order rows)) × InOrder octets_cmp (keyed new)
first_at rows new row at h t p e =
    let left : new ≡ insert rows (place_in rows row.name) row = e ∙ ap (λ i. insert rows i row) p in
    (ap by_order left ∙ sym (first_new rows row h t), subst (λ t. InOrder octets_cmp (keyed t)) (sym left) (add_order rows row h t))

keyed_push : (rows : List PrintedRow) (row : PrintedRow) → keyed (rows ++ row ∷ []) ≡ keyed rows ++ (row.name, row) ∷ []
keyed_push [] row = refl
keyed_push (r ∷ rows) row = ap (λ t. (r.name, r) ∷ t) (keyed_push rows row)

module _ {X : Type 0} where
  find_on : (es more : List (List ℕ × X)) (q : List ℕ) (y : X) → find octets_cmp q es ≡ Some y → find octets_cmp q (es ++ more) ≡ Some y
  find_on [] more q y = λ h. absurd (cc h)
  find_on (e ∷ es) more q y = elim (eq_by_cmp octets_cmp q e.0) as (λ b. cond b (Some e.1) (find octets_cmp q es) ≡ Some y → cond b (Some e.1) (find octets_cmp q (es ++ more)) ≡ Some y) [
    | true ↦ λ h. h
    | false ↦ λ h. find_on es more q y h
  ]

  find_off : (es : List (List ℕ × X)) (k : List ℕ) (v : X) (q : List ℕ) → eq_by_cmp octets_cmp q k ≡ false → find octets_cmp q (es ++ (k, v) ∷ []) ≡ find octets_cmp q es
  find_off [] k v q n = ap (λ b. cond b (Some v) None) n
  find_off (e ∷ es) k v q n = ap (cond (eq_by_cmp octets_cmp q e.0) (Some e.1)) (find_off es k v q n)

  find_again : (es : List (List ℕ × X)) (k : List ℕ) (v y : X) (q : List ℕ) → find octets_cmp k es ≡ Some y → find octets_cmp q (es ++ (k, v) ∷ []) ≡ find octets_cmp q es
  find_again es k v y q h = elim (eq_by_cmp octets_cmp q k) as (λ b. eq_by_cmp octets_cmp q k ≡ b → find octets_cmp q (es ++ (k, v) ∷ []) ≡ find octets_cmp q es) [
    | true ↦ λ t.
        let same : q ≡ k = octets_same q k (Equal_from_is_eq _ t) in
        let there : find octets_cmp q es ≡ Some y = ap (λ q. find octets_cmp q es) same ∙ h in
        find_on es ((k, v) ∷ []) q y there ∙ sym there
    | false ↦ λ t. find_off es k v q t
  ] refl

-- a row more
pub pushed : (rows : List PrintedRow) (row : PrintedRow) → printed_by_name (rows ++ row ∷ []) ≡ with_first row (printed_by_name rows)
pushed rows row =
    let es = keyed rows in
    let held : (o : Option PrintedRow) → find octets_cmp row.name es ≡ o → with_first row (printed_by_name rows) ≡ cond (is_some o) (printed_by_name rows) (finite.insert (printed_by_name rows) row.name row) =
    λ o e. ap (λ t. cond (is_some t) (printed_by_name rows) (finite.insert (printed_by_name rows) row.name row)) (get-from_entries nat_list_cmp_total es row.name ∙ e) in
    ap finite.from_entries (keyed_push rows row)
    ∙ elim (find octets_cmp row.name es) as (λ o. find octets_cmp row.name es ≡ o → finite.from_entries (es ++ (row.name, row) ∷ []) ≡ with_first row (printed_by_name rows)) [
      | None ↦ λ e. from_entries_push nat_list_cmp_total octets_same es row.name row e ∙ sym (held None e)
      | (Some y) ↦ λ e.
          same_map nat_list_cmp_total octets_same _ _ (λ q. get-from_entries nat_list_cmp_total _ q ∙ find_again es row.name row y q e ∙ sym (get-from_entries nat_list_cmp_total es q))
          ∙ sym (held (Some y) e)
    ] refl

-- ---- rows that are sorted by their names

abbrev pub is_before : PrintedRow → PrintedRow → Bool
is_before one other = is_lt (octets_cmp one.name other.name)

abbrev of_name : List ℕ → PrintedRow
of_name name = record { name = name; items = [] }

-- what has a name ties with it
tie : (one other : Ordering) → one ≡ ordering_reverse other → (not (is_lt one) && not (is_lt other)) ≡ is_eq one
tie one Less e = rw e refl
tie one Equal e = rw e refl
tie one Greater e = rw e refl

tied_by : (name : List ℕ) (row : PrintedRow) → ties is_before (of_name name) row ≡ eq_by_cmp octets_cmp name row.name
tied_by name row = tie _ _ (nat_list_cmp_total.antisymm name row.name)

abbrev first_row : List PrintedRow → Option PrintedRow
first_row [] = None
first_row (r ∷ rows) = Some r

find_tied : (name : List ℕ) (rows : List PrintedRow) → find octets_cmp name (keyed rows) ≡ first_row (filter (ties is_before (of_name name)) rows)
find_tied name [] = refl
find_tied name (r ∷ rows) =
    ap (λ b. cond b (Some r) (find octets_cmp name (keyed rows))) (sym (tied_by name r))
    ∙ elim (ties is_before (of_name name) r) as (λ b. cond b (Some r) (find octets_cmp name (keyed rows)) ≡ first_row (cond b (r ∷ filter (ties is_before (of_name name)) rows) (filter (ties is_before (of_name name)) rows))) [
      | true ↦ refl
      | false ↦ find_tied name rows
    ]

-- of each name the first stays the first
pub sorted_same : (rows new : List PrintedRow) → IsStableBy is_before rows new → printed_by_name new ≡ printed_by_name rows
sorted_same rows new stable = same_map nat_list_cmp_total octets_same _ _ (λ q.
    get-from_entries nat_list_cmp_total (keyed new) q ∙ find_tied q new ∙ ap first_row (stable (of_name q)) ∙ sym (find_tied q rows)
    ∙ sym (get-from_entries nat_list_cmp_total (keyed rows) q))
