-- What putting a row in and taking one out leave.
use Rattle.std.proofs.Common.{◌≡◌, ℕ, zero, suc, ◌+◌, ◌<◌, ◌≤◌, true, false, not, ◌&&◌, ◌||◌, List, [], ◌∷◌, length, refl, sym, ap, ◌∙◌, arith, true≢false}
use Rattle.std.specs.Prelude.{Some, slice_get}
use Rattle.std.specs.List.{insert, remove}
use Rattle.std.specs.Cmp.Lexicographic.{bytes_decides, nat_list_eq_equiv}
use Rattle.std.proofs.lemmas.Bool.{not-true}
use Rattle.std.specs.Cmp.{second_so, first_so}
use Rattle.acap_entries.specs.Orders.{octets_eq}
use Rattle.acap_entries.specs.declared.row.Row.{Row}
use Rattle.acap_ordmap.proofs.Logic.{first_not, second_not, or_turned}
use Rattle.acap_notices.specs.Rows.{is_held, is_of, is_each_once}

pub other_way : (a b : List ℕ) → octets_eq a b ≡ octets_eq b a
other_way = nat_list_eq_equiv.symm

-- the parts of a test of several rows
pub apart_first : (entry : List ℕ) (r : Row) (rows : List Row) → is_held entry (r ∷ rows) ≡ false → octets_eq entry r.name ≡ false
apart_first entry r rows h = first_not _ _ h

pub apart_rest : (entry : List ℕ) (r : Row) (rows : List Row) → is_held entry (r ∷ rows) ≡ false → is_held entry rows ≡ false
apart_rest entry r rows h = second_not _ _ h

pub once_first : (r : Row) (rows : List Row) → is_each_once (r ∷ rows) ≡ true → is_held r.name rows ≡ false
once_first r rows o = not-true _ (first_so _ _ o)

pub once_rest : (r : Row) (rows : List Row) → is_each_once (r ∷ rows) ≡ true → is_each_once rows ≡ true
once_rest r rows o = second_so _ _ o

pub get-insert : (rows : List Row) (i : ℕ) (row : Row) → i ≤ length rows → slice_get (insert rows i row) i ≡ Some row
get-insert [] zero row h = refl
get-insert [] (suc i) row h = absurd (omega arith)
get-insert (r ∷ rows) zero row h = refl
get-insert (r ∷ rows) (suc i) row h = get-insert rows i row (omega arith)

pub remove-insert : (rows : List Row) (i : ℕ) (row : Row) → i ≤ length rows → remove (insert rows i row) i ≡ rows
remove-insert [] zero row h = refl
remove-insert [] (suc i) row h = absurd (omega arith)
remove-insert (r ∷ rows) zero row h = refl
remove-insert (r ∷ rows) (suc i) row h = ap (λ t. r ∷ t) (remove-insert rows i row (omega arith))

pub insert-remove : (rows : List Row) (i : ℕ) (row : Row) → slice_get rows i ≡ Some row → insert (remove rows i) i row ≡ rows
insert-remove [] i row = λ e. cc
insert-remove (r ∷ rows) zero row = λ e. ap (λ t. t ∷ rows) (sym (cc e))
insert-remove (r ∷ rows) (suc i) row = λ e. ap (λ t. r ∷ t) (insert-remove rows i row e)

pub length-remove : (rows : List Row) (i : ℕ) → i < length rows → length (remove rows i) + 1 ≡ length rows
length-remove [] i h = absurd (omega arith)
length-remove (r ∷ rows) zero h = omega arith
length-remove (r ∷ rows) (suc i) h = omega (arith, length-remove rows i (omega arith))

pub of_within : (entry : List ℕ) (rows : List Row) (i : ℕ) → is_of entry (slice_get rows i) ≡ true → i < length rows
of_within entry [] i = λ e. absurd (true≢false (sym e))
of_within entry (r ∷ rows) zero = λ e. omega arith
of_within entry (r ∷ rows) (suc i) = λ e. omega (arith, of_within entry rows i e)

pub held_insert : (entry : List ℕ) (rows : List Row) (i : ℕ) (row : Row) → is_held entry (insert rows i row) ≡ (octets_eq entry row.name || is_held entry rows)
held_insert entry [] zero row = refl
held_insert entry [] (suc i) row = refl
held_insert entry (r ∷ rows) zero row = refl
held_insert entry (r ∷ rows) (suc i) row =
    ap (λ b. octets_eq entry r.name || b) (held_insert entry rows i row) ∙ or_turned (octets_eq entry r.name) (octets_eq entry row.name) (is_held entry rows)

pub held_remove : (entry : List ℕ) (rows : List Row) (i : ℕ) → is_held entry rows ≡ false → is_held entry (remove rows i) ≡ false
held_remove entry [] zero h = refl
held_remove entry [] (suc i) h = refl
held_remove entry (r ∷ rows) zero h = second_not _ _ h
held_remove entry (r ∷ rows) (suc i) h =
    ap (λ b. b || is_held entry (remove rows i)) (first_not _ _ h) ∙ held_remove entry rows i (second_not _ _ h)

-- an entry that stands somewhere is held
pub of_held : (entry : List ℕ) (rows : List Row) (i : ℕ) → is_of entry (slice_get rows i) ≡ true → is_held entry rows ≡ true
of_held entry [] i = λ e. absurd (true≢false (sym e))
of_held entry (r ∷ rows) zero = λ e. ap (λ b. b || is_held entry rows) e
of_held entry (r ∷ rows) (suc i) = λ e. elim (octets_eq entry r.name) as (λ b. (b || is_held entry rows) ≡ true) [ true ↦ refl | false ↦ of_held entry rows i e ]

-- of equal names both are held or neither
pub held_same : (a b : List ℕ) (rows : List Row) → octets_eq a b ≡ true → is_held a rows ≡ is_held b rows
held_same a b rows e = ap (λ n. is_held n rows) ((bytes_decides a b).0 e)

-- once each, as a test
pub once_insert : (rows : List Row) (i : ℕ) (row : Row) → is_held row.name rows ≡ false → is_each_once rows ≡ true → is_each_once (insert rows i row) ≡ true
once_insert [] zero row a o = refl
once_insert [] (suc i) row a o = refl
once_insert (r ∷ rows) zero row a o = ap (λ b. not b && (not (is_held r.name rows) && is_each_once rows)) a ∙ o
once_insert (r ∷ rows) (suc i) row a o =
    let apart : is_held r.name (insert rows i row) ≡ false =
    held_insert r.name rows i row ∙ ap (λ b. b || is_held r.name rows) (other_way r.name row.name ∙ first_not _ _ a) ∙ not-true _ (first_so _ _ o) in
    ap (λ b. not b && is_each_once (insert rows i row)) apart ∙ once_insert rows i row (second_not _ _ a) (second_so _ _ o)

pub once_remove : (rows : List Row) (i : ℕ) → is_each_once rows ≡ true → is_each_once (remove rows i) ≡ true
once_remove [] zero o = refl
once_remove [] (suc i) o = refl
once_remove (r ∷ rows) zero o = second_so _ _ o
once_remove (r ∷ rows) (suc i) o =
    ap (λ b. not b && is_each_once (remove rows i)) (held_remove r.name rows i (not-true _ (first_so _ _ o))) ∙ once_remove rows i (second_so _ _ o)

-- an entry that was taken out is no longer held
pub gone : (entry : List ℕ) (rows : List Row) (i : ℕ) → is_each_once rows ≡ true → is_of entry (slice_get rows i) ≡ true → is_held entry (remove rows i) ≡ false
gone entry [] i o = λ e. absurd (true≢false (sym e))
gone entry (r ∷ rows) zero o = λ e. held_same entry r.name rows e ∙ not-true _ (first_so _ _ o)
gone entry (r ∷ rows) (suc i) o = λ e.
    let apart : octets_eq entry r.name ≡ false =
    elim (octets_eq entry r.name) as (λ b. octets_eq entry r.name ≡ b → b ≡ false) [
      | true ↦ λ t. absurd (true≢false (sym (of_held entry rows i e) ∙ held_same entry r.name rows t ∙ not-true _ (first_so _ _ o)))
      | false ↦ λ t. refl
    ] refl in
    ap (λ b. b || is_held entry (remove rows i)) apart ∙ gone entry rows i (second_so _ _ o) e
