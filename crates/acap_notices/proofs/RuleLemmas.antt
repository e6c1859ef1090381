-- What the client's rule makes of rows.
use Rattle.std.proofs.Common.{◌≡◌, ℕ, ◌+◌, ◌-◌, ◌≤◌, Bool, true, false, not, ◌&&◌, ◌||◌, nat_le, nat_lt, List, [], ◌∷◌, ◌++◌, length, cond, refl, sym, ap, ◌∙◌, arith, tests, true≢false}
use Rattle.std.specs.Prelude.{◌↔◌, Result, Ok, Err, OnOk, OnErr, Option, Some, None, is_some, slice_get}
use Rattle.std.specs.Option.{option_and_then, option_map, unwrap_or}
use Rattle.std.specs.List.{insert, remove, position}
use Rattle.std.specs.Cmp.Lexicographic.{bytes_decides}
use Rattle.std.specs.FinMap as finite
use Rattle.std.proofs.Math.Numerals.{one-add}
use Rattle.acap_entries.specs.Orders.{octets_eq}
use Rattle.acap_entries.specs.declared.row.Row.{Row}
use Rattle.acap_ordmap.proofs.Logic.{one_back}
use Rattle.acap_notices.specs.Rows.{is_held, is_of, stands_at, has_position, is_each_once, IsEachOnce, RowMap, by_name}
use Rattle.acap_notices.specs.Places.{place_of}
use Rattle.acap_notices.specs.Client.{listed_after, mapped_after, put_at, in_turn}
use Rattle.acap_notices.specs.Laws.{JoinedLaw, PlacesLaw, OnceLaw, ChangeLaw, SameRowsLaw}
use Rattle.acap_notices.specs.Holding.{holding_after}
use Rattle.acap_notices.specs.declared.held_fault.HeldFault.{HeldFault}
use Rattle.acap_notices.specs.declared.notice.Notice.{Notice}
use Rattle.acap_notices.specs.declared.notice.Notice.TheVariants.{AddTo, RemoveFrom, Change}
use Rattle.acap_notices.proofs.RowLemmas.{get-insert, remove-insert, insert-remove, length-remove, of_within, once_insert, once_remove, gone, of_held}
use Rattle.acap_notices.proofs.NameLemmas.{get_held, name_insert, name_remove, insert_removed}

picked : {A : Type 0} (b : Bool) (x y : A) → cond b (Some x) None ≡ Some y → (b ≡ true) × (y ≡ x)
picked true x y = λ e. (refl, cc)
picked false x y = λ e. (cc, cc)

behind_one : (position : ℕ) (b : Bool) → (nat_le 1 position && b) ≡ true → b ≡ true
behind_one position b = elim (nat_le 1 position) as (λ a. (a && b) ≡ true → b ≡ true) [ true ↦ λ e. e | false ↦ λ e. cc ]

room : (position : ℕ) (rows : List Row) → has_position position rows ≡ true → position - 1 ≤ length rows
room position rows h = grind (arith, tests)

-- where a notice fits, what it leaves
record Added (rows new : List Row) (position : ℕ) (row : Row) : Type 0 where
  apart : is_held row.name rows ≡ false
  within : position - 1 ≤ length rows
  left : new ≡ insert rows (position - 1) row

added : (rows new : List Row) (position : ℕ) (row : Row) → listed_after rows (AddTo position row) ≡ Some new → Added rows new position row
unfolding listed_after
added rows new position row = elim (is_held row.name rows) as (λ b. is_held row.name rows ≡ b → cond b None (put_at position row rows) ≡ Some new → Added rows new position row) [
  | true ↦ λ a e. absurd (cc e)
  | false ↦ λ a e. let h = picked _ _ _ e in record { apart = a; within = room position rows h.0; left = h.1 }
] refl

record Removed (rows new : List Row) (entry : List ℕ) (position : ℕ) : Type 0 where
  there : is_of entry (slice_get rows (position - 1)) ≡ true
  left : new ≡ remove rows (position - 1)

removed : (rows new : List Row) (entry : List ℕ) (position : ℕ) → listed_after rows (RemoveFrom entry position) ≡ Some new → Removed rows new entry position
unfolding listed_after
removed rows new entry position e =
    let h = picked _ _ _ e in
    record { there = behind_one position _ h.0; left = h.1 }

record Changed (rows new : List Row) (from to : ℕ) (row : Row) : Type 0 where
  there : is_of row.name (slice_get rows (from - 1)) ≡ true
  within : to - 1 ≤ length (remove rows (from - 1))
  left : new ≡ insert (remove rows (from - 1)) (to - 1) row

changed : (rows new : List Row) (from to : ℕ) (row : Row) → listed_after rows (Change from to row) ≡ Some new → Changed rows new from to row
unfolding listed_after
changed rows new from to row = elim (stands_at row.name from rows) as (λ b. stands_at row.name from rows ≡ b → option_and_then (put_at to row) (cond b (Some (remove rows (from - 1))) None) ≡ Some new → Changed rows new from to row) [
  | true ↦ λ s e. let h = picked _ _ _ e in record { there = behind_one from _ s; within = room to (remove rows (from - 1)) h.0; left = h.1 }
  | false ↦ λ s e. absurd (cc e)
] refl

named : (entry : List ℕ) (o : Option Row) → is_of entry o ≡ true → (gone : Row) × (gone.name ≡ entry) × (o ≡ Some gone)
named entry None h = absurd (true≢false (sym h))
named entry (Some r) h = (r, sym ((bytes_decides entry r.name).0 h), refl)

pub places : PlacesLaw
places = record {
  added = λ rows new position row e.
      let h = added rows new position row e in
      (ap (λ t. slice_get t (position - 1)) h.left ∙ get-insert rows (position - 1) row h.within, ap (λ t. remove t (position - 1)) h.left ∙ remove-insert rows (position - 1) row h.within);
  removed = λ rows new entry position e.
      let h = removed rows new entry position e in
      let g = named entry (slice_get rows (position - 1)) h.there in
      (g.0, g.1, g.2, ap (λ t. insert t (position - 1) g.0) h.left ∙ insert-remove rows (position - 1) g.0 g.2);
  changed = λ rows new from to row e.
      let h = changed rows new from to row e in
      let g = named row.name (slice_get rows (from - 1)) h.there in
      let rest = remove rows (from - 1) in
      (g.0, g.1, g.2, ap (λ t. slice_get t (to - 1)) h.left ∙ get-insert rest (to - 1) row h.within, ap (λ t. remove t (to - 1)) h.left ∙ remove-insert rest (to - 1) row h.within);
}

pub once_after : OnceLaw
once_after rows new (AddTo position row) o e =
    let h = added rows new position row e in
    record { once = ap is_each_once h.left ∙ once_insert rows (position - 1) row h.apart o.once }
once_after rows new (RemoveFrom entry position) o e =
    let h = removed rows new entry position e in
    record { once = ap is_each_once h.left ∙ once_remove rows (position - 1) o.once }
once_after rows new (Change from to row) o e =
    let h = changed rows new from to row e in
    record { once = ap is_each_once h.left ∙ once_insert (remove rows (from - 1)) (to - 1) row (gone row.name rows (from - 1) o.once h.there) (once_remove rows (from - 1) o.once) }

-- the rows by name, after each kind of edit
name_change : (rows : List Row) (i j : ℕ) (row : Row) → is_each_once rows ≡ true → is_of row.name (slice_get rows i) ≡ true
    → by_name (insert (remove rows i) j row) ≡ finite.insert (by_name rows) row.name row
name_change rows i j row o e =
    name_insert (remove rows i) j row (gone row.name rows i o e)
    ∙ ap (λ m. finite.insert m row.name row) (name_remove row.name rows i o e)
    ∙ insert_removed (by_name rows) row.name row

held_at : (entry : List ℕ) (rows : List Row) (i : ℕ) → is_of entry (slice_get rows i) ≡ true → is_some (finite.get (by_name rows) entry) ≡ true
held_at entry rows i e = get_held entry rows ∙ of_held entry rows i e

pub same_rows : SameRowsLaw
unfolding mapped_after
same_rows rows new (AddTo position row) o e =
    let h = added rows new position row e in
    ap (λ b. cond b None (Some (finite.insert (by_name rows) row.name row))) (get_held row.name rows ∙ h.apart)
    ∙ ap Some (sym (ap by_name h.left ∙ name_insert rows (position - 1) row h.apart))
same_rows rows new (RemoveFrom entry position) o e =
    let h = removed rows new entry position e in
    ap (λ b. cond b (Some (finite.remove (by_name rows) entry)) None) (held_at entry rows (position - 1) h.there)
    ∙ ap Some (sym (ap by_name h.left ∙ name_remove entry rows (position - 1) o.once h.there))
same_rows rows new (Change from to row) o e =
    let h = changed rows new from to row e in
    ap (λ b. cond b (Some (finite.insert (by_name rows) row.name row)) None) (held_at row.name rows (from - 1) h.there)
    ∙ ap Some (sym (ap by_name h.left ∙ name_change rows (from - 1) (to - 1) row o.once h.there))

pub change_by_two : ChangeLaw
unfolding listed_after
change_by_two rows from to row o = elim (stands_at row.name from rows) as (λ b. stands_at row.name from rows ≡ b
    → option_and_then (put_at to row) (cond b (Some (remove rows (from - 1))) None)
    ≡ option_and_then (λ rest. cond (is_held row.name rest) None (put_at to row rest)) (cond b (Some (remove rows (from - 1))) None)) [
      | true ↦ λ s. ap (λ b. cond b None (put_at to row (remove rows (from - 1)))) (sym (gone row.name rows (from - 1) o.once (behind_one from _ s)))
      | false ↦ λ s. refl
    ] refl

turns : {S N : Type 0} (after : S → N → Option S) (held : S) (first second : List N) → in_turn after held (first ++ second) ≡ option_and_then (λ next. in_turn after next second) (in_turn after held first)
turns after held [] second = refl
turns after held (n ∷ first) second = elim (after held n) as (λ o. option_and_then (λ next. in_turn after next (first ++ second)) o ≡ option_and_then (λ next. in_turn after next second) (option_and_then (λ next. in_turn after next first) o)) [
  | None ↦ refl
  | (Some next) ↦ turns after next first second
]

pub joined : JoinedLaw
joined = turns holding_after

-- a list that is told where the entry stands has the rows that a map has
place_holds : (entry : List ℕ) (rows : List Row) → is_of entry (slice_get rows (place_of entry rows)) ≡ is_held entry rows
place_holds entry [] = refl
place_holds entry (r ∷ rows) = elim (octets_eq entry r.name) as (λ b. octets_eq entry r.name ≡ b
    → is_of entry (slice_get (r ∷ rows) (cond (not b) (1 + place_of entry rows) 0)) ≡ (b || is_held entry rows)) [
      | true ↦ λ e. e
      | false ↦ λ e. ap (λ i. is_of entry (slice_get (r ∷ rows) i)) (one-add (place_of entry rows)) ∙ place_holds entry rows
    ] refl

place_le : (entry : List ℕ) (rows : List Row) → place_of entry rows ≤ length rows
place_le entry [] = omega arith
place_le entry (r ∷ rows) = elim (octets_eq entry r.name) as (λ b. cond (not b) (1 + place_of entry rows) 0 ≤ length (r ∷ rows)) [
  | true ↦ omega arith
  | false ↦ omega (arith, place_le entry rows)
]

pub place_or_end : (entry : List ℕ) (rows : List Row) → unwrap_or (position (λ row. octets_eq entry row.name) rows) (length rows) ≡ place_of entry rows
place_or_end entry rows = elim (nat_lt (place_of entry rows) (length rows)) as (λ b. nat_lt (place_of entry rows) (length rows) ≡ b → unwrap_or (cond b (Some (place_of entry rows)) None) (length rows) ≡ place_of entry rows) [
  | true ↦ λ e. refl
  | false ↦ λ e. let above : length rows ≤ place_of entry rows = grind (arith, tests) in omega (arith, above, place_le entry rows)
] refl

stands_there : (entry : List ℕ) (rows : List Row) → stands_at entry (place_of entry rows + 1) rows ≡ is_held entry rows
stands_there entry rows =
    let above : nat_le 1 (place_of entry rows + 1) ≡ true = grind (arith, tests) in
    ap (λ b. b && is_of entry (slice_get rows (place_of entry rows + 1 - 1))) above
    ∙ ap (λ i. is_of entry (slice_get rows i)) (one_back (place_of entry rows))
    ∙ place_holds entry rows

put_in : (i : ℕ) (row : Row) (rows : List Row) → i ≤ length rows → put_at (i + 1) row rows ≡ Some (insert rows i row)
put_in i row rows h =
    let fits : has_position (i + 1) rows ≡ true = grind (arith, tests) in
    ap (λ b. cond b (Some (insert rows (i + 1 - 1) row)) None) fits ∙ ap (λ k. Some (insert rows k row)) (one_back i)

pub mapped_add : (rows : List Row) (row : Row) → mapped_after (by_name rows) (AddTo 0 row) ≡ option_map by_name (listed_after rows (AddTo (length rows + 1) row))
unfolding mapped_after listed_after
mapped_add rows row =
    ap (λ b. cond b None (Some (finite.insert (by_name rows) row.name row))) (get_held row.name rows)
    ∙ elim (is_held row.name rows) as (λ b. is_held row.name rows ≡ b → cond b None (Some (finite.insert (by_name rows) row.name row)) ≡ option_map by_name (cond b None (put_at (length rows + 1) row rows))) [
      | true ↦ λ e. refl
      | false ↦ λ e. ap Some (sym (name_insert rows (length rows) row e)) ∙ ap (option_map by_name) (sym (put_in (length rows) row rows (omega arith)))
    ] refl

pub mapped_remove : (rows : List Row) (entry : List ℕ) → IsEachOnce rows → mapped_after (by_name rows) (RemoveFrom entry 0) ≡ option_map by_name (listed_after rows (RemoveFrom entry (place_of entry rows + 1)))
unfolding mapped_after listed_after
mapped_remove rows entry o =
    let place = place_of entry rows in
    ap (λ b. cond b (Some (finite.remove (by_name rows) entry)) None) (get_held entry rows)
    ∙ elim (is_held entry rows) as (λ b. is_held entry rows ≡ b → cond b (Some (finite.remove (by_name rows) entry)) None ≡ option_map by_name (cond b (Some (remove rows place)) None)) [
      | true ↦ λ e. ap Some (sym (name_remove entry rows place o.once (place_holds entry rows ∙ e)))
      | false ↦ λ e. refl
    ] refl
    ∙ ap (λ b. option_map by_name (cond b (Some (remove rows place)) None)) (sym (stands_there entry rows))
    ∙ ap (λ i. option_map by_name (cond (stands_at entry (place + 1) rows) (Some (remove rows i)) None)) (sym (one_back place))

pub mapped_change : (rows : List Row) (row : Row) → IsEachOnce rows
    → mapped_after (by_name rows) (Change 0 0 row) ≡ option_map by_name (listed_after rows (Change (place_of row.name rows + 1) (place_of row.name rows + 1) row))
unfolding mapped_after listed_after
mapped_change rows row o =
    let place = place_of row.name rows in
    let rest = remove rows place in
    ap (λ b. cond b (Some (finite.insert (by_name rows) row.name row)) None) (get_held row.name rows)
    ∙ elim (is_held row.name rows) as (λ b. is_held row.name rows ≡ b → cond b (Some (finite.insert (by_name rows) row.name row)) None ≡ option_map by_name (option_and_then (put_at (place + 1) row) (cond b (Some rest) None))) [
      | true ↦ λ e.
          let there : is_of row.name (slice_get rows place) ≡ true = place_holds row.name rows ∙ e in
          let fits : place ≤ length rest = omega (arith, length-remove rows place (of_within row.name rows place there), of_within row.name rows place there) in
          ap Some (sym (name_change rows place place row o.once there)) ∙ ap (option_map by_name) (sym (put_in place row rest fits))
      | false ↦ λ e. refl
    ] refl
    ∙ ap (λ b. option_map by_name (option_and_then (put_at (place + 1) row) (cond b (Some rest) None))) (sym (stands_there row.name rows))
    ∙ ap (λ i. option_map by_name (option_and_then (put_at (place + 1) row) (cond (stands_at row.name (place + 1) rows) (Some (remove rows i)) None))) (sym (one_back place))

-- a call that applies a notice to a list leaves each name once
pub no_twice : (result : Result (Unit {0}) HeldFault) (rows new : List Row) (notice : Notice) → OnOk result (listed_after rows notice ≡ Some new) → OnErr result (new ≡ rows) → IsEachOnce rows → IsEachOnce new
no_twice (Ok done) rows new notice ok err o = once_after rows new notice o ok
no_twice (Err e) rows new notice ok err o = record { once = ap is_each_once err ∙ o.once }

-- and what it does to the list it does to the map
pub mapped_ok : (result : Result (Unit {0}) HeldFault) (mapped : Option RowMap) (listed : Option (List Row)) (new : List Row) → mapped ≡ option_map by_name listed → OnOk result (listed ≡ Some new) → OnOk result (mapped ≡ Some (by_name new))
mapped_ok (Ok done) mapped listed new e ok = e ∙ ap (option_map by_name) ok
mapped_ok (Err f) mapped listed new e ok = tt

none_listed : (listed : Option (List Row)) → option_map by_name listed ≡ None → listed ≡ None
none_listed None = λ e. refl
none_listed (Some rows) = λ e. cc

pub mapped_misfit : {P : Type 0} (mapped : Option RowMap) (listed : Option (List Row)) → mapped ≡ option_map by_name listed → P ↔ (listed ≡ None) → P ↔ (mapped ≡ None)
mapped_misfit mapped listed e h = (λ p. e ∙ ap (option_map by_name) (h.0 p), λ n. h.1 (none_listed listed (sym e ∙ n)))

pub mapped_remove_at : (rows : List Row) (entry : List ℕ) (position : ℕ) → IsEachOnce rows → position ≡ place_of entry rows + 1
    → mapped_after (by_name rows) (RemoveFrom entry 0) ≡ option_map by_name (listed_after rows (RemoveFrom entry position))
mapped_remove_at rows entry position o e = mapped_remove rows entry o ∙ ap (λ i. option_map by_name (listed_after rows (RemoveFrom entry i))) (sym e)

pub mapped_change_at : (rows : List Row) (row : Row) (position : ℕ) → IsEachOnce rows → position ≡ place_of row.name rows + 1
    → mapped_after (by_name rows) (Change 0 0 row) ≡ option_map by_name (listed_after rows (Change position position row))
mapped_change_at rows row position o e = mapped_change rows row o ∙ ap (λ i. option_map by_name (listed_after rows (Change i i row))) (sym e)

pub mapped_add_at : (rows : List Row) (row : Row) (position : ℕ) → position ≡ length rows + 1
    → mapped_after (by_name rows) (AddTo 0 row) ≡ option_map by_name (listed_after rows (AddTo position row))
mapped_add_at rows row position e = mapped_add rows row ∙ ap (λ i. option_map by_name (listed_after rows (AddTo i row))) (sym e)
