-- How many records there are after writes.
use Rattle.std.proofs.Common.{◌≡◌, ℕ, zero, suc, ◌+◌, ◌<◌, Bool, true, false, cond, T, List, [], ◌∷◌, length, Option, Some, None, refl, sym, ap, ◌∙◌, ◌≤◌, arith}
use Rattle.std.specs.Prelude.{filter, is_none, is_some, nat_lt, ◌-◌}
use Rattle.std.specs.Ordering.{is_eq}
use Rattle.std.specs.FinMap as table
use Rattle.std.specs.FinMap.{find, is_sorted, entries_sorted, len-entries, len-insert, len-remove}
use Rattle.std.specs.FinMap.Entries.{below_all}
use Rattle.acap_entries.specs.Store.{Stored, Written, path_cmp, after_edit, after_write, after_writes}
use Rattle.acap_entries.specs.declared.change.RecordEdit.{RecordEdit}
use Rattle.acap_entries.specs.declared.change.RecordEdit.TheVariants.{Put, Remove}
use Rattle.acap_entries.specs.declared.path.Path.{Path}
use Rattle.acap_entries.specs.declared.record.Record.{Record}
use Rattle.acap_entries.proofs.StoreLemmas.{path_cmp_total, get_written}
use Rattle.acap_ordmap.proofs.Logic.{first_T, second_T, Less_from_T}
use Rattle.acap_store.specs.Counting.{is_new, is_gone}
use Rattle.acap_store.specs.Limits.{is_full_after}
use Rattle.std.proofs.lemmas.List.Sums.{length-filter, count_by-le-length}
use Rattle.std.proofs.lemmas.Bool.{lt-ltb, le-ltb, ltb-false, ltb-true}

-- a key below all others is not among them
not_below : (p : Path) (ws : List (Path × RecordEdit)) → T (below_all path_cmp p ws) → find path_cmp p ws ≡ None
not_below p [] h = refl
not_below p (w ∷ ws) h =
    ap (λ o. cond (is_eq o) (Some w.1) (find path_cmp p ws)) (Less_from_T _ (first_T _ _ h)) ∙ not_below p ws (second_T _ _ h)

-- so what is there before the others are written is there after it
get_before : (w : Path × RecordEdit) (ws : List (Path × RecordEdit)) (records : Stored) → T (is_sorted path_cmp (w ∷ ws)) → table.get (after_writes ws records) w.0 ≡ table.get records w.0
get_before w ws records h = get_written ws records w.0 ∙ ap (λ o. after_edit o (table.get records w.0)) (not_below w.0 ws (first_T _ _ h))

-- a map that has a key is not empty
some_there : (m : Stored) (p : Path) (entry : Record) → table.get m p ≡ Some entry → 0 < table.len m
some_there m p entry e =
    elim (table.len m) as (λ n. table.len m ≡ n → 0 < n) [
      | zero ↦ λ z. let none : table.get m p ≡ None = ap (λ n. table.get n p) (table.empty_of_len m z) ∙ table.get-empty path_cmp p in cc
      | (suc n) ↦ λ z. omega arith
    ] refl

-- one write makes a record where there was none, or removes one that there was
put_one : (m : Stored) (p : Path) (entry : Record) (old : Option Record) → table.get m p ≡ old → table.len (table.insert m p entry) ≡ table.len m + cond (is_none old) 1 0
put_one m p entry None e =
    let more : table.len (table.insert m p entry) ≡ table.len m + 1 = len-insert path_cmp_total m p entry ∙ ap (λ o. cond (is_some o) (table.len m) (table.len m + 1)) e in
    more
put_one m p entry (Some known) e =
    let same : table.len (table.insert m p entry) ≡ table.len m = len-insert path_cmp_total m p entry ∙ ap (λ o. cond (is_some o) (table.len m) (table.len m + 1)) e in
    omega (arith, same)

remove_one : (m : Stored) (p : Path) (old : Option Record) → table.get m p ≡ old → table.len (table.remove m p) + cond (is_some old) 1 0 ≡ table.len m
remove_one m p None e =
    let same : table.len (table.remove m p) ≡ table.len m = len-remove path_cmp_total m p ∙ ap (λ o. cond (is_some o) (table.len m - 1) (table.len m)) e in
    omega (arith, same)
remove_one m p (Some known) e =
    let less : table.len (table.remove m p) ≡ table.len m - 1 = len-remove path_cmp_total m p ∙ ap (λ o. cond (is_some o) (table.len m - 1) (table.len m)) e in
    let more : 0 < table.len m = some_there m p known e in
    omega (arith, less, more)

one_write : (edit : RecordEdit) (p : Path) (m records : Stored) → table.get m p ≡ table.get records p →
    table.len (after_write p edit m) + cond (is_gone records (p, edit)) 1 0 ≡ table.len m + cond (is_new records (p, edit)) 1 0
one_write (Put entry) p m records e = let put = put_one m p entry (table.get records p) e in omega (arith, put)
one_write Remove p m records e = let removed = remove_one m p (table.get records p) e in omega (arith, removed)

count_one : (test : Path × RecordEdit → Bool) (w : Path × RecordEdit) (ws : List (Path × RecordEdit)) → length (filter test (w ∷ ws)) ≡ cond (test w) 1 0 + length (filter test ws)
count_one test w ws = elim (test w) as (λ b. length (cond b (w ∷ filter test ws) (filter test ws)) ≡ cond b 1 0 + length (filter test ws)) [
  | true ↦ omega arith
  | false ↦ omega arith
]

counted_in : (ws : List (Path × RecordEdit)) (records : Stored) → T (is_sorted path_cmp ws) →
    table.len (after_writes ws records) + length (filter (is_gone records) ws) ≡ table.len records + length (filter (is_new records) ws)
counted_in [] records h = omega arith
counted_in (w ∷ ws) records h =
    let one : table.len (after_writes (w ∷ ws) records) + cond (is_gone records w) 1 0 ≡ table.len (after_writes ws records) + cond (is_new records w) 1 0 = one_write w.1 w.0 (after_writes ws records) records (get_before w ws records h) in
    let others : table.len (after_writes ws records) + length (filter (is_gone records) ws) ≡ table.len records + length (filter (is_new records) ws) = counted_in ws records (second_T (below_all path_cmp w.0 ws) (is_sorted path_cmp ws) h) in
    let gone : length (filter (is_gone records) (w ∷ ws)) ≡ cond (is_gone records w) 1 0 + length (filter (is_gone records) ws) = count_one (is_gone records) w ws in
    let made : length (filter (is_new records) (w ∷ ws)) ≡ cond (is_new records w) 1 0 + length (filter (is_new records) ws) = count_one (is_new records) w ws in
    omega (arith, one, others, gone, made)

-- so the records afterwards are those that there are and the new ones, but for those that are gone
pub counted : (written : Written) (records : Stored) →
    table.len (after_writes (table.entries written) records) + length (filter (is_gone records) (table.entries written))
    ≡ table.len records + length (filter (is_new records) (table.entries written))
counted written records = counted_in (table.entries written) records (entries_sorted written)

-- and there are too many exactly where the one count passes the other by more
passes : (limit after gone known made : ℕ) → after + gone ≡ known + made → nat_lt (limit + gone) (known + made) ≡ nat_lt limit after
passes limit after gone known made e =
    elim (nat_lt limit after) as (λ b. nat_lt limit after ≡ b → nat_lt (limit + gone) (known + made) ≡ b) [
      | true ↦ λ h. lt-ltb (limit + gone) (known + made) (omega (arith, ltb-true limit after h, e))
      | false ↦ λ h. le-ltb (limit + gone) (known + made) (omega (arith, ltb-false limit after h, e))
    ] refl

-- no more are made than are written
pub not_full : (written : Written) (records : Stored) → table.len records + table.len written ≤ 65_536 → false ≡ is_full_after records written
unfolding is_full_after
not_full written records room =
    let counts : table.len (after_writes (table.entries written) records) + length (filter (is_gone records) (table.entries written)) ≡ table.len records + length (filter (is_new records) (table.entries written)) = counted written records in
    let made : length (filter (is_new records) (table.entries written)) ≤ length (table.entries written) = rw (length-filter (is_new records) (table.entries written)) (count_by-le-length (is_new records) (table.entries written)) in
    let len : table.len written ≡ length (table.entries written) = len-entries written in
    sym (le-ltb 65_536 _ (omega (arith, counts, made, len, room)))

pub full_by_count : (written : Written) (records : Stored) →
    nat_lt (65_536 + length (filter (is_gone records) (table.entries written))) (table.len records + length (filter (is_new records) (table.entries written)))
    ≡ is_full_after records written
unfolding is_full_after
full_by_count written records = passes 65_536 _ _ _ _ (counted written records)
