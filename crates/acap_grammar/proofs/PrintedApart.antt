-- What is sent of contexts can't be confused, and may be held as it is printed.
use Rattle.std.proofs.Common.{◌≡◌, ℕ, suc, ◌+◌, ◌-◌, Bool, true, false, cond, ◌&&◌, ◌||◌, List, [], ◌∷◌, map, length, take, drop, Option, Some, None, is_some, refl, sym, ap, subst, ◌∙◌, nat_le, slice_get}
use Rattle.std.specs.List.{insert, remove}
use Rattle.std.specs.Option.{option_map, option_and_then}
use Rattle.std.specs.FinMap as finite
use Rattle.std.specs.FinMap.{get, get-empty, get-insert, get-remove}
use Rattle.std.specs.Ordering.{eq_by_cmp}
use Rattle.std.specs.Cmp.Lexicographic.{nat_list_cmp_total}
use Rattle.std.proofs.lemmas.List.{take-map, drop-map, map-append, length-map}
use Rattle.std.proofs.lemmas.Option.{slice_get-map}
use Rattle.acap_entries.specs.Orders.{octets_eq, octets_cmp}
use Rattle.acap_entries.specs.declared.row.Row.{Row}
use Rattle.acap_notices.specs.Client.{listed_after, mapped_after}
use Rattle.acap_notices.specs.Client as client
use Rattle.acap_notices.specs.Rows.{RowMap, by_name}
use Rattle.acap_notices.specs.Rows as rows
use Rattle.acap_notices.specs.declared.notice.Notice.{Notice}
use Rattle.acap_notices.specs.declared.notice.Notice.TheVariants as notice
use Rattle.acap_notices.specs.declared.told.Told.{Told}
use Rattle.acap_notices.specs.declared.told.Told.TheVariants as told
use Rattle.acap_grammar.specs.Lines.{Line}
use Rattle.acap_grammar.specs.Lines as lines
use Rattle.acap_grammar.specs.Readable.{AreLines}
use Rattle.acap_grammar.specs.Replies.{tolds_form}
use Rattle.acap_grammar.specs.SaidLines.{told_line}
use Rattle.acap_grammar.specs.Printed.{PrintedRow, PrintedTold, AddTo, RemoveFrom, Change, Note, UpTo, Freed, printed_row, printed_notice, printed_told, ApartLaw, is_held, is_of, put_at, taken_from, printed_list_after, PrintedMap, printed_by_name, printed_map_after, IsPrinted, ArePrinted, PrintedLaw}
use Rattle.acap_grammar.proofs.HeardLines.{hearing}
use Rattle.acap_grammar.proofs.HeardTold.{tolds_are}

-- ---- apart

-- what a line says of a context; of any other line it doesn't matter
abbrev back : Line → PrintedTold
back (lines.AddTo context entry position items) = Note context (AddTo position (record { name = entry; items = items }))
back (lines.RemoveFrom context entry position) = Note context (RemoveFrom entry position)
back (lines.Change context entry old new items) = Note context (Change old new (record { name = entry; items = items }))
back (lines.UpTo context stamp) = UpTo context stamp
back (lines.Alert text) = Freed (drop 15 text)
back _ = Freed []

back_told : (one : Told) → back (told_line one) ≡ printed_told one
back_told (told.Note context (notice.AddTo position row)) = refl
back_told (told.Note context (notice.RemoveFrom entry position)) = refl
back_told (told.Note context (notice.Change old new row)) = refl
back_told (told.Upto context moment) = refl
back_told (told.Freed context) = refl

back_tolds : (tolds : List Told) → map back (map told_line tolds) ≡ map printed_told tolds
back_tolds [] = refl
back_tolds (one ∷ tolds) = rw (back_told one, back_tolds tolds) refl

pub apart : ApartLaw
apart tolds others h k e =
    let first = tolds_are tolds h.numbers h.fits in
    let second = subst (λ (octets : List ℕ). AreLines octets (map told_line others)) (sym e) (tolds_are others k.numbers k.fits) in
    sym (back_tolds tolds) ∙ ap (map back) (hearing.one_way (tolds_form tolds) (map told_line tolds) (map told_line others) first second) ∙ back_tolds others

-- ---- a list of printed rows

held_same : (entry : List ℕ) (all : List Row) → is_held entry (map printed_row all) ≡ rows.is_held entry all
held_same entry [] = refl
held_same entry (row ∷ all) = ap (λ b. octets_eq entry row.name || b) (held_same entry all)

is_of_same : (entry : List ℕ) (one : Option Row) → is_of entry (option_map printed_row one) ≡ rows.is_of entry one
is_of_same entry None = refl
is_of_same entry (Some row) = refl

insert_same : (all : List Row) (i : ℕ) (row : Row) → insert (map printed_row all) i (printed_row row) ≡ map printed_row (insert all i row)
insert_same all i row = rw (take-map printed_row i all, drop-map printed_row i all) (sym (map-append printed_row (take i all) (row ∷ drop i all)))

remove_same : (all : List Row) (i : ℕ) → remove (map printed_row all) i ≡ map printed_row (remove all i)
remove_same all i = rw (take-map printed_row i all, drop-map printed_row (suc i) all) (sym (map-append printed_row (take i all) (drop (suc i) all)))

if_same : (b : Bool) (x : List PrintedRow) (y : List Row) → x ≡ map printed_row y → cond b (Some x) None ≡ option_map (map printed_row) (cond b (Some y) None)
if_same true x y e = ap Some e
if_same false x y e = refl

put_same : (position : ℕ) (row : Row) (all : List Row) → put_at position (printed_row row) (map printed_row all) ≡ option_map (map printed_row) (client.put_at position row all)
put_same position row all = rw length-map (if_same (nat_le 1 position && nat_le position (length all + 1)) _ _ (insert_same all (position - 1) row))

taken_same : (position : ℕ) (entry : List ℕ) (all : List Row) → taken_from position entry (map printed_row all) ≡ option_map (map printed_row) (client.taken_from position entry all)
taken_same position entry all =
    rw (slice_get-map printed_row all (position - 1), is_of_same entry (slice_get all (position - 1)))
    (if_same (nat_le 1 position && rows.is_of entry (slice_get all (position - 1))) _ _ (remove_same all (position - 1)))

unless_same : (b : Bool) (x : Option (List PrintedRow)) (y : Option (List Row)) → x ≡ option_map (map printed_row) y → cond b None x ≡ option_map (map printed_row) (cond b None y)
unless_same true x y e = refl
unless_same false x y e = e

then_same : (row : Row) (position : ℕ) (one : Option (List Row)) → option_and_then (put_at position (printed_row row)) (option_map (map printed_row) one)
    ≡ option_map (map printed_row) (option_and_then (client.put_at position row) one)
then_same row position None = refl
then_same row position (Some all) = put_same position row all

listed_same : (all : List Row) (what : Notice) → printed_list_after (map printed_row all) (printed_notice what) ≡ option_map (map printed_row) (listed_after all what)
unfolding printed_list_after listed_after
listed_same all (notice.AddTo position row) = rw (held_same row.name all) (unless_same (rows.is_held row.name all) _ _ (put_same position row all))
listed_same all (notice.RemoveFrom entry position) = taken_same position entry all
listed_same all (notice.Change old new row) = rw (taken_same old row.name all) (then_same row new (client.taken_from old row.name all))

-- ---- a map of printed rows

cond_same : (b : Bool) (x : Option Row) (y : Option Row) → cond b (option_map printed_row x) (option_map printed_row y) ≡ option_map printed_row (cond b x y)
cond_same true x y = refl
cond_same false x y = refl

insert_printed : (all : RowMap) (printed : PrintedMap) (row : Row) → IsPrinted all printed → IsPrinted (finite.insert all row.name row) (finite.insert printed row.name (printed_row row))
insert_printed all printed row h = record {
  each = λ name.
      get-insert nat_list_cmp_total printed row.name (printed_row row) name
      ∙ ap (cond (eq_by_cmp octets_cmp name row.name) (Some (printed_row row))) (h.each name)
      ∙ cond_same (eq_by_cmp octets_cmp name row.name) (Some row) (get all name)
      ∙ ap (option_map printed_row) (sym (get-insert nat_list_cmp_total all row.name row name));
}

remove_printed : (all : RowMap) (printed : PrintedMap) (entry : List ℕ) → IsPrinted all printed → IsPrinted (finite.remove all entry) (finite.remove printed entry)
remove_printed all printed entry h = record {
  each = λ name.
      get-remove nat_list_cmp_total printed entry name
      ∙ ap (cond (eq_by_cmp octets_cmp name entry) None) (h.each name)
      ∙ cond_same (eq_by_cmp octets_cmp name entry) None (get all name)
      ∙ ap (option_map printed_row) (sym (get-remove nat_list_cmp_total all entry name));
}

started : (all : List Row) → IsPrinted (by_name all) (printed_by_name (map printed_row all))
started [] = record { each = λ name. get-empty octets_cmp name ∙ ap (option_map printed_row) (sym (get-empty octets_cmp name)) }
started (row ∷ all) = insert_printed (by_name all) (printed_by_name (map printed_row all)) row (started all)

some_same : (one : Option Row) → is_some (option_map printed_row one) ≡ is_some one
some_same None = refl
some_same (Some row) = refl

if_printed : (b : Bool) (all : RowMap) (printed : PrintedMap) → IsPrinted all printed → ArePrinted (cond b (Some all) None) (cond b (Some printed) None)
if_printed true all printed h = h
if_printed false all printed h = tt

unless_printed : (b : Bool) (all : RowMap) (printed : PrintedMap) → IsPrinted all printed → ArePrinted (cond b None (Some all)) (cond b None (Some printed))
unless_printed true all printed h = tt
unless_printed false all printed h = h

mapped_same : (all : RowMap) (printed : PrintedMap) (what : Notice) → IsPrinted all printed → ArePrinted (mapped_after all what) (printed_map_after printed (printed_notice what))
unfolding printed_map_after mapped_after
mapped_same all printed (notice.AddTo position row) h =
    rw (h.each row.name, some_same (get all row.name)) (unless_printed (is_some (get all row.name)) _ _ (insert_printed all printed row h))
mapped_same all printed (notice.RemoveFrom entry position) h =
    rw (h.each entry, some_same (get all entry)) (if_printed (is_some (get all entry)) _ _ (remove_printed all printed entry h))
mapped_same all printed (notice.Change old new row) h =
    rw (h.each row.name, some_same (get all row.name)) (if_printed (is_some (get all row.name)) _ _ (insert_printed all printed row h))

pub printed_law : PrintedLaw
printed_law = record { listed = listed_same; started = started; mapped = mapped_same }
