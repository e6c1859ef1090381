-- The octets of what is sent of contexts are its lines.
use Rattle.std.proofs.Common.{◌≡◌, ℕ, ℤ, ◌<◌, ◌^◌, List, [], ◌∷◌, ◌++◌, map, flat_map, length, Option, Some, refl, sym, ◌∙◌, append-nil, decimal, codes}
use Rattle.std.specs.List.{AllByRecursion}
use Rattle.acap_lexer.specs.Octets.{is_word}
use Rattle.acap_lexer.specs.Printing.{printed_form}
use Rattle.acap_entries.specs.Stamp.{stamp_of}
use Rattle.acap_entries.specs.declared.row.Row.{Row}
use Rattle.acap_notices.specs.declared.notice.Notice.{Notice}
use Rattle.acap_notices.specs.declared.notice.Notice.TheVariants as notice
use Rattle.acap_notices.specs.declared.told.Told.{Told}
use Rattle.acap_notices.specs.declared.told.Told.TheVariants as told
use Rattle.acap_grammar.specs.Lines.{Datum, Word, Text, Line, AddTo, RemoveFrom, Change, UpTo, Alert, line_of, numbered}
use Rattle.acap_grammar.specs.Readable.{IsLine, AreLines}
use Rattle.acap_grammar.specs.Replies.{crlf, behind_spaces, item_form, about_form, position_form, added_form, removed_form, changed_form, notice_form, upto_form, freed_form, told_form, tolds_form}
use Rattle.acap_grammar.specs.SaidLines.{item_datum, row_data, notice_line, told_line}
use Rattle.acap_grammar.specs.Sayable.{FitsU64, notice_numbers, told_numbers}
use Rattle.acap_grammar.proofs.HeardStrings.{number_back}
use Rattle.acap_grammar.proofs.HeardForms.{fits_first, fits_last, string_reads}
use Rattle.acap_grammar.proofs.HeardWhole.{Opens, opens_then, holds_number, holds_spaced, holds_line, about_holds}
use Rattle.acap_grammar.proofs.HeardCodes.{item_reads}

-- ---- lines one after the other

pub one_line : (octets : List ℕ) (line : Line) → IsLine octets line → AreLines octets (line ∷ [])
one_line octets line l = (octets, [], sym (append-nil octets), l, refl)

pub lines_each : {A : Type 0} (form : A → List ℕ) (line : A → Line) → ((x : A) → length (form x) < 2 ^ 64 → IsLine (form x) (line x)) → (xs : List A)
    → length (flat_map form xs) < 2 ^ 64 → AreLines (flat_map form xs) (map line xs)
lines_each form line each [] small = refl
lines_each form line each (x ∷ xs) small =
    (form x, flat_map form xs, refl, each x (fits_first (form x) (flat_map form xs) small), lines_each form line each xs (fits_last (form x) (flat_map form xs) small))

-- ---- what is sent of contexts

position_read : (n : ℕ) (line : ℕ → List Datum → Option Line) (ds : List Datum) → n < 2 ^ 64 → numbered line (Word (decimal n) ∷ ds) ≡ line n ds
position_read n line ds small = rw (number_back n small) refl

added_is : (context : List ℕ) (position : ℕ) (row : Row) → position < 2 ^ 64 → length (added_form context position row) < 2 ^ 64
    → IsLine (added_form context position row) (AddTo context row.name position (row_data row))
unfolding added_form is_word
added_is context position row few small =
    let about = about_form (codes "* ADDTO ") context row.name in
    let placed = about ++ position_form position in
    let body = placed ++ behind_spaces item_form row.items in
    let fits = fits_first body crlf small in
    let short = fits_first placed (behind_spaces item_form row.items) fits in
    let ds = Word (codes "*") ∷ Word (codes "ADDTO") ∷ [] in
    let first = about_holds (codes "* ADDTO ") ds context row.name (record { opens = λ lines. refl }) (fits_first about (position_form position) short) in
    let second = holds_number about (Word (codes "*") ∷ Word (codes "ADDTO") ∷ Text context ∷ Text row.name ∷ []) position first few short in
    holds_line body (Word (codes "*") ∷ Word (codes "ADDTO") ∷ Text context ∷ Text row.name ∷ Word (decimal position) ∷ map item_datum row.items) (AddTo context row.name position (row_data row))
    (holds_spaced item_form item_datum item_reads row.items placed (Word (codes "*") ∷ Word (codes "ADDTO") ∷ Text context ∷ Text row.name ∷ Word (decimal position) ∷ []) second fits)
    (position_read position (λ n items. Some (AddTo context row.name n items)) (row_data row) few)

removed_is : (context entry : List ℕ) (position : ℕ) → position < 2 ^ 64 → length (removed_form context entry position) < 2 ^ 64
    → IsLine (removed_form context entry position) (RemoveFrom context entry position)
unfolding removed_form is_word
removed_is context entry position few small =
    let about = about_form (codes "* REMOVEFROM ") context entry in
    let body = about ++ position_form position in
    let fits = fits_first body crlf small in
    let first = about_holds (codes "* REMOVEFROM ") (Word (codes "*") ∷ Word (codes "REMOVEFROM") ∷ []) context entry (record { opens = λ lines. refl }) (fits_first about (position_form position) fits) in
    holds_line body (Word (codes "*") ∷ Word (codes "REMOVEFROM") ∷ Text context ∷ Text entry ∷ Word (decimal position) ∷ []) (RemoveFrom context entry position)
    (holds_number about (Word (codes "*") ∷ Word (codes "REMOVEFROM") ∷ Text context ∷ Text entry ∷ []) position first few fits)
    (rw (number_back position few) refl)

changed_is : (context : List ℕ) (old new : ℕ) (row : Row) → old < 2 ^ 64 → new < 2 ^ 64 → length (changed_form context old new row) < 2 ^ 64
    → IsLine (changed_form context old new row) (Change context row.name old new (row_data row))
unfolding changed_form is_word
changed_is context old new row few less small =
    let about = about_form (codes "* CHANGE ") context row.name in
    let from = about ++ position_form old in
    let placed = from ++ position_form new in
    let body = placed ++ behind_spaces item_form row.items in
    let fits = fits_first body crlf small in
    let short = fits_first placed (behind_spaces item_form row.items) fits in
    let shorter = fits_first from (position_form new) short in
    let first = about_holds (codes "* CHANGE ") (Word (codes "*") ∷ Word (codes "CHANGE") ∷ []) context row.name (record { opens = λ lines. refl }) (fits_first about (position_form old) shorter) in
    let second = holds_number about (Word (codes "*") ∷ Word (codes "CHANGE") ∷ Text context ∷ Text row.name ∷ []) old first few shorter in
    let third = holds_number from (Word (codes "*") ∷ Word (codes "CHANGE") ∷ Text context ∷ Text row.name ∷ Word (decimal old) ∷ []) new second less short in
    holds_line body (Word (codes "*") ∷ Word (codes "CHANGE") ∷ Text context ∷ Text row.name ∷ Word (decimal old) ∷ Word (decimal new) ∷ map item_datum row.items) (Change context row.name old new (row_data row))
    (holds_spaced item_form item_datum item_reads row.items placed (Word (codes "*") ∷ Word (codes "CHANGE") ∷ Text context ∷ Text row.name ∷ Word (decimal old) ∷ Word (decimal new) ∷ []) third fits)
    (position_read old (λ n. numbered (λ m items. Some (Change context row.name n m items))) (Word (decimal new) ∷ row_data row) few
    ∙ position_read new (λ m items. Some (Change context row.name old m items)) (row_data row) less)

notice_is : (context : List ℕ) (what : Notice) → AllByRecursion FitsU64 (notice_numbers what) → length (notice_form context what) < 2 ^ 64
    → IsLine (notice_form context what) (notice_line context what)
notice_is context (notice.AddTo position row) few small = added_is context position row few.0 small
notice_is context (notice.RemoveFrom entry position) few small = removed_is context entry position few.0 small
notice_is context (notice.Change old new row) few small = changed_is context old new row few.0 few.1.0 small

upto_is : (context : List ℕ) (moment : ℤ) → length (upto_form context moment) < 2 ^ 64 → IsLine (upto_form context moment) (UpTo context (stamp_of moment))
unfolding upto_form is_word
upto_is context moment small =
    let body = about_form (codes "* MODTIME ") context (stamp_of moment) in
    holds_line body (Word (codes "*") ∷ Word (codes "MODTIME") ∷ Text context ∷ Text (stamp_of moment) ∷ []) (UpTo context (stamp_of moment))
    (about_holds (codes "* MODTIME ") (Word (codes "*") ∷ Word (codes "MODTIME") ∷ []) context (stamp_of moment) (record { opens = λ lines. refl }) (fits_first body crlf small)) refl

-- a word under no tag, and a string
pub plain_line : (head text : List ℕ) (ds : List Datum) (line : Line) → Opens head ds → line_of (ds ++ Text text ∷ []) ≡ Some line → length (head ++ printed_form text ++ crlf) < 2 ^ 64
    → IsLine (head ++ printed_form text ++ crlf) line
plain_line head text ds line o is small =
    let body = head ++ printed_form text in
    holds_line body (ds ++ Text text ∷ []) line (opens_then head (printed_form text) ds (Text text ∷ []) o (string_reads text) (fits_first body crlf small)) is

freed_is : (context : List ℕ) → length (freed_form context) < 2 ^ 64 → IsLine (freed_form context) (Alert (codes "Context freed: " ++ context))
unfolding freed_form is_word
freed_is context small =
    plain_line (codes "* ALERT ") (codes "Context freed: " ++ context) (Word (codes "*") ∷ Word (codes "ALERT") ∷ []) (Alert (codes "Context freed: " ++ context)) (record { opens = λ lines. refl }) refl small

told_is : (what : Told) → AllByRecursion FitsU64 (told_numbers what) → length (told_form what) < 2 ^ 64 → IsLine (told_form what) (told_line what)
told_is (told.Note context what) few small = notice_is context what few small
told_is (told.Upto context moment) few small = upto_is context moment small
told_is (told.Freed context) few small = freed_is context small

all_parts : (xs ys : List ℕ) → AllByRecursion FitsU64 (xs ++ ys) → AllByRecursion FitsU64 xs × AllByRecursion FitsU64 ys
all_parts [] ys h = (tt, h)
all_parts (x ∷ xs) ys h = let later = all_parts xs ys h.1 in ((h.0, later.0), later.1)

pub tolds_are : (tolds : List Told) → AllByRecursion FitsU64 (flat_map told_numbers tolds) → length (tolds_form tolds) < 2 ^ 64 → AreLines (tolds_form tolds) (map told_line tolds)
tolds_are [] few small = refl
tolds_are (x ∷ xs) few small =
    let parts = all_parts (told_numbers x) (flat_map told_numbers xs) few in
    (told_form x, tolds_form xs, refl, told_is x parts.0 (fits_first (told_form x) (tolds_form xs) small), tolds_are xs parts.1 (fits_last (told_form x) (tolds_form xs) small))
