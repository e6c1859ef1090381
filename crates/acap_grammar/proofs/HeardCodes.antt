-- Printed data, and the codes of completions, are heard as these data.
use Rattle.std.proofs.Common.{◌≡◌, ℕ, ◌<◌, ◌≤◌, ◌^◌, true, List, [], ◌∷◌, ◌++◌, length, Option, Some, None, refl, sym, ap, subst, ◌∙◌, append_assoc, append-nil, length-append, arith, decimal, codes, option_to_list}
use Rattle.std.specs.List.{list_all}
use Rattle.acap_lexer.specs.Octets.{is_word}
use Rattle.acap_lexer.specs.Printing.{printed_form}
use Rattle.acap_entries.specs.declared.record.Cell.{Cell}
use Rattle.acap_entries.specs.declared.record.Cell.TheVariants as cell
use Rattle.acap_entries.specs.declared.row.Item.{Item}
use Rattle.acap_entries.specs.declared.row.Item.TheVariants as item
use Rattle.acap_entries.specs.declared.path.Path.{Path}
use Rattle.acap_commands.specs.declared.object_name.ObjectName.{ObjectName}
use Rattle.acap_commands.specs.declared.object_name.ObjectName.TheVariants as object_name
use Rattle.acap_commands.specs.declared.refusal.Refusal.{Refusal}
use Rattle.acap_commands.specs.declared.refusal.Refusal.TheVariants as refusal
use Rattle.acap_grammar.specs.Lines.{Datum, Word, Text, Empty, Pair, group, Line, coded}
use Rattle.acap_grammar.specs.Listening.{Fresh, InWord, turned, hears}
use Rattle.acap_grammar.specs.Refusals.{path_form, object_form, code_of}
use Rattle.acap_grammar.specs.Replies.{list_form, cell_form, item_form, total_form}
use Rattle.acap_grammar.specs.SaidLines.{cell_datum, cells_datum, item_datum, object_data, code_datum}
use Rattle.acap_grammar.proofs.HeardStrings.{hears-append}
use Rattle.acap_grammar.proofs.HeardForms.{holding, Settles, settled, Reads, fits_first, fits_last, string_reads, word_read, word_reads, word_settles, number_reads, reads_next, reads_group, list_reads}
use Rattle.acap_grammar.proofs.HeardWhole.{Opens, opens_group}

-- ---- the data of a row

pub cell_reads : (one : Cell) → Reads (cell_form one) (cell_datum one ∷ [])
unfolding cell_form is_word
cell_reads cell.Nil = word_reads (codes "NIL") refl (omega arith)
cell_reads (cell.Single value) = string_reads value
cell_reads (cell.Multi values) = list_reads printed_form Text string_reads values

cells_read : (cells : List Cell) → Reads (list_form cell_form cells) (cells_datum cells ∷ [])
cells_read cells = list_reads cell_form cell_datum cell_reads cells

pub item_reads : (one : Item) → Reads (item_form one) (item_datum one ∷ [])
unfolding item_form
item_reads (item.One one) = cell_reads one
item_reads (item.Several cells) = cells_read cells
item_reads (item.PerAttribute lists) = list_reads (list_form cell_form) cells_datum cells_read lists

-- ---- codes

-- two with a space between them
reads_two : (a b : List ℕ) (ds es : List Datum) → Reads a ds → Reads b es → Reads (a ++ 32 ∷ [] ++ b) (ds ++ es)
reads_two a b ds es r q = record {
  read = λ small client.
      let short = fits_first (a ++ 32 ∷ []) b small in
      let first = hears (turned client Fresh) a in
      let one = r.read (fits_first a (32 ∷ []) short) client in
      subst (λ t. Settles t (holding client (ds ++ es)))
      (sym (hears-append (turned client Fresh) (a ++ 32 ∷ []) b ∙ ap (λ s. hears s b) (hears-append (turned client Fresh) a (32 ∷ []))))
      (reads_next client ds first b es one q (fits_last (a ++ 32 ∷ []) b small));
}

-- a word, a space, and what follows
word_then : (word form : List ℕ) (ds : List Datum) → list_all is_word word ≡ true → 1 ≤ length word → Reads form ds → Reads (word ++ 32 ∷ form) (Word word ∷ ds)
word_then word form ds p some r = record {
  read = λ small client.
      let short : length form < 2 ^ 64 = omega (arith, fits_last word (32 ∷ form) small) in
      subst (λ t. Settles t (holding client (Word word ∷ ds))) (sym (hears-append (turned client Fresh) word (32 ∷ form) ∙ ap (λ s. hears s (32 ∷ form)) (word_read client word p some)))
      (reads_next client (Word word ∷ []) (turned client (InWord word)) form ds (word_settles client word) r short);
}

path_reads : (path : Path) → Reads (path_form path) (Text (path.dataset ++ path.name) ∷ [])
unfolding path_form
path_reads path = string_reads (path.dataset ++ path.name)

-- a parenthesis within another datum's octets
group_reads : (form : List ℕ) (ds : List Datum) → Reads form ds → Reads (40 ∷ (form ++ 41 ∷ [])) (group ds ∷ [])
group_reads form ds r = record {
  read = λ small client.
      settled _ _ (reads_group form ds r (omega (arith, length-append form (41 ∷ []))) client);
}

object_reads : (object : ObjectName) → Reads (object_form object) (group (object_data object) ∷ [])
unfolding object_form
object_reads (object_name.Dataset dataset) = group_reads (printed_form dataset) (Text dataset ∷ []) (string_reads dataset)
object_reads (object_name.Attribute dataset attribute) =
    group_reads (printed_form dataset ++ 32 ∷ [] ++ printed_form attribute) (Text dataset ∷ Text attribute ∷ [])
    (reads_two (printed_form dataset) (printed_form attribute) (Text dataset ∷ []) (Text attribute ∷ []) (string_reads dataset) (string_reads attribute))
object_reads (object_name.Entry dataset attribute name) =
    let two = printed_form dataset ++ 32 ∷ [] ++ printed_form attribute in
    group_reads (two ++ 32 ∷ [] ++ printed_form name) (Text dataset ∷ Text attribute ∷ Text name ∷ [])
    (reads_two two (printed_form name) (Text dataset ∷ Text attribute ∷ []) (Text name ∷ [])
    (reads_two (printed_form dataset) (printed_form attribute) (Text dataset ∷ []) (Text attribute ∷ []) (string_reads dataset) (string_reads attribute)) (string_reads name))

-- `(WORD form) `, and `(WORD) `
about_opens : (head word form : List ℕ) (ds about : List Datum) → Opens head ds → list_all is_word word ≡ true → 1 ≤ length word → Reads form about
    → length (head ++ (40 ∷ ((word ++ 32 ∷ form) ++ 41 ∷ 32 ∷ []))) < 2 ^ 64 → Opens (head ++ (40 ∷ ((word ++ 32 ∷ form) ++ 41 ∷ 32 ∷ []))) (ds ++ group (Word word ∷ about) ∷ [])
about_opens head word form ds about o p some r small = opens_group head (word ++ 32 ∷ form) ds (Word word ∷ about) o (word_then word form about p some r) small

alone_opens : (head word : List ℕ) (ds : List Datum) → Opens head ds → list_all is_word word ≡ true → 1 ≤ length word
    → length (head ++ (40 ∷ (word ++ 41 ∷ 32 ∷ []))) < 2 ^ 64 → Opens (head ++ (40 ∷ (word ++ 41 ∷ 32 ∷ []))) (ds ++ group (Word word ∷ []) ∷ [])
alone_opens head word ds o p some small = opens_group head word ds (Word word ∷ []) o (word_reads word p some) small

nothing_opens : (head : List ℕ) (ds : List Datum) → Opens head ds → Opens (head ++ []) (ds ++ [])
nothing_opens head ds o = subst (λ (h : List ℕ). Opens h (ds ++ [])) (sym (append-nil head)) (subst (Opens head) (sym (append-nil ds)) o)

-- `(INVALID (path attribute)) `: its second parenthesis stands before the first's end
invalid_form : (path : Path) (attribute : List ℕ) → code_of (refusal.Invalid path attribute)
    ≡ 40 ∷ ((codes "INVALID" ++ 32 ∷ 40 ∷ ((path_form path ++ 32 ∷ [] ++ printed_form attribute) ++ 41 ∷ [])) ++ 41 ∷ 32 ∷ [])
unfolding code_of
invalid_form path attribute =
    ap (λ (w : List ℕ). codes "(INVALID (" ++ w) (sym (append_assoc (path_form path ++ 32 ∷ [] ++ printed_form attribute) (41 ∷ []) (41 ∷ 32 ∷ [])))

pub code_opens : (head : List ℕ) (ds : List Datum) (why : Refusal) → Opens head ds → length (head ++ code_of why) < 2 ^ 64 → Opens (head ++ code_of why) (ds ++ option_to_list (code_datum why))
unfolding code_of is_word
code_opens head ds (refusal.Permission object) o small = about_opens head (codes "PERMISSION") (object_form object) ds (group (object_data object) ∷ []) o refl (omega arith) (object_reads object) small
code_opens head ds (refusal.NoExist dataset) o small = about_opens head (codes "NOEXIST") (printed_form dataset) ds (Text dataset ∷ []) o refl (omega arith) (string_reads dataset) small
code_opens head ds (refusal.Modified path) o small = about_opens head (codes "MODIFIED") (path_form path) ds (Text (path.dataset ++ path.name) ∷ []) o refl (omega arith) (path_reads path) small
code_opens head ds (refusal.Invalid path attribute) o small =
    let two = path_form path ++ 32 ∷ [] ++ printed_form attribute in
    let data_of = Text (path.dataset ++ path.name) ∷ Text attribute ∷ [] in
    let form = invalid_form path attribute in
    subst (λ (code : List ℕ). Opens (head ++ code) (ds ++ group (Word (codes "INVALID") ∷ group data_of ∷ []) ∷ [])) (sym form)
    (about_opens head (codes "INVALID") (40 ∷ (two ++ 41 ∷ [])) ds (group data_of ∷ []) o refl (omega arith)
    (group_reads two data_of (reads_two (path_form path) (printed_form attribute) (Text (path.dataset ++ path.name) ∷ []) (Text attribute ∷ []) (path_reads path) (string_reads attribute)))
    (subst (λ (code : List ℕ). length (head ++ code) < 2 ^ 64) form small))
code_opens head ds refusal.TooOld o small = alone_opens head (codes "TOOOLD") ds o refl (omega arith) small
code_opens head ds refusal.WayTooMany o small = alone_opens head (codes "WAYTOOMANY") ds o refl (omega arith) small
code_opens head ds refusal.TryFreeContext o small = alone_opens head (codes "TRYFREECONTEXT") ds o refl (omega arith) small
code_opens head ds refusal.Memory o small = alone_opens head (codes "TRYLATER") ds o refl (omega arith) small
code_opens head ds refusal.HistoryFull o small = alone_opens head (codes "TRYLATER") ds o refl (omega arith) small
code_opens head ds _ o small = nothing_opens head ds o

pub total_opens : (head : List ℕ) (ds : List Datum) (total : ℕ) → Opens head ds → total < 2 ^ 64 → length (head ++ total_form total) < 2 ^ 64
    → Opens (head ++ total_form total) (ds ++ group (Word (codes "TOOMANY") ∷ Word (decimal total) ∷ []) ∷ [])
unfolding total_form is_word
total_opens head ds total o few small = about_opens head (codes "TOOMANY") (decimal total) ds (Word (decimal total) ∷ []) o refl (omega arith) (number_reads total few) small

-- ---- a code and a text as they are read

abbrev pub IsCode : Option Datum → Type 0
IsCode None = Unit {0}
IsCode (Some (Pair first others)) = Unit {0}
IsCode (Some _) = ⊥

pub is_code : (why : Refusal) → IsCode (code_datum why)
is_code (refusal.Permission object) = tt
is_code (refusal.NoExist dataset) = tt
is_code (refusal.Modified path) = tt
is_code (refusal.Invalid path attribute) = tt
is_code refusal.TooOld = tt
is_code refusal.WayTooMany = tt
is_code refusal.TryFreeContext = tt
is_code refusal.Memory = tt
is_code refusal.HistoryFull = tt
is_code _ = tt

pub coded_text : (line : Option Datum → List ℕ → Line) (code : Option Datum) (text : List ℕ) → IsCode code → coded line (option_to_list code ++ Text text ∷ []) ≡ Some (line code text)
coded_text line None text h = refl
coded_text line (Some (Pair first others)) text h = refl
coded_text line (Some (Word word)) text h = absurd h
coded_text line (Some (Text other)) text h = absurd h
coded_text line (Some Empty) text h = absurd h
