-- The octets of a reply are its lines.
use Rattle.std.proofs.Common.{◌≡◌, ℕ, ℤ, ◌<◌, ◌^◌, List, [], ◌∷◌, ◌++◌, map, flat_map, length, Option, Some, None, refl, ap, ◌∙◌, codes, option_to_list, option_map}
use Rattle.std.specs.List.{AllByRecursion}
use Rattle.acap_lexer.specs.Octets.{is_word, is_quotable, is_escaped}
use Rattle.acap_lexer.specs.Printing.{printed_form}
use Rattle.acap_entries.specs.Stamp.{stamp_of}
use Rattle.acap_entries.specs.declared.row.Row.{Row}
use Rattle.acap_commands.specs.Statuses.{status_of}
use Rattle.acap_commands.specs.declared.refusal.Refusal.{Refusal}
use Rattle.acap_commands.specs.declared.reply.Reply.{Reply}
use Rattle.acap_commands.specs.declared.said.Said.{Said}
use Rattle.acap_commands.specs.declared.said.Said.TheVariants as said
use Rattle.acap_commands.specs.declared.said.SearchReply.{SearchReply}
use Rattle.acap_commands.specs.declared.refusal.Status.{Status}
use Rattle.acap_commands.specs.declared.refusal.Status.TheVariants as status
use Rattle.acap_commands.specs.declared.command.Verb.{Verb}
use Rattle.acap_commands.specs.declared.command.Verb.TheVariants as verb
use Rattle.acap_grammar.specs.Lines.{Datum, Word, Text, Done, Failed, Wrong, Line, GoOn, Entry, Moment, Deleted, Rights, RightsList, Completion, Bye, line_of, tagged, untagged, texts_of}
use Rattle.acap_grammar.specs.Readable.{IsLine, AreLines}
use Rattle.acap_grammar.specs.Refusals.{code_of, text_of}
use Rattle.acap_grammar.specs.Replies.{crlf, behind_spaces, item_form, row_form, rows_form, last_form, done_of, done_form, status_form, refused_form, greeting, total_form, searched_form, found_form, deleted_name_form, deleted_names_form, deleted_form, rights_form, rights_list_form, challenge_form, good_bye_form, tolds_form, updated_form, said_form, tag_of, octets_of}
use Rattle.acap_grammar.specs.SaidLines.{item_datum, row_data, code_datum, total_datum, refused_by, refused_line, done_line, moment_lines, entry_line, found_lines, told_line, greeting_line, said_lines, lines_of}
use Rattle.acap_grammar.specs.Sayable.{IsTagged, IsSayable, FitsU64, total_numbers, numbers_of, ReadableLaw}
use Rattle.acap_grammar.proofs.HeardForms.{fits_first, fits_last, string_reads}
use Rattle.acap_grammar.proofs.HeardLines.{lines-append, line_from, lines_heard}
use Rattle.acap_grammar.proofs.HeardWhole.{Opens, opens_then, holds_spaced, holds_line, under_tag, tag_opens, tag_holds}
use Rattle.acap_grammar.proofs.HeardTold.{one_line, lines_each, plain_line, tolds_are}
use Rattle.acap_grammar.proofs.HeardCodes.{item_reads, code_opens, total_opens, is_code, coded_text}

-- ---- lines under a tag

-- tag, a word, and a string
text_line : (tag : Option (List ℕ)) (word behind text : List ℕ) (line : Line) → IsTagged tag → Opens (tag_of tag ++ behind) (Word (tag_of tag) ∷ Word word ∷ [])
    → untagged word (Text text ∷ []) ≡ tagged None word (Text text ∷ []) → tagged tag word (Text text ∷ []) ≡ Some line
    → length (tag_of tag ++ behind ++ printed_form text ++ crlf) < 2 ^ 64 → IsLine (tag_of tag ++ behind ++ printed_form text ++ crlf) line
text_line tag word behind text line t o same is small =
    let head = tag_of tag ++ behind in
    let body = head ++ printed_form text in
    holds_line body (Word (tag_of tag) ∷ Word word ∷ Text text ∷ []) line
    (opens_then head (printed_form text) (Word (tag_of tag) ∷ Word word ∷ []) (Text text ∷ []) o (string_reads text) (fits_first body crlf small))
    (under_tag tag word (Text text ∷ []) t same ∙ is)

done_is : (tag : Option (List ℕ)) (what : Verb) → IsTagged tag → length (done_form (tag_of tag) what) < 2 ^ 64 → IsLine (done_form (tag_of tag) what) (done_line tag what)
unfolding done_form is_word
done_is tag what t small = text_line tag (codes "OK") (codes " OK ") (done_of what) (done_line tag what) t (tag_opens tag (codes "OK") (codes " OK ") t (λ lines. refl)) refl refl small

row_is : (tag : Option (List ℕ)) (row : Row) → IsTagged tag → length (row_form (tag_of tag) row) < 2 ^ 64 → IsLine (row_form (tag_of tag) row) (Entry tag row.name (row_data row))
unfolding row_form is_word
row_is tag row t small =
    let head = tag_of tag ++ codes " ENTRY " in
    let named = head ++ printed_form row.name in
    let body = named ++ behind_spaces item_form row.items in
    let fits = fits_first body crlf small in
    let ds = Word (tag_of tag) ∷ Word (codes "ENTRY") ∷ [] in
    let first = opens_then head (printed_form row.name) ds (Text row.name ∷ []) (tag_opens tag (codes "ENTRY") (codes " ENTRY ") t (λ lines. refl)) (string_reads row.name)
    (fits_first named (behind_spaces item_form row.items) fits) in
    holds_line body (Word (tag_of tag) ∷ Word (codes "ENTRY") ∷ Text row.name ∷ map item_datum row.items) (Entry tag row.name (row_data row))
    (holds_spaced item_form item_datum item_reads row.items named (Word (tag_of tag) ∷ Word (codes "ENTRY") ∷ Text row.name ∷ []) first fits)
    (under_tag tag (codes "ENTRY") (Text row.name ∷ row_data row) t refl)

last_are : (tag : Option (List ℕ)) (last : Option ℤ) → IsTagged tag → length (last_form (tag_of tag) last) < 2 ^ 64 → AreLines (last_form (tag_of tag) last) (moment_lines tag last)
unfolding last_form is_word
last_are tag None t small = refl
last_are tag (Some moment) t small =
    one_line _ (Moment tag (stamp_of moment))
    (text_line tag (codes "MODTIME") (codes " MODTIME ") (stamp_of moment) (Moment tag (stamp_of moment)) t (tag_opens tag (codes "MODTIME") (codes " MODTIME ") t (λ lines. refl)) refl refl small)

deleted_is : (tag : Option (List ℕ)) (name : List ℕ) → IsTagged tag → length (deleted_name_form (tag_of tag) name) < 2 ^ 64 → IsLine (deleted_name_form (tag_of tag) name) (Deleted tag name)
unfolding deleted_name_form is_word
deleted_is tag name t small = text_line tag (codes "DELETED") (codes " DELETED ") name (Deleted tag name) t (tag_opens tag (codes "DELETED") (codes " DELETED ") t (λ lines. refl)) refl refl small

texts_back : (texts : List (List ℕ)) → texts_of (map Text texts) ≡ Some texts
texts_back [] = refl
texts_back (text ∷ texts) = rw (texts_back texts) refl

-- a completion with a code before its text
coded_is : (tag : Option (List ℕ)) (word head code text : List ℕ) (datum : Option Datum) (line : Line) → IsTagged tag
    → Opens (head ++ code) (Word (tag_of tag) ∷ Word word ∷ option_to_list datum)
    → line_of (Word (tag_of tag) ∷ Word word ∷ (option_to_list datum ++ Text text ∷ [])) ≡ Some line
    → length (head ++ code ++ printed_form text ++ crlf) < 2 ^ 64 → IsLine (head ++ code ++ printed_form text ++ crlf) line
coded_is tag word head code text datum line t o is small =
    let body = head ++ code ++ printed_form text in
    let ds = Word (tag_of tag) ∷ Word word ∷ option_to_list datum in
    holds_line body (ds ++ Text text ∷ []) line (opens_then (head ++ code) (printed_form text) ds (Text text ∷ []) o (string_reads text) (fits_first body crlf small)) is

searched_is : (tag : Option (List ℕ)) (total : Option ℕ) → IsTagged tag → AllByRecursion FitsU64 (total_numbers total) → length (searched_form (tag_of tag) total) < 2 ^ 64
    → IsLine (searched_form (tag_of tag) total) (Completion tag Done (total_datum total) (done_of verb.Search))
unfolding searched_form is_word
searched_is tag None t few small = done_is tag verb.Search t small
searched_is tag (Some total) t few small =
    let head = tag_of tag ++ codes " OK " in
    let code = total_form total in
    let body = head ++ code ++ printed_form (done_of verb.Search) in
    let ds = Word (tag_of tag) ∷ Word (codes "OK") ∷ [] in
    coded_is tag (codes "OK") head code (done_of verb.Search) (total_datum (Some total)) (Completion tag Done (total_datum (Some total)) (done_of verb.Search)) t
    (total_opens head ds total (tag_opens tag (codes "OK") (codes " OK ") t (λ lines. refl)) few.0
    (fits_first (head ++ code) (printed_form (done_of verb.Search)) (fits_first body crlf small)))
    (under_tag tag (codes "OK") (option_to_list (total_datum (Some total)) ++ Text (done_of verb.Search) ∷ []) t refl) small

-- a refusal by its status
refused_as : (how : Status) (tag : Option (List ℕ)) (why : Refusal) → IsTagged tag → length (status_form how (tag_of tag) ++ code_of why ++ printed_form (text_of why) ++ crlf) < 2 ^ 64
    → IsLine (status_form how (tag_of tag) ++ code_of why ++ printed_form (text_of why) ++ crlf) (refused_by how tag (code_datum why) (text_of why))
unfolding is_word
refused_as status.No tag why t small =
    let head = tag_of tag ++ codes " NO " in
    let body = head ++ code_of why ++ printed_form (text_of why) in
    coded_is tag (codes "NO") head (code_of why) (text_of why) (code_datum why) (Completion tag Failed (code_datum why) (text_of why)) t
    (code_opens head (Word (tag_of tag) ∷ Word (codes "NO") ∷ []) why (tag_opens tag (codes "NO") (codes " NO ") t (λ lines. refl))
    (fits_first (head ++ code_of why) (printed_form (text_of why)) (fits_first body crlf small)))
    (under_tag tag (codes "NO") (option_to_list (code_datum why) ++ Text (text_of why) ∷ []) t refl ∙ coded_text (Completion tag Failed) (code_datum why) (text_of why) (is_code why)) small
refused_as status.Bad tag why t small =
    let head = tag_of tag ++ codes " BAD " in
    let body = head ++ code_of why ++ printed_form (text_of why) in
    coded_is tag (codes "BAD") head (code_of why) (text_of why) (code_datum why) (Completion tag Wrong (code_datum why) (text_of why)) t
    (code_opens head (Word (tag_of tag) ∷ Word (codes "BAD") ∷ []) why (tag_opens tag (codes "BAD") (codes " BAD ") t (λ lines. refl))
    (fits_first (head ++ code_of why) (printed_form (text_of why)) (fits_first body crlf small)))
    (under_tag tag (codes "BAD") (option_to_list (code_datum why) ++ Text (text_of why) ∷ []) t refl ∙ coded_text (Completion tag Wrong) (code_datum why) (text_of why) (is_code why)) small
refused_as status.Bye tag why t small =
    let head = codes "* BYE " in
    let body = head ++ code_of why ++ printed_form (text_of why) in
    coded_is None (codes "BYE") head (code_of why) (text_of why) (code_datum why) (Bye (code_datum why) (text_of why)) tt
    (code_opens head (Word (codes "*") ∷ Word (codes "BYE") ∷ []) why (record { opens = λ lines. refl })
    (fits_first (head ++ code_of why) (printed_form (text_of why)) (fits_first body crlf small)))
    (coded_text Bye (code_datum why) (text_of why) (is_code why)) small

-- ---- what is said

greeting_is : IsLine greeting greeting_line
unfolding is_word is_quotable is_escaped
greeting_is = line_from greeting greeting_line (λ lines. refl)

found_are : (tag : Option (List ℕ)) (found : SearchReply) → IsTagged tag → AllByRecursion FitsU64 (total_numbers found.total) → length (found_form (tag_of tag) found) < 2 ^ 64
    → AreLines (found_form (tag_of tag) found) (found_lines tag found)
unfolding found_form
found_are tag found t few small =
    let rows = rows_form (tag_of tag) found.rows in
    let last = last_form (tag_of tag) found.last in
    let end = searched_form (tag_of tag) found.total in
    let fits = fits_first (rows ++ last) end small in
    lines-append (rows ++ last) end (map (entry_line tag) found.rows ++ moment_lines tag found.last) (Completion tag Done (total_datum found.total) (done_of verb.Search) ∷ [])
    (lines-append rows last (map (entry_line tag) found.rows) (moment_lines tag found.last)
    (lines_each (row_form (tag_of tag)) (entry_line tag) (λ row h. row_is tag row t h) found.rows (fits_first rows last fits))
    (last_are tag found.last t (fits_last rows last fits)))
    (one_line end (Completion tag Done (total_datum found.total) (done_of verb.Search)) (searched_is tag found.total t few (fits_last (rows ++ last) end small)))

-- lines, and the completion
then_done : (tag : Option (List ℕ)) (what : Verb) (octets : List ℕ) (lines : List Line) → IsTagged tag → length (octets ++ done_form (tag_of tag) what) < 2 ^ 64
    → (length octets < 2 ^ 64 → AreLines octets lines) → AreLines (octets ++ done_form (tag_of tag) what) (lines ++ done_line tag what ∷ [])
then_done tag what octets lines t small are =
    let done = done_form (tag_of tag) what in
    lines-append octets done lines (done_line tag what ∷ []) (are (fits_first octets done small)) (one_line done (done_line tag what) (done_is tag what t (fits_last octets done small)))

rights_list_is : (tag : Option (List ℕ)) (rights : List (List ℕ)) → IsTagged tag → length (tag_of tag ++ codes " LISTRIGHTS" ++ behind_spaces printed_form rights ++ crlf) < 2 ^ 64
    → IsLine (tag_of tag ++ codes " LISTRIGHTS" ++ behind_spaces printed_form rights ++ crlf) (RightsList tag rights)
unfolding is_word
rights_list_is tag rights t small =
    let head = tag_of tag ++ codes " LISTRIGHTS" in
    let body = head ++ behind_spaces printed_form rights in
    holds_line body (Word (tag_of tag) ∷ Word (codes "LISTRIGHTS") ∷ map Text rights) (RightsList tag rights)
    (holds_spaced printed_form Text string_reads rights head (Word (tag_of tag) ∷ Word (codes "LISTRIGHTS") ∷ []) (tag_holds tag (codes "LISTRIGHTS") (codes " LISTRIGHTS") t (λ lines. refl)) (fits_first body crlf small))
    (under_tag tag (codes "LISTRIGHTS") (map Text rights) t refl ∙ ap (option_map (RightsList tag)) (texts_back rights))

said_are : (tag : Option (List ℕ)) (what : Said) → IsTagged tag → AllByRecursion FitsU64 (numbers_of what) → length (said_form (tag_of tag) what) < 2 ^ 64
    → AreLines (said_form (tag_of tag) what) (said_lines tag what)
unfolding said_form deleted_form rights_form rights_list_form challenge_form good_bye_form updated_form refused_form is_word
said_are tag said.Greeting t few small = one_line greeting greeting_line greeting_is
said_are tag said.Left t few small = refl
said_are tag (said.Drained tolds) t few small = tolds_are tolds few small
said_are tag (said.Updated tolds) t few small = then_done tag verb.UpdateContext (tolds_form tolds) (map told_line tolds) t small (λ h. tolds_are tolds few h)
said_are tag (said.Done what) t few small = one_line (done_form (tag_of tag) what) (done_line tag what) (done_is tag what t small)
said_are tag (said.Searched found) t few small = found_are tag found t few small
said_are tag (said.Deleted names) t few small =
    then_done tag verb.DeletedSince (deleted_names_form (tag_of tag) names) (map (Deleted tag) names) t small (λ h. lines_each (deleted_name_form (tag_of tag)) (Deleted tag) (λ name k. deleted_is tag name t k) names h)
said_are tag (said.Rights rights) t few small =
    then_done tag verb.MyRights (tag_of tag ++ codes " MYRIGHTS " ++ printed_form rights ++ crlf) (Rights tag rights ∷ []) t small
    (λ h. one_line _ (Rights tag rights) (text_line tag (codes "MYRIGHTS") (codes " MYRIGHTS ") rights (Rights tag rights) t (tag_opens tag (codes "MYRIGHTS") (codes " MYRIGHTS ") t (λ lines. refl)) refl refl h))
said_are tag (said.RightsList rights) t few small =
    then_done tag verb.ListRights (tag_of tag ++ codes " LISTRIGHTS" ++ behind_spaces printed_form rights ++ crlf) (RightsList tag rights ∷ []) t small
    (λ h. one_line _ (RightsList tag rights) (rights_list_is tag rights t h))
said_are tag (said.Challenge challenge) t few small =
    one_line _ (GoOn challenge) (plain_line (codes "+ ") challenge (Word (codes "+") ∷ []) (GoOn challenge) (record { opens = λ lines. refl }) refl small)
said_are tag said.GoodBye t few small =
    then_done tag verb.Logout (codes "* BYE " ++ printed_form (codes "Good bye") ++ crlf) (Bye None (codes "Good bye") ∷ []) t small
    (λ h. one_line _ (Bye None (codes "Good bye")) (plain_line (codes "* BYE ") (codes "Good bye") (Word (codes "*") ∷ Word (codes "BYE") ∷ []) (Bye None (codes "Good bye")) (record { opens = λ lines. refl }) refl h))
said_are tag (said.Refused why) t few small = one_line _ (refused_line tag why) (refused_as (status_of why) tag why t small)

pub reply_lines : (reply : Reply) → IsSayable reply → AreLines (octets_of reply) (lines_of reply)
unfolding octets_of
reply_lines reply h = said_are reply.tag reply.said h.tagged h.numbers h.fits

replies_lines : (replies : List Reply) → AllByRecursion IsSayable replies → AreLines (flat_map octets_of replies) (flat_map lines_of replies)
replies_lines [] h = refl
replies_lines (reply ∷ replies) h =
    lines-append (octets_of reply) (flat_map octets_of replies) (lines_of reply) (flat_map lines_of replies) (reply_lines reply h.0) (replies_lines replies h.1)

ready_is : IsLine (codes "+ \"Ready\"" ++ crlf) (GoOn (codes "Ready"))
unfolding is_word is_quotable
ready_is = line_from (codes "+ \"Ready\"" ++ crlf) (GoOn (codes "Ready")) (λ lines. refl)

pub readable : ReadableLaw
readable = record {
  lines = reply_lines;
  replies = replies_lines;
  heard = λ before replies h. lines_heard before (flat_map octets_of replies) (flat_map lines_of replies) (replies_lines replies h);
  ready = ready_is;
}
