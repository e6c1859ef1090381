-- The examples of completions, by computation, and how a completion is printed.
use Rattle.std.proofs.Common.{◌≡◌, ℕ, List, [], ◌++◌, true, Option, Some, None, refl, sym, ap, ◌∙◌, append_assoc}
use Rattle.std.specs.Prelude.{codes}
use Rattle.std.specs.Fmt.{digits}
use Rattle.std.specs.Str.{is_utf8, chars}
use Rattle.std.specs.Char.{encode_utf8}
use Rattle.acap_lexer.specs.Octets.{is_word, is_tag, is_quotable, is_escaped, is_digit}
use Rattle.acap_lexer.specs.Reading as reading
use Rattle.acap_lexer.specs.Reading.{quoted_at, escaped_at, is_count, count_of, closing_of, mark_of, stray, token_at, may_touch, gap_behind, ends_tag, tag_at}
use Rattle.acap_lexer.specs.Part.{part_within}
use Rattle.acap_lexer.specs.Printing.{printed_form, literal, quoted_form, may_quote, is_printable}
use Rattle.acap_lexer.specs.Stream.{end_of, part_end, step_of_part as part_said, step_of, progress_within, progress_from, progress}
use Rattle.acap_lexer.specs.Held.{next_of}
use Rattle.acap_login.specs.Login.{challenge_of}
use Rattle.acap_entries.specs.Names.{is_context_name}
use Rattle.acap_grammar.specs.Arguments.{context_named, named_at}
use Rattle.acap_grammar.specs.Grammar.{arguments_at, command_of}
use Rattle.acap_grammar.specs.Marks.{ends, string_at, word_at}
use Rattle.acap_commands.specs.Statuses.{status_of}
use Rattle.acap_grammar.specs.Refusals.{code_of, text_of}
use Rattle.acap_grammar.specs.Replies.{challenge_form, crlf, deleted_form, deleted_names_form, done_form, done_of, found_form, last_form, refused_form, rights_form, rights_list_form, rows_form, good_bye_form, said_form, searched_form, behind_spaces, status_form, tolds_form, updated_form, octets_of, tag_of as spelled_tag, total_form}
use Rattle.acap_commands.specs.declared.refusal.Refusal.{Refusal}
use Rattle.acap_commands.specs.declared.reply.Reply.{Reply}
use Rattle.acap_commands.specs.declared.said.Said.{Said}
use Rattle.acap_commands.specs.declared.said.Said.TheVariants as said
use Rattle.acap_commands.specs.declared.said.SearchReply.{SearchReply}
use Rattle.acap_commands.specs.declared.refusal.Status.{Status}
use Rattle.acap_commands.specs.declared.refusal.Status.TheVariants as status
use Rattle.acap_commands.specs.declared.command.Verb.{Verb}
use Rattle.acap_commands.specs.declared.command.Verb.TheVariants as verb
use Rattle.acap_machine.specs.Completing.{completes, is_answer}
use Rattle.acap_session.specs.Completing.{CompletionExamples, CompletionForm, EndsIn, status_word, word_of}
use Rattle.acap_dialogue.specs.Hearing.{response_to, heard_command, heard_answer, opening}
use Rattle.acap_dialogue.specs.Session.{after_answer, session_next}
use Rattle.acap_session.specs.Turning.{turn_of}
use Rattle.acap_session.specs.World.{did}

pub completion_examples : CompletionExamples
unfolding did turn_of after_answer response_to heard_command heard_answer opening session_next challenge_form command_of word_at arguments_at ends string_at named_at context_named is_context_name octets_of said_form done_form refused_form good_bye_form code_of printed_form quoted_form may_quote is_printable is_escaped is_utf8 chars encode_utf8 is_word is_tag is_quotable is_digit quoted_at escaped_at reading.string_at is_count count_of closing_of mark_of stray token_at may_touch gap_behind ends_tag tag_at part_within end_of part_end part_said step_of progress_within progress_from progress next_of challenge_of literal digits
completion_examples = record {
  two = refl;
  two_said = refl;
  unfinished = refl;
  wrong = refl;
  wrong_said = refl;
  login = refl;
  login_said = refl;
  too_long = refl;
  too_long_said = refl;
  completions = refl;
}

-- ---- how a completion is printed

-- a line under a tag
line_is : (tag word text end : List ℕ) → ((tag ++ (codes " " ++ (word ++ codes " "))) ++ text) ++ end ≡ tag ++ (codes " " ++ (word ++ (codes " " ++ (text ++ end))))
line_is tag word text end = append_assoc (tag ++ (codes " " ++ (word ++ codes " "))) text end ∙ append_assoc tag (codes " " ++ (word ++ codes " ")) (text ++ end) ∙ ap (λ xs. tag ++ (codes " " ++ xs)) (append_assoc word (codes " ") (text ++ end))

done_ends : (lines : List ℕ) (tag : List ℕ) (verb : Verb) → lines ++ done_form tag verb ≡ lines ++ (tag ++ (codes " " ++ (codes "OK" ++ (codes " " ++ (printed_form (done_of verb) ++ crlf)))))
unfolding done_form
done_ends lines tag verb = ap (λ xs. lines ++ xs) (line_is tag (codes "OK") (printed_form (done_of verb)) crlf)

-- at the end of other lines
behind : (r : Reply) (lines : List ℕ) (verb : Verb) → word_of r.said ≡ codes "OK" → octets_of r ≡ lines ++ done_form (spelled_tag r.tag) verb → EndsIn r
behind r lines verb w e =
    record { lines = lines; text = printed_form (done_of verb); is = e ∙ done_ends lines (spelled_tag r.tag) verb ∙ ap (λ word. lines ++ (spelled_tag r.tag ++ (codes " " ++ (word ++ (codes " " ++ (printed_form (done_of verb) ++ crlf)))))) (sym w) }

found_ends : (tag : Option (List ℕ)) (found : SearchReply) (total : Option ℕ) → found.total ≡ total → EndsIn (record { tag = tag; said = said.Searched found })
unfolding octets_of said_form found_form searched_form
found_ends tag found None e =
    let lines = rows_form (spelled_tag tag) found.rows ++ last_form (spelled_tag tag) found.last in
    behind (record { tag = tag; said = said.Searched found }) lines verb.Search refl (ap (λ x. lines ++ searched_form (spelled_tag tag) x) e)
found_ends tag found (Some total) e =
    let lines = rows_form (spelled_tag tag) found.rows ++ last_form (spelled_tag tag) found.last in
    let t = spelled_tag tag in
    record {
      lines = lines;
      text = total_form total ++ printed_form (done_of verb.Search);
      is = ap (λ x. lines ++ searched_form t x) e
          ∙ ap (λ xs. lines ++ (xs ++ crlf)) (append_assoc (t ++ codes " OK ") (total_form total) (printed_form (done_of verb.Search)))
          ∙ ap (λ xs. lines ++ xs) (line_is t (codes "OK") (total_form total ++ printed_form (done_of verb.Search)) crlf);
    }

refused_ends : (tag : Option (List ℕ)) (refusal : Refusal) (status : Status) → status_of refusal ≡ status → is_answer status ≡ true → EndsIn (record { tag = tag; said = said.Refused refusal })
unfolding octets_of said_form refused_form
refused_ends tag refusal status.No e g =
    let t = spelled_tag tag in
    let text = code_of refusal ++ printed_form (text_of refusal) in
    record {
      lines = [];
      text = text;
      is = ap (λ s. ((status_form s t ++ code_of refusal) ++ printed_form (text_of refusal)) ++ crlf) e
          ∙ ap (λ xs. xs ++ crlf) (append_assoc (t ++ codes " NO ") (code_of refusal) (printed_form (text_of refusal)))
          ∙ line_is t (codes "NO") text crlf
          ∙ ap (λ s. t ++ (codes " " ++ (status_word s ++ (codes " " ++ (text ++ crlf))))) (sym e);
    }
refused_ends tag refusal status.Bad e g =
    let t = spelled_tag tag in
    let text = code_of refusal ++ printed_form (text_of refusal) in
    record {
      lines = [];
      text = text;
      is = ap (λ s. ((status_form s t ++ code_of refusal) ++ printed_form (text_of refusal)) ++ crlf) e
          ∙ ap (λ xs. xs ++ crlf) (append_assoc (t ++ codes " BAD ") (code_of refusal) (printed_form (text_of refusal)))
          ∙ line_is t (codes "BAD") text crlf
          ∙ ap (λ s. t ++ (codes " " ++ (status_word s ++ (codes " " ++ (text ++ crlf))))) (sym e);
    }
refused_ends tag refusal status.Bye e g = cc

form_by : (tag : Option (List ℕ)) (words : Said) → completes words ≡ true → EndsIn (record { tag = tag; said = words })
unfolding octets_of said_form updated_form found_form deleted_form rights_form rights_list_form good_bye_form
form_by tag (said.Updated tolds) e = behind (record { tag = tag; said = said.Updated tolds }) (tolds_form tolds) verb.UpdateContext refl refl
form_by tag (said.Done verb) e = behind (record { tag = tag; said = said.Done verb }) [] verb refl refl
form_by tag (said.Searched found) e = found_ends tag found found.total refl
form_by tag (said.Deleted names) e = behind (record { tag = tag; said = said.Deleted names }) (deleted_names_form (spelled_tag tag) names) verb.DeletedSince refl refl
form_by tag (said.Rights rights) e =
    behind (record { tag = tag; said = said.Rights rights }) (((spelled_tag tag ++ codes " MYRIGHTS ") ++ printed_form rights) ++ crlf) verb.MyRights refl refl
form_by tag (said.RightsList rights) e =
    behind (record { tag = tag; said = said.RightsList rights }) (((spelled_tag tag ++ codes " LISTRIGHTS") ++ behind_spaces printed_form rights) ++ crlf) verb.ListRights refl refl
form_by tag said.GoodBye e = behind (record { tag = tag; said = said.GoodBye }) ((codes "* BYE " ++ printed_form (codes "Good bye")) ++ crlf) verb.Logout refl refl
form_by tag (said.Refused refusal) e = refused_ends tag refusal (status_of refusal) refl e
form_by tag words e = cc

pub completion_form : CompletionForm
completion_form reply e = form_by reply.tag reply.said e
