-- The examples of scripts.
use Rattle.std.proofs.Common.{inl, inr, [], ◌∷◌, refl}
use Rattle.std.specs.Prelude.{codes}
use Rattle.std.specs.Fmt.{digits}
use Rattle.std.specs.Str.{is_utf8, chars}
use Rattle.std.specs.Char.{encode_utf8}
use Rattle.acap_lexer.specs.Octets.{is_word, is_tag, is_quotable, is_escaped, is_digit}
use Rattle.acap_lexer.specs.Reading as reading
use Rattle.acap_lexer.specs.Reading.{quoted_at, escaped_at, is_count, count_of, closing_of, mark_of, stray, token_at, may_touch, gap_behind, ends_tag, tag_at}
use Rattle.acap_lexer.specs.Part.{part_within}
use Rattle.acap_lexer.specs.Printing.{printed_form, literal, quoted_form, may_quote, is_printable}
use Rattle.acap_lexer.specs.Stream.{end_of, part_end, step_of_part as part_said, step_of, progress_within, progress_from, progress}
use Rattle.acap_lexer.specs.Held.{next_of}
use Rattle.acap_login.specs.Login.{challenge_of}
use Rattle.acap_entries.specs.Names.{is_context_name}
use Rattle.acap_grammar.specs.Arguments.{context_named, named_at}
use Rattle.acap_grammar.specs.Grammar.{arguments_at, command_of}
use Rattle.acap_grammar.specs.Marks.{ends, string_at, word_at}
use Rattle.acap_grammar.specs.Refusals.{code_of}
use Rattle.acap_grammar.specs.Replies.{challenge_form, done_form, refused_form, good_bye_form, said_form, octets_of}
use Rattle.acap_dialogue.specs.Hearing.{response_to, heard_command, heard_answer, opening}
use Rattle.acap_dialogue.specs.Session.{after_answer, session_next}
use Rattle.acap_session.specs.Turning.{turn_of}
use Rattle.acap_session.specs.World.{did}
use Rattle.acap_session.specs.ScriptExamples.{ScriptExamples}
use Rattle.acap_session.specs.ScriptWriting.{turns_for}
use Rattle.acap_script.specs.Lines.{line_of}

pub script_examples : ScriptExamples
unfolding turns_for line_of did turn_of after_answer response_to heard_command heard_answer opening session_next challenge_form command_of word_at arguments_at ends string_at named_at context_named is_context_name octets_of said_form done_form refused_form good_bye_form code_of printed_form quoted_form may_quote is_printable is_escaped is_utf8 chars encode_utf8 is_word is_tag is_quotable is_digit quoted_at escaped_at reading.string_at is_count count_of closing_of mark_of stray token_at may_touch gap_behind ends_tag tag_at part_within end_of part_end part_said step_of progress_within progress_from progress next_of challenge_of literal digits
script_examples = record {
  two = record { parts = codes "ab" ∷ codes "c" ∷ []; said_is = ((λ e. cc), (codes "c\r\n", (refl, refl), ((λ e. cc), ([], (refl, refl), refl)))); is = refl };
  unended = record { parts = codes "ab" ∷ codes "c" ∷ []; said_is = ((λ e. cc), (codes "c", (refl, refl), ((λ e. cc), ([], (refl, refl), refl)))); is = refl };
  empty_part = record {
    parts = [] ∷ [] ∷ codes "a" ∷ [];
    said_is = ((λ e. cc), (codes "\r\na\r\n", (refl, refl), ((λ e. cc), (codes "a\r\n", (refl, refl), ((λ e. cc), ([], (refl, refl), refl))))));
    is = refl;
  };
  bare = record { parts = codes "a\rb\nc" ∷ []; said_is = ((λ e. cc), ([], (refl, refl), refl)); is = refl };
  nothing = record { parts = []; said_is = refl; is = refl };
  room_for_7 = refl;
  again = refl;
  again_said = refl;
  closed = (refl, inl (inr refl, refl, refl));
  closed_said = refl;
  sessions = refl;
  none_wrong = refl;
  left = refl;
  up_to_there = refl;
  third = refl;
}
