-- The examples, by computation.
use Rattle.std.proofs.Common.{◌≡◌, ℕ, List, ◌∷◌, ◌++◌, length, Option, Some, None, refl, ap, arith, length-append}
use Rattle.std.specs.Option.{option_and_then}
use Rattle.std.specs.Prelude.{codes}
use Rattle.std.specs.Str.{is_utf8, chars}
use Rattle.std.specs.Char.{encode_utf8}
use Rattle.acap_lexer.specs.Octets.{is_word, is_tag, is_quotable, is_escaped, is_digit}
use Rattle.acap_lexer.specs.Reading as reading
use Rattle.acap_lexer.specs.Reading.{quoted_at, escaped_at, is_count, count_of, closing_of, mark_of, stray, token_at, may_touch, gap_behind, ends_tag, tag_at}
use Rattle.acap_lexer.specs.Part.{part_within}
use Rattle.acap_lexer.specs.Printing.{printed_form, quoted_form, may_quote, is_printable}
use Rattle.acap_lexer.specs.Stream.{end_of, part_end, step_of_part, step_of, progress_within, progress_from, progress}
use Rattle.acap_lexer.specs.Held.{next_of}
use Rattle.acap_login.specs.Login.{answering_user, name_at}
use Rattle.acap_login.proofs.Accepting.{uncut}
use Rattle.acap_login.proofs.Answers.{accepted_examples, refused_examples}
use Rattle.acap_login.proofs.Examples.{exchange_example}
use Rattle.acap_entries.specs.Names.{is_context_name}
use Rattle.acap_grammar.specs.Arguments.{context_named, named_at}
use Rattle.acap_grammar.specs.Grammar.{arguments_at, command_of}
use Rattle.acap_grammar.specs.Marks.{ends, string_at, word_at}
use Rattle.acap_grammar.specs.Refusals.{code_of}
use Rattle.acap_grammar.specs.Replies.{challenge_form, done_form, refused_form, good_bye_form, said_form, octets_of, crlf}
use Rattle.acap_dialogue.specs.Examples.{AnswerExamples, HearingExamples, LoginExamples, NextExamples, RunExamples, tims, rfc_challenge, talking}
use Rattle.acap_dialogue.specs.Hearing.{challenges, response_to, heard_command, heard_answer, logs_in, opening}
use Rattle.acap_dialogue.specs.Running.{did}
use Rattle.acap_dialogue.specs.Session.{after_answer, comes_to, session_next, session_drain}
use Rattle.acap_dialogue.specs.declared.next.Next.{Next}
use Rattle.acap_dialogue.specs.declared.stage.Stage.{Stage}
use Rattle.acap_dialogue.specs.declared.stage.Stage.TheVariants as stage

pub answer_examples : AnswerExamples
unfolding after_answer octets_of said_form done_form refused_form code_of printed_form quoted_form may_quote is_printable is_escaped is_utf8 chars encode_utf8
answer_examples = record {
  asked = refl;
  enters = refl;
  may_not_enter = refl;
  done = refl;
  no_memory = refl;
  history_full = refl;
  not_entered = refl;
  logged_in = refl;
  login_no_memory = refl;
  login_history_full = refl;
  login_seat = refl;
  drained = refl;
  drain_seat = refl;
}

pub hearing_examples : HearingExamples
unfolding after_answer response_to heard_command opening challenge_form command_of word_at arguments_at ends string_at named_at context_named is_context_name octets_of said_form done_form refused_form good_bye_form code_of printed_form quoted_form may_quote is_printable is_escaped is_utf8 chars encode_utf8
hearing_examples = record {
  begins = refl;
  enters = refl;
  nothing = refl;
  continues = refl;
  bad = refl;
  bad_tag = refl;
  too_long = refl;
  noop = refl;
  logout = refl;
  asks = refl;
  log_in = refl;
  fault_first = refl;
  challenge = ap (λ c. challenges (Some (codes "A1")) c) exchange_example.challenge;
  no_mechanism = refl;
  logged_in = refl;
  seconds = refl;
}

-- what an answer comes to, by whom it logs in
abbrev told : Option ℕ → Next × Stage
told place = logs_in (Some (codes "A1")) (option_and_then (λ p. name_at tims p) place)

star_fits_nobody : answering_user tims rfc_challenge (codes "*") ≡ None
star_fits_nobody = uncut tims rfc_challenge (codes "*") (λ name digits count e. let k : 1 ≡ length (name ++ 32 ∷ digits) = ap (λ (xs : List ℕ). length xs) e in omega (arith, k, count, length-append name (32 ∷ digits)))

pub login_examples : LoginExamples
unfolding heard_answer octets_of said_form done_form refused_form code_of printed_form quoted_form may_quote is_printable is_escaped is_utf8 chars encode_utf8
login_examples = record {
  accepted = ap told accepted_examples.alone;
  refused = ap told refused_examples.upper_case;
  cancelled = refl;
  other_word = refl;
  star = ap told star_fits_nobody;
  two = refl;
  none = refl;
  bad = refl;
  too_long = refl;
  waits = refl;
  continues = refl;
}

pub next_examples : NextExamples
unfolding after_answer response_to heard_command heard_answer opening session_next session_drain challenge_form command_of word_at arguments_at ends string_at named_at context_named is_context_name octets_of said_form done_form refused_form good_bye_form code_of printed_form quoted_form may_quote is_printable is_escaped is_utf8 chars encode_utf8 is_word is_tag is_quotable is_digit quoted_at escaped_at reading.string_at is_count count_of closing_of mark_of stray token_at may_touch gap_behind ends_tag tag_at part_within end_of part_end step_of_part step_of progress_within progress_from progress next_of
next_examples = record {
  entering = λ text. refl;
  asking = λ text. refl;
  logging_in = λ text. refl;
  draining = λ text. refl;
  closed = λ text. refl;
  opens = λ text. refl;
  hears = refl;
  challenge = ap (λ c. comes_to (talking None stage.Ready (codes "*" ++ crlf)) (challenges (Some (codes "A1")) c)) exchange_example.challenge;
  sent_ahead = refl;
  drains = refl;
  nobody_drains = refl;
  no_drain = refl;
}

pub run_examples : RunExamples
unfolding did after_answer response_to heard_command heard_answer opening session_next session_drain challenge_form command_of word_at arguments_at ends string_at named_at context_named is_context_name octets_of said_form done_form refused_form good_bye_form code_of printed_form quoted_form may_quote is_printable is_escaped is_utf8 chars encode_utf8 is_word is_tag is_quotable is_digit quoted_at escaped_at reading.string_at is_count count_of closing_of mark_of stray token_at may_touch gap_behind ends_tag tag_at part_within end_of part_end step_of_part step_of progress_within progress_from progress next_of
run_examples = record {
  enters = refl;
  leaves = refl;
  must_leave = refl;
  nothing_left = refl;
  no_leave = refl;
  refused = refl;
  unanswered = refl;
  not_asked = refl;
  drains = refl;
  nobody_drains = refl;
  no_drain = refl;
  ends = refl;
}
