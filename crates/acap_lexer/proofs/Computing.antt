-- The examples, by computation.
use Rattle.std.proofs.Common.{refl}
use Rattle.std.specs.Str.{is_utf8, chars}
use Rattle.std.specs.Char.{encode_utf8}
use Rattle.std.specs.Fmt.{digits}
use Rattle.acap_lexer.specs.Octets.{is_word, is_tag, is_quotable, is_escaped, is_digit}
use Rattle.acap_lexer.specs.Reading.{quoted_at, escaped_at, string_at, is_count, count_of, closing_of, mark_of, stray, token_at, may_touch, gap_behind, ends_tag, tag_at}
use Rattle.acap_lexer.specs.Part.{part_within}
use Rattle.acap_lexer.specs.Printing.{is_printable, may_quote, quoted_form, literal, printed_form}
use Rattle.acap_lexer.specs.Stream.{end_of, part_end, step_of_part, step_of, progress_within, progress_from, progress}
use Rattle.acap_lexer.specs.Held.{next_of, answers_from}
use Rattle.acap_lexer.specs.Examples.{Examples, OctetExamples, LimitExamples, HeldExamples, PrintedExamples}

pub examples : Examples
unfolding is_word is_tag is_quotable is_escaped is_digit quoted_at escaped_at string_at is_count count_of closing_of mark_of stray token_at may_touch gap_behind ends_tag tag_at part_within end_of part_end step_of_part step_of progress_within progress_from progress
examples = record {
  noop = refl;
  unfinished = refl;
  escapes = refl;
  no_escape = refl;
  bare_line_feed = refl;
  two_spaces = refl;
  space_at_the_end = refl;
  empty_line = refl;
  tag_alone = refl;
  tag_of_32 = refl;
  tag_of_33 = refl;
  waits = refl;
  literal = refl;
  literal_plus = refl;
  no_octets = refl;
  closed_behind = refl;
  lines_in_a_literal = refl;
  malformed = refl;
  eleven_digits = refl;
  behind_a_word = refl;
  too_long = refl;
  answer = refl;
  answer_literal = refl;
  space_before_close = refl;
  space_behind_open = refl;
  string_and_open = refl;
  malformed_behind_a_word = refl;
  first_fault = refl;
  mark_behind_a_fault = refl;
}

pub octet_examples : OctetExamples
unfolding is_word is_tag is_quotable is_escaped is_digit is_printable may_touch
octet_examples = record {
  words = refl;
  tags = refl;
  not_quotable = refl;
  escaped = refl;
  digits = refl;
  not_printable = refl;
  behind_a_tag = refl;
  behind_a_word = refl;
  behind_a_string = refl;
  behind_a_literal = refl;
  behind_a_close = refl;
}

pub limit_examples : LimitExamples
unfolding is_word is_tag is_quotable is_escaped is_digit quoted_at escaped_at string_at is_count count_of closing_of mark_of stray token_at may_touch gap_behind ends_tag tag_at part_within end_of part_end step_of_part step_of progress_within progress_from progress
limit_examples = record {
  string_of_1024 = refl;
  string_of_1025 = refl;
  escapes_counted = refl;
  greatest = refl;
  greater = refl;
  ten_digits = refl;
  no_digits = refl;
  behind_a_mark = refl;
  behind_a_plus = refl;
  part_of_8192 = refl;
  part_of_8193 = refl;
  not_8192_yet = refl;
  no_part = refl;
  announced = refl;
  announced_more = refl;
  command_of_262144 = refl;
  command_of_262145 = refl;
  before_other_faults = refl;
  held = refl;
}

pub held_examples : HeldExamples
unfolding is_word is_tag is_quotable is_escaped is_digit quoted_at escaped_at string_at is_count count_of closing_of mark_of stray token_at may_touch gap_behind ends_tag tag_at part_within end_of part_end step_of_part step_of progress_within progress_from progress next_of answers_from
held_examples = record {
  tells = refl;
  told = refl;
  line = refl;
  fatal = refl;
  fatal_for_ever = refl;
  in_turn = refl;
  behind_a_fatal = refl;
}

pub printed_examples : PrintedExamples
unfolding is_escaped is_printable may_quote is_utf8 chars encode_utf8 digits quoted_form literal printed_form
printed_examples = record {
  empty = refl;
  quotes = refl;
  nul = refl;
  line_feed = refl;
  return = refl;
  no_text = refl;
  quoted_1024 = refl;
  literal_1025 = refl;
  escapes_counted = refl;
}
