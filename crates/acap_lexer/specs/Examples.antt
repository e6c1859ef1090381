-- Examples of what begins a text, of limits, and of what is printed. [RFC 2244, 2.2 and 2.6]
use Rattle.std.specs.Prelude.{◌≡◌, ℕ, ◌+◌, List, [], ◌∷◌, ◌++◌, Some, None, Ok, Err, Bool, not, codes, filter}
use Rattle.std.specs.Prelude.{replicate}
use Rattle.std.specs.List.{range_with_len}
use Rattle.acap_lexer.specs.declared.found.PartEnd.TheVariants.{At, Never, NotYet}
use Rattle.acap_lexer.specs.declared.fault.LexFault.TheVariants.{BadTag, BadToken, BadLiteral, CommandTooLong}
use Rattle.acap_lexer.specs.declared.fault.LexFault.TheVariants.{LineTooLong}
use Rattle.acap_lexer.specs.declared.kind.Kind.{Kind}
use Rattle.acap_lexer.specs.declared.kind.Kind.TheVariants as kinds
use Rattle.acap_lexer.specs.declared.lexed.Lexed.{Lexed}
use Rattle.acap_lexer.specs.declared.lexed.Lexed.TheVariants.{More, Plus, Line, Bad, Fatal}
use Rattle.acap_lexer.specs.declared.lexed.Mode.TheVariants as modes
use Rattle.acap_lexer.specs.Held.{next_of, answers_of}
use Rattle.acap_lexer.specs.Holding.{Held, held_limit}
use Rattle.acap_lexer.specs.Octets.{is_word, is_tag, is_quotable, is_escaped, is_digit}
use Rattle.acap_lexer.specs.Printing.{is_printable, printed_form}
use Rattle.acap_lexer.specs.Reading.{count_of, mark_of, may_touch, string_at}
use Rattle.acap_lexer.specs.Stream.{Front, Ends, Progress, progress, part_limit, command_limit, part_end}
use Rattle.acap_lexer.specs.Stream.{step_of_part}
use Rattle.acap_lexer.specs.Token.{Token}

abbrev pub crlf : List ℕ
crlf = 13 ∷ 10 ∷ []

abbrev pub token : Kind → List ℕ → ℕ → ℕ → Token
token kind value start end = record { kind = kind; value = value; start = start; end = end }

abbrev pub item : ℕ → Lexed → ℕ → Progress
item waits lexed octets = record { waits = waits; item = Some (lexed, octets) }

abbrev pub command : List ℕ → Progress
command text = progress modes.Command text

abbrev pub a1 : Token
a1 = token kinds.Tag (codes "A1") 0 2

pub record Examples : Type 0 where
  -- a whole line, and one whose CR LF has not come
  pub noop : command (codes "A1 NOOP" ++ crlf)
      ≡ item 0 (Line (a1 ∷ token kinds.Word (codes "NOOP") 3 7 ∷ [])) 9
  pub unfinished : command (codes "A1 NOOP") ≡ record { waits = 0; item = None }
  -- "a\"b\\"
  pub escapes : command (codes "A1 " ++ 34 ∷ 97 ∷ 92 ∷ 34 ∷ 98 ∷ 92 ∷ 92 ∷ 34 ∷ crlf)
      ≡ item 0 (Line (a1 ∷ token kinds.Quoted (97 ∷ 34 ∷ 98 ∷ 92 ∷ []) 3 11 ∷ [])) 13
  -- no other octet may stand after a backslash
  pub no_escape : command (codes "A1 " ++ 34 ∷ 92 ∷ 97 ∷ 34 ∷ crlf)
      ≡ item 0 (Bad BadToken (Some (codes "A1"))) 9
  pub bare_line_feed : command (codes "A1 NOOP" ++ 10 ∷ codes "A2 NOOP" ++ crlf)
      ≡ item 0 (Bad BadToken (Some (codes "A1"))) 17
  pub two_spaces : command (codes "A1  NOOP" ++ crlf) ≡ item 0 (Bad BadToken (Some (codes "A1"))) 10
  pub space_at_the_end : command (codes "A1 " ++ crlf) ≡ item 0 (Bad BadToken (Some (codes "A1"))) 5
  pub empty_line : command crlf ≡ item 0 (Bad BadTag None) 2
  pub tag_alone : command (codes "A1" ++ crlf) ≡ item 0 (Line (a1 ∷ [])) 4
  pub tag_of_32 : command (codes "abcdefghijklmnopqrstuvwxyz012345" ++ crlf)
      ≡ item 0 (Line (token kinds.Tag (codes "abcdefghijklmnopqrstuvwxyz012345") 0 32 ∷ [])) 34
  pub tag_of_33 : command (codes "abcdefghijklmnopqrstuvwxyz0123456" ++ crlf) ≡ item 0 (Bad BadTag None) 35
  -- a literal that waits, before and after its octets, and one that doesn't
  pub waits : command (codes "A1 X {5}" ++ crlf ++ codes "hel") ≡ record { waits = 1; item = None }
  pub literal : command (codes "A1 X {5}" ++ crlf ++ codes "hello" ++ crlf)
      ≡ item 1 (Line (a1 ∷ token kinds.Word (codes "X") 3 4 ∷ token kinds.Literal (codes "hello") 5 15 ∷ []))
      17
  pub literal_plus : command (codes "A1 X {5+}" ++ crlf ++ codes "hello" ++ crlf)
      ≡ item 0 (Line (a1 ∷ token kinds.Word (codes "X") 3 4 ∷ token kinds.Literal (codes "hello") 5 16 ∷ []))
      18
  pub no_octets : command (codes "A1 {0}" ++ crlf ++ crlf)
      ≡ item 1 (Line (a1 ∷ token kinds.Literal [] 3 8 ∷ [])) 10
  pub closed_behind : command (codes "A1 ({1}" ++ crlf ++ codes "a)" ++ crlf)
      ≡ item 1
      (Line (a1 ∷ token kinds.Open [] 3 4 ∷ token kinds.Literal (codes "a") 4 10 ∷ token kinds.Close [] 10 11
      ∷ [])) 13
  -- a CR LF in a literal ends nothing
  pub lines_in_a_literal : command (codes "A1 {9+}" ++ crlf ++ codes "A2 NOOP" ++ crlf ++ crlf)
      ≡ item 0 (Line (a1 ∷ token kinds.Literal (codes "A2 NOOP" ++ crlf) 3 18 ∷ [])) 20
  pub malformed : command (codes "A1 X {5x}" ++ crlf) ≡ item 0 (Bad BadLiteral (Some (codes "A1"))) 11
  pub eleven_digits : command (codes "A1 X {00000000005}" ++ crlf)
      ≡ item 0 (Bad BadLiteral (Some (codes "A1"))) 20
  pub behind_a_word : command (codes "A1 X{5}" ++ crlf) ≡ item 0 (Bad BadToken (Some (codes "A1"))) 9
  pub too_long : command (codes "A1 X {262145}" ++ crlf) ≡ item 0 (Fatal CommandTooLong) 15
  -- an answer has no tag
  pub answer : progress modes.Answer (codes "*" ++ crlf)
      ≡ item 0 (Line (token kinds.Word (codes "*") 0 1 ∷ [])) 3
  pub answer_literal : progress modes.Answer (codes "{3}" ++ crlf ++ codes "a b" ++ crlf)
      ≡ item 1 (Line (token kinds.Literal (codes "a b") 0 8 ∷ [])) 10
  -- no space stands before `)` or after `(`, and none need stand between a string and `(`
  pub space_before_close : command (codes "A1 (X )" ++ crlf) ≡ item 0 (Bad BadToken (Some (codes "A1"))) 9
  pub space_behind_open : command (codes "A1 ( X)" ++ crlf) ≡ item 0 (Bad BadToken (Some (codes "A1"))) 9
  pub string_and_open : command (codes "A1 \"a\"(X)" ++ crlf)
      ≡ item 0
      (Line (a1 ∷ token kinds.Quoted (codes "a") 3 6 ∷ token kinds.Open [] 6 7
      ∷ token kinds.Word (codes "X") 7 8 ∷ token kinds.Close [] 8 9 ∷ [])) 11
  -- the first fault from the left counts, and a mark after a fault is not followed
  pub malformed_behind_a_word : command (codes "A1 X{5x}" ++ crlf)
      ≡ item 0 (Bad BadLiteral (Some (codes "A1"))) 10
  pub first_fault : command (codes "A1  X {5x}" ++ crlf) ≡ item 0 (Bad BadToken (Some (codes "A1"))) 12
  pub mark_behind_a_fault : command (codes "A1  {5}" ++ crlf ++ codes "hello" ++ crlf)
      ≡ item 0 (Bad BadToken (Some (codes "A1"))) 9

-- the octets that are such
abbrev pub those : (ℕ → Bool) → List ℕ
those test = filter test (range_with_len 0 256)

pub record OctetExamples : Type 0 where
  pub words : those is_word
      ≡ codes "!#$%&'*+,-./0123456789:;<=>?@ABCDEFGHIJKLMNOPQRSTUVWXYZ[]^_`abcdefghijklmnopqrstuvwxyz|}~"
  pub tags : those is_tag
      ≡ codes "!#$%&',-./0123456789:;<=>?@ABCDEFGHIJKLMNOPQRSTUVWXYZ[]^_`abcdefghijklmnopqrstuvwxyz|}~"
  pub not_quotable : those (λ c. not (is_quotable c)) ≡ 0 ∷ 10 ∷ 13 ∷ 34 ∷ 92 ∷ []
  pub escaped : those is_escaped ≡ 34 ∷ 92 ∷ []
  pub digits : those is_digit ≡ codes "0123456789"
  pub not_printable : those (λ c. not (is_printable c)) ≡ 0 ∷ 10 ∷ 13 ∷ []
  pub behind_a_tag : those (may_touch kinds.Tag) ≡ []
  pub behind_a_word : those (may_touch kinds.Word) ≡ codes ")"
  pub behind_a_string : those (may_touch kinds.Quoted) ≡ codes "()"
  pub behind_a_literal : those (may_touch kinds.Literal) ≡ codes "()"
  pub behind_a_close : those (may_touch kinds.Close) ≡ codes ")"

-- `count` letters `x`
abbrev pub letters : ℕ → List ℕ
letters count = replicate count 120

-- a command that has `octets` octets before its part
abbrev pub front : ℕ → Front
front octets = record { tokens = a1 ∷ []; octets = octets }

pub record LimitExamples : Type 0 where
  -- 1,024 octets between quotes, escapes counted
  pub string_of_1024 : string_at (letters 1024 ++ 34 ∷ []) ≡ Ok (letters 1024, [])
  pub string_of_1025 : string_at (letters 1025 ++ 34 ∷ []) ≡ Err BadToken
  pub escapes_counted : string_at (letters 1023 ++ 92 ∷ 34 ∷ 34 ∷ []) ≡ Err BadToken
  -- one to ten digits of a number up to 4294967295, and nothing after a mark
  pub greatest : count_of (codes "4294967295") ≡ Some 4294967295
  pub greater : count_of (codes "4294967296") ≡ None
  pub ten_digits : count_of (codes "0000000005") ≡ Some 5
  pub no_digits : count_of [] ≡ None
  pub behind_a_mark : mark_of (codes "{5}x") ≡ None
  pub behind_a_plus : mark_of (codes "{5+}x") ≡ None
  -- the first 8,192 octets of a part have its CR LF
  pub part_of_8192 : part_end (letters 8190 ++ crlf) ≡ At 8190
  pub part_of_8193 : part_end (letters 8191 ++ crlf) ≡ Never
  pub not_8192_yet : part_end (letters 8191) ≡ NotYet
  pub no_part : command (letters 8192) ≡ item 0 (Fatal LineTooLong) 8192
  -- a command has 262,144 octets, its literals and each CR LF
  -- counted, which is seen before another fault of its part
  pub announced : command (codes "A1 X {262127}" ++ crlf) ≡ record { waits = 1; item = None }
  pub announced_more : command (codes "A1 X {262128}" ++ crlf) ≡ item 0 (Fatal CommandTooLong) 15
  pub command_of_262144 : step_of_part modes.Command (front 262142) [] ≡ Ends (Line (a1 ∷ [])) 262144
  pub command_of_262145 : step_of_part modes.Command (front 262143) [] ≡ Ends (Fatal CommandTooLong) 262145
  pub before_other_faults : step_of_part modes.Command (front 262142) (codes "  ")
      ≡ Ends (Fatal CommandTooLong) 262146
  -- a command and a part may be held
  pub held : held_limit ≡ command_limit + part_limit

-- these octets, this many continuations sent, and no fatal fault
abbrev pub holding : List ℕ → ℕ → Held
holding text told = record { text = text; told = told; fatal = None }

-- a literal whose octets have not come, and a command after it
abbrev pub waiting_text : List ℕ
waiting_text = codes "A1 {5}" ++ crlf

pub record HeldExamples : Type 0 where
  -- a continuation is sent once
  pub tells : next_of modes.Command (holding waiting_text 0) ≡ (Plus, holding waiting_text 1)
  pub told : next_of modes.Command (holding waiting_text 1) ≡ (More, holding waiting_text 1)
  pub line : next_of modes.Command (holding (codes "A1" ++ crlf ++ codes "A2") 0)
      ≡ (Line (a1 ∷ []), holding (codes "A2") 0)
  -- a fatal fault is answered ever after
  pub fatal : next_of modes.Command (holding (codes "A1 {262145}" ++ crlf ++ codes "A2") 0)
      ≡ (Fatal CommandTooLong, record { text = codes "A2"; told = 0; fatal = Some CommandTooLong })
  pub fatal_for_ever : next_of modes.Command
      (record { text = codes "A1" ++ crlf; told = 0; fatal = Some LineTooLong })
      ≡ (Fatal LineTooLong, record { text = codes "A1" ++ crlf; told = 0; fatal = Some LineTooLong })
  -- what all octets answer: each command's continuations and
  -- then its item, in turn, and nothing after a fatal fault
  pub in_turn : answers_of (modes.Command ∷ modes.Command ∷ modes.Answer ∷ modes.Command ∷ [])
      (codes "A1 {1}" ++ crlf ++ codes "a" ++ crlf ++ crlf ++ codes "*" ++ crlf ++ waiting_text)
      ≡ Plus ∷ Line (a1 ∷ token kinds.Literal (codes "a") 3 9 ∷ []) ∷ Bad BadTag None
      ∷ Line (token kinds.Word (codes "*") 0 1 ∷ []) ∷ Plus ∷ []
  pub behind_a_fatal : answers_of (modes.Command ∷ modes.Command ∷ [])
      (codes "A1 {262145}" ++ crlf ++ codes "A1" ++ crlf) ≡ Fatal CommandTooLong ∷ []

pub record PrintedExamples : Type 0 where
  pub empty : printed_form [] ≡ codes "\"\""
  -- a backslash is put before a quote and a backslash
  pub quotes : printed_form (97 ∷ 34 ∷ 98 ∷ 92 ∷ []) ≡ 34 ∷ 97 ∷ 92 ∷ 34 ∷ 98 ∷ 92 ∷ 92 ∷ 34 ∷ []
  -- a literal is its length, CR LF, and the octets as they are
  pub nul : printed_form (0 ∷ []) ≡ codes "{1}" ++ crlf ++ 0 ∷ []
  pub line_feed : printed_form (34 ∷ 10 ∷ []) ≡ codes "{2}" ++ crlf ++ 34 ∷ 10 ∷ []
  pub return : printed_form (97 ∷ 13 ∷ 98 ∷ []) ≡ codes "{3}" ++ crlf ++ 97 ∷ 13 ∷ 98 ∷ []
  pub no_text : printed_form (255 ∷ []) ≡ codes "{1}" ++ crlf ++ 255 ∷ []
  -- 1,024 octets between quotes, escapes counted
  pub quoted_1024 : printed_form (letters 1024) ≡ 34 ∷ letters 1024 ++ 34 ∷ []
  pub literal_1025 : printed_form (letters 1025) ≡ codes "{1025}" ++ crlf ++ letters 1025
  pub escapes_counted : printed_form (34 ∷ letters 1023) ≡ codes "{1024}" ++ crlf ++ 34 ∷ letters 1023
