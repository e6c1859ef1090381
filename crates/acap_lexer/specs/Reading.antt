-- What begins a text that goes up to the CR LF of its part: a value and what is left after
-- it, or the first fault from the left. [RFC 2244, 2.2 and 2.6]
use Rattle.std.specs.Prelude.{◌≡◌, ℕ, ◌+◌, ◌-◌, ◌*◌, List, [], ◌∷◌, ◌++◌, length, take, drop, fold, Bool}
use Rattle.std.specs.Prelude.{true, false, Option, Some, None, Result, Ok, Err, nat_le, ◌==◌, ◌||◌, ◌&&◌}
use Rattle.std.specs.Prelude.{if◌then◌else◌, slice_index, is_none}
use Rattle.std.specs.Borrow.{Bor}
use Rattle.std.specs.List.{prefix_len}
use Rattle.acap_lexer.specs.declared.found.Announced.{Announced}
use Rattle.acap_lexer.specs.declared.fault.LexFault.{LexFault}
use Rattle.acap_lexer.specs.declared.fault.LexFault.TheVariants.{BadTag, BadToken, BadLiteral}
use Rattle.acap_lexer.specs.declared.fault.LexError.{LexError}
use Rattle.acap_lexer.specs.declared.fault.LexError.TheVariants as errors
use Rattle.acap_lexer.specs.declared.kind.Kind.{Kind}
use Rattle.acap_lexer.specs.declared.kind.Kind.TheVariants as kinds
use Rattle.acap_lexer.specs.Octets.{is_word, is_tag, is_quotable, is_escaped, is_digit, backslash, brace}
use Rattle.acap_lexer.specs.Octets.{closing_brace, closing_parenthesis, parenthesis, plus, quote, space}

infixl 10 ◌>>=◌
abbrev pub ◌>>=◌ : {A B : Type 0} → Result A LexFault → (A → Result B LexFault) → Result B LexFault
(Ok x) >>= f = f x
(Err e) >>= f = Err e

-- What a function returned, seen by view, is what reading gives, unless memory ran out.
abbrev pub Fails : {Y : Type 0} → LexError → Result Y LexFault → Type 0
Fails errors.Memory read = Unit {0}
Fails (errors.Fault f) read = read ≡ Err f

abbrev pub Gives : {X Y : Type 0} → (X → Y) → Result X LexError → Result Y LexFault → Type 0
Gives view (Ok x) read = read ≡ Ok (view x)
Gives view (Err e) read = Fails e read

-- the same of what a function made beside the octets that it returned as left
abbrev pub GivesLeft : {Y : Type 0} → Y → Result (Bor (List ℕ)) LexError → Result (Y × List ℕ) LexFault
    → Type 0
GivesLeft made result read = Gives (λ left. (made, left.now)) result read

-- a value, and what is left
abbrev pub Read : Type 0 → Type 0
Read A = Result (A × List ℕ) LexFault

-- octets put before those that are read
abbrev pub behind : List ℕ → Read (List ℕ) → Read (List ℕ)
behind front read = read >>= λ x. Ok (front ++ x.0, x.1)

unfoldable mutual
  -- what a quoted string stands for, after its first quote
  pub quoted_at : List ℕ → Read (List ℕ)
  quoted_at [] = Err BadToken
  quoted_at (c ∷ rest) =
      if c == quote then Ok ([], rest)
      else (if c == backslash then escaped_at rest
      else (if is_quotable c then behind (c ∷ []) (quoted_at rest) else Err BadToken))

  -- the same after a backslash
  pub escaped_at : List ℕ → Read (List ℕ)
  escaped_at [] = Err BadToken
  escaped_at (d ∷ rest) = if is_escaped d then behind (d ∷ []) (quoted_at rest) else Err BadToken

-- the most octets between the quotes, escapes counted
abbrev pub quoted_limit : ℕ
quoted_limit = 1024

-- a quoted string that is no longer than that
unfoldable pub string_at : List ℕ → Read (List ℕ)
string_at rest = do
  x ← quoted_at rest
  if nat_le (length rest) (length x.1 + (quoted_limit + 1)) then Ok x else Err BadToken

-- the number that decimal digits stand for
abbrev pub number_of : List ℕ → ℕ
number_of digits = fold (λ n d. 10 * n + (d - 48)) 0 digits

-- one to ten digits of a number up to 4294967295
unfoldable pub is_count : List ℕ → Bool
is_count digits = nat_le 1 (length digits) && nat_le (length digits) 10
    && nat_le (number_of digits) 4294967295

-- what closes a mark, and whether the client waits then: `}`, or `+}` where it doesn't
unfoldable pub closing_of : List ℕ → Option Bool
closing_of [] = None
closing_of (c ∷ rest) =
    if c == closing_brace && length rest == 0 then Some true
    else (if c == plus && (slice_index rest 0 == closing_brace && length rest == 1) then Some false else None)

-- the number, if it is a count
unfoldable pub count_of : List ℕ → Option ℕ
count_of digits = if is_count digits then Some (number_of digits) else None

-- from the number and what closes the mark
abbrev pub announcement : Option ℕ → Option Bool → Option Announced
announcement (Some count) (Some waits) = Some (record { count = count; waits = waits })
announcement (Some count) None = None
announcement None closing = None

-- The literal mark that the text is, up to the end of its part: `{`, the count, and what closes it. [2.6.3]
unfoldable pub mark_of : List ℕ → Option Announced
mark_of [] = None
mark_of (c ∷ rest) =
    if c == brace
    then announcement (count_of (take (prefix_len is_digit rest) rest))
    (closing_of (drop (prefix_len is_digit rest) rest)) else None

-- what an octet that may not stand here is
unfoldable pub stray : List ℕ → LexFault
stray text = if slice_index text 0 == brace && is_none (mark_of text) then BadLiteral else BadToken

-- a token without its place
pub record Lexeme : Type 0 where
  pub kind : Kind
  pub value : List ℕ

abbrev pub as_string : Read (List ℕ) → Read Lexeme
as_string read = read >>= λ x. Ok (record { kind = kinds.Quoted; value = x.0 }, x.1)

-- the token at the beginning, but for a literal
unfoldable pub token_at : List ℕ → Read Lexeme
token_at [] = Err BadToken
token_at (c ∷ rest) =
    if c == parenthesis then Ok (record { kind = kinds.Open; value = [] }, rest)
    else (if c == closing_parenthesis then Ok (record { kind = kinds.Close; value = [] }, rest)
    else (if c == quote then as_string (string_at rest)
    else (if is_word c
    then Ok (
      record { kind = kinds.Word; value = take (prefix_len is_word (c ∷ rest)) (c ∷ rest) },
      drop (prefix_len is_word (c ∷ rest)) (c ∷ rest),
    )
    else Err (stray (c ∷ rest)))))

-- the token of a text that begins with no string: its kind,
-- how many octets at the beginning it stands for, and what is left
abbrev pub GivesPlain : List ℕ → Result (Kind × ℕ × Bor (List ℕ)) LexError → Type 0
GivesPlain text result =
    (slice_index text 0 ≡ 34 → ⊥)
    → Gives (λ x. (record { kind = x.0; value = take x.1 text }, x.2.now)) result (token_at text)

-- whether the octet may stand directly after a token of this kind
unfoldable pub may_touch : Kind → ℕ → Bool
may_touch kinds.Tag c = false
may_touch kinds.Word c = c == closing_parenthesis
may_touch kinds.Quoted c = c == closing_parenthesis || c == parenthesis
may_touch kinds.Literal c = c == closing_parenthesis || c == parenthesis
may_touch kinds.Open c = true
may_touch kinds.Close c = c == closing_parenthesis

-- where the next token begins, after one of this kind
unfoldable pub gap_behind : Kind → List ℕ → Result (List ℕ) LexFault
gap_behind kind [] = Err BadToken
gap_behind kind (c ∷ rest) =
    if c == space then (if slice_index rest 0 == closing_parenthesis then Err BadToken else Ok rest)
    else (if may_touch kind c then Ok (c ∷ rest) else Err (stray (c ∷ rest)))

-- Where the next token begins: after the one space that stands between two tokens. None stands at the
-- beginning, after `(` and before `)`; that between a string and `(` may be left out.
abbrev pub gap_at : Option Kind → List ℕ → Result (List ℕ) LexFault
gap_at None text = Ok text
gap_at (Some kinds.Open) text = Ok text
gap_at (Some kind) text = gap_behind kind text

-- whether what is left may stand after a tag
unfoldable pub ends_tag : List ℕ → Bool
ends_tag [] = true
ends_tag (c ∷ rest) = c == space

-- the most octets of a tag
abbrev pub tag_limit : ℕ
tag_limit = 32

-- the tag of a command, which a space or the end follows
unfoldable pub tag_at : List ℕ → Read (List ℕ)
tag_at part =
    let n = prefix_len is_tag part in
    if nat_le 1 n && nat_le n tag_limit && ends_tag (drop n part) then Ok (take n part, drop n part)
    else Err BadTag
