-- The tokens of a part of a command, which goes up to the first CR LF after its beginning. A part may end in
-- a literal mark, whose octets follow the CR LF, and then the next part. [RFC 2244, 2.2 and 2.6.3]
use Rattle.std.specs.Prelude.{ℕ, zero, suc, ◌-◌, List, [], ◌∷◌, ◌++◌, length, Option, Some, None, option_map}
use Rattle.std.specs.Prelude.{Result, Ok, Err, slice_get}
use Rattle.acap_lexer.specs.declared.found.Announced.{Announced}
use Rattle.acap_lexer.specs.declared.fault.LexFault.{LexFault}
use Rattle.acap_lexer.specs.declared.fault.LexFault.TheVariants.{BadToken}
use Rattle.acap_lexer.specs.declared.kind.Kind.{Kind}
use Rattle.acap_lexer.specs.declared.kind.Kind.TheVariants as kinds
use Rattle.acap_lexer.specs.declared.lexed.Mode.{Mode}
use Rattle.acap_lexer.specs.declared.lexed.Mode.TheVariants as modes
use Rattle.acap_lexer.specs.Token.{Token}
use Rattle.acap_lexer.specs.Reading.{◌>>=◌, Read, Lexeme, gap_at, mark_of, token_at, tag_at}

-- what a part says: the command's tokens up to its end, and the mark that it ends in, if any, with the place
-- in the command where the mark begins
pub record Part : Type 0 where
  pub tokens : List Token
  pub mark : Option (ℕ × Announced)

abbrev pub last_kind : List Token → Option Kind
last_kind tokens = option_map (λ t. t.kind) (slice_get tokens (length tokens - 1))

-- what was read at the beginning of a text that goes up to the place `end` of the command
abbrev pub token_of_lexeme : ℕ → List ℕ → Lexeme × List ℕ → Token
token_of_lexeme end front x =
    record { kind = x.0.kind; value = x.0.value; start = end - length front; end = end - length x.1 }

-- the tokens with the one that was read at the beginning, and what is left
abbrev pub with_token : List Token → ℕ → List ℕ → Read Lexeme → Read (List Token)
with_token seen end front read = read >>= λ x. Ok (seen ++ token_of_lexeme end front x ∷ [], x.1)

-- from where the next token begins: the part's mark, or that token and what goes on after it
abbrev pub part_by : (List Token → List ℕ → Result Part LexFault) → ℕ → List Token → List ℕ → Option Announced
    → Result Part LexFault
part_by go end seen front (Some mark) = Ok (record { tokens = seen; mark = Some (end - length front, mark) })
part_by go end seen front None = with_token seen end front (token_at front) >>= λ x. go x.0 x.1

-- the next token of a text that isn't empty, or its mark
abbrev pub next_at : (List Token → List ℕ → Result Part LexFault) → ℕ → List Token → List ℕ
    → Result Part LexFault
next_at go end seen text = gap_at (last_kind seen) text >>= λ front. part_by go end seen front (mark_of front)

-- The tokens of a text that goes up to the place `end` of the command, after those seen before. The first
-- number bounds how many: each has an octet at least.
unfoldable pub part_within : ℕ → ℕ → List Token → List ℕ → Result Part LexFault
part_within most end seen [] = Ok (record { tokens = seen; mark = None })
part_within zero end seen (c ∷ rest) = Err BadToken
part_within (suc most) end seen (c ∷ rest) = next_at (part_within most end) end seen (c ∷ rest)

abbrev pub tag_token : List ℕ → Token
tag_token tag = record { kind = kinds.Tag; value = tag; start = 0; end = length tag }

-- The tokens before those that the part has still to be read for, and that text: a command begins with its
-- tag, an answer without one.
abbrev pub begun_at : Mode → List Token → List ℕ → Read (List Token)
begun_at modes.Command [] part = tag_at part >>= λ x. Ok (tag_token x.0 ∷ [], x.1)
begun_at modes.Command (t ∷ ts) part = Ok (t ∷ ts, part)
begun_at modes.Answer tokens part = Ok (tokens, part)

-- the tag of a command that has one
abbrev pub tag_of : Mode → List Token → Option (List ℕ)
tag_of modes.Command [] = None
tag_of modes.Command (t ∷ ts) = Some t.value
tag_of modes.Answer tokens = None
