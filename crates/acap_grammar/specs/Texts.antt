-- A command as text: the tokens of its plainest spelling, as
-- they are written in a line [RFC 2244 sections 2.2, 2.6 and 8].
use Rattle.std.specs.Prelude.{◌≡◌, ℕ, ◌≤◌, List, [], ◌∷◌, ◌++◌, length, drop, decimal, false, None, Ok}
use Rattle.std.specs.Prelude.{if◌then◌else◌, Some}
use Rattle.std.specs.List.{AllByRecursion}
use Rattle.acap_lexer.specs.declared.kind.Kind.{Kind}
use Rattle.acap_lexer.specs.declared.kind.Kind.TheVariants as kind
use Rattle.acap_lexer.specs.declared.lexed.Lexed.TheVariants.{Line}
use Rattle.acap_lexer.specs.declared.lexed.Mode.{Mode}
use Rattle.acap_lexer.specs.declared.lexed.Mode.TheVariants as mode
use Rattle.acap_lexer.specs.Held.{next_of, answers_of}
use Rattle.acap_lexer.specs.Holding.{Held}
use Rattle.acap_lexer.specs.Printing.{may_quote}
use Rattle.acap_lexer.specs.Spelling.{Written, Word, Quoted, Literal, Open, Close, Piece, IsSpelling, IsTag}
use Rattle.acap_lexer.specs.Spelling.{kind_of, may_part, part_lengths, text_of}
use Rattle.acap_lexer.specs.Stream.{progress}
use Rattle.acap_lexer.specs.Token.{Token}
use Rattle.acap_commands.specs.declared.command.Command.{Command}
use Rattle.acap_grammar.specs.Alike.{Alike}
use Rattle.acap_grammar.specs.Grammar.{command_of}
use Rattle.acap_grammar.specs.Sendable.{IsSendable}
use Rattle.acap_grammar.specs.Spelling.{tokens_of}

-- a string stands between quotes where it may, else it is a literal for which the client doesn't wait
abbrev pub written_string : List ℕ → Written
written_string text = if may_quote text then Quoted text else Literal (decimal (length text)) false text

abbrev pub writing_of : Kind → List ℕ → Written
writing_of kind.Open value = Open
writing_of kind.Close value = Close
writing_of kind.Quoted value = written_string value
writing_of kind.Literal value = written_string value
writing_of _ value = Word value

-- after a token of that kind, each after one SP where it may have one
abbrev pub piece : Kind → Written → Piece
piece last w = record { spaced = may_part last (kind_of w); written = w }

abbrev pub pieces_behind : Kind → List Token → List Piece
pieces_behind last [] = []
pieces_behind last (t ∷ ts) =
    piece last (writing_of t.kind t.value) ∷ pieces_behind (kind_of (writing_of t.kind t.value)) ts

abbrev pub pieces_of : List ℕ → Command → List Piece
pieces_of tag c = pieces_behind kind.Tag (drop 1 (tokens_of tag c))

-- the tag, the tokens after it, and CR LF
abbrev pub line_of : List ℕ → Command → List ℕ
line_of tag c = tag ++ text_of (pieces_of tag c)

-- no part of the line has more than 8,192 octets, nor has the whole more than 262,144
pub record IsShort (tag : List ℕ) (c : Command) : Type 0 where
  pub parts : AllByRecursion (λ n. n ≤ 8192) (part_lengths (length tag) (pieces_of tag c))
  pub whole : length (line_of tag c) ≤ 262144

-- octets that came after the last item answered, of which nothing has been sent
abbrev pub holding : List ℕ → Held
holding text = record { text = text; told = 0; fatal = None }

-- Each command that can be sent has that text, whose octets are answered at once, whatever follows, by a line
-- that is read as that command; then what follows is held, and it is answered as it would be alone.
abbrev pub SpelledTexts : Type 0
SpelledTexts = (tag rest : List ℕ) (c : Command) → IsTag tag → IsSendable c → IsShort tag c
    → (tokens : List Token) × (next_of mode.Command (holding (line_of tag c ++ rest))
    ≡ (Line tokens, holding rest))
    × ((modes : List Mode) → answers_of (mode.Command ∷ modes) (line_of tag c ++ rest)
    ≡ Line tokens ∷ answers_of modes rest) × (command_of tokens ≡ Ok c)

-- So is every other text of these tokens, with strings as literals or between quotes, with or without spaces
-- where either may be: it is read as that command once the literals that wait have been told to go on.
abbrev pub ReadsTexts : Type 0
ReadsTexts = (tag text rest : List ℕ) (c : Command) (tokens : List Token) (waits : ℕ) → IsSendable c
    → IsSpelling mode.Command tokens waits text → Alike tokens (tokens_of tag c)
    → (progress mode.Command (text ++ rest)
    ≡ record { waits = waits; item = Some (Line tokens, length text) }) × (command_of tokens ≡ Ok c)
