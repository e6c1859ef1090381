-- Which texts stand for the tokens of a line: a line as it is
-- written, from its tokens on. [RFC 2244, 2.2, 2.6 and 2.6.3]
use Rattle.std.specs.Prelude.{◌≡◌, ℕ, ◌+◌, ◌-◌, ◌*◌, ◌^◌, ◌≤◌, List, [], ◌∷◌, ◌++◌, length, Bool, true, false}
use Rattle.std.specs.Prelude.{not, Option, Some, None, IsTrue, if◌then◌else◌, codes}
use Rattle.std.specs.List.{AllByRecursion, list_all}
use Rattle.acap_lexer.specs.declared.kind.Kind.{Kind}
use Rattle.acap_lexer.specs.declared.kind.Kind.TheVariants as kinds
use Rattle.acap_lexer.specs.declared.lexed.Mode.{Mode}
use Rattle.acap_lexer.specs.declared.lexed.Mode.TheVariants as modes
use Rattle.acap_lexer.specs.Octets.{is_word, is_tag, is_digit, carriage_return, line_feed}
use Rattle.acap_lexer.specs.Printing.{escaped_form, is_printable, quoted_form}
use Rattle.acap_lexer.specs.Token.{Token}

-- A token after the tag, as it is written. A literal has the digits of
-- its mark, whether the client waits to be told to go on, and its octets.
pub data Written : Type 0 where
  Word : List ℕ → Written
  Quoted : List ℕ → Written
  Literal : List ℕ → Bool → List ℕ → Written
  Open : Written
  Close : Written

abbrev pub kind_of : Written → Kind
kind_of (Word octets) = kinds.Word
kind_of (Quoted octets) = kinds.Quoted
kind_of (Literal digits waits octets) = kinds.Literal
kind_of Open = kinds.Open
kind_of Close = kinds.Close

-- the octets that it stands for
abbrev pub value_of : Written → List ℕ
value_of (Word octets) = octets
value_of (Quoted octets) = octets
value_of (Literal digits waits octets) = octets
value_of Open = []
value_of Close = []

abbrev pub crlf : List ℕ
crlf = carriage_return ∷ line_feed ∷ []

-- a literal's mark: `{5}` where the client waits, `{5+}` where it doesn't
abbrev pub mark : List ℕ → Bool → List ℕ
mark digits waits = codes "{" ++ (digits ++ (if waits then codes "}" else codes "+}"))

-- the octets that it is written with
abbrev pub own : Written → List ℕ
own (Word octets) = octets
own (Quoted octets) = quoted_form octets
own (Literal digits waits octets) = mark digits waits ++ (crlf ++ octets)
own Open = codes "("
own Close = codes ")"

-- the number that decimal digits stand for, each by its place
abbrev pub number : List ℕ → ℕ
number [] = 0
number (digit ∷ digits) = (digit - 48) * 10 ^ length digits + number digits

-- one to ten digits of that number, with leading zeros or without
pub record IsCount (digits : List ℕ) (count : ℕ) : Type 0 where
  pub digits_only : IsTrue (list_all is_digit digits)
  pub some : 1 ≤ length digits
  pub few : length digits ≤ 10
  pub number_is : number digits ≡ count
  pub small : count ≤ 4294967295

-- What each may be: a word of word octets, one at least; between quotes any but NUL, CR and LF, 1,024 at most
-- with the backslashes; in a literal any, as many as its mark says.
abbrev pub IsSpelled : Written → Type 0
IsSpelled (Word octets) = IsTrue (list_all is_word octets) × (1 ≤ length octets)
IsSpelled (Quoted octets) = IsTrue (list_all is_printable octets) × (length (escaped_form octets) ≤ 1024)
IsSpelled (Literal digits waits octets) = IsCount digits (length octets)
IsSpelled Open = Unit {0}
IsSpelled Close = Unit {0}

-- whether two tokens may stand with nothing between them
abbrev pub may_join : Kind → Kind → Bool
may_join kinds.Tag next = false
may_join kinds.Open next = true
may_join last kinds.Close = true
may_join kinds.Quoted kinds.Open = true
may_join kinds.Literal kinds.Open = true
may_join last next = false

-- whether they may stand with one SP between them: not after `(` and not before `)`
abbrev pub may_part : Kind → Kind → Bool
may_part kinds.Open next = false
may_part last kinds.Close = false
may_part last next = true

-- whether a token may stand there, with a SP before it or not; at the beginning there is none
abbrev pub may_follow : Option Kind → Bool → Kind → Bool
may_follow None spaced next = not spaced
may_follow (Some last) true next = may_part last next
may_follow (Some last) false next = may_join last next

-- a token with what stands before it
pub record Piece : Type 0 where
  pub spaced : Bool
  pub written : Written

abbrev pub gap : Bool → List ℕ
gap spaced = if spaced then codes " " else []

abbrev pub Stand : Option Kind → List Piece → Type 0
Stand last [] = Unit {0}
Stand last (p ∷ ps) = IsTrue (may_follow last p.spaced (kind_of p.written)) × IsSpelled p.written
    × Stand (Some (kind_of p.written)) ps

-- what is written: each token after its gap, and CR LF at the end
abbrev pub text_of : List Piece → List ℕ
text_of [] = crlf
text_of (p ∷ ps) = gap p.spaced ++ (own p.written ++ text_of ps)

-- the tokens, with their places, from a place of the command on
abbrev pub token : ℕ → Written → Token
token start w = record { kind = kind_of w; value = value_of w; start = start; end = start + length (own w) }

abbrev pub tokens_from : ℕ → List Piece → List Token
tokens_from at [] = []
tokens_from at (p ∷ ps) = token (at + length (gap p.spaced)) p.written
    ∷ tokens_from (at + length (gap p.spaced) + length (own p.written)) ps

-- how many of the literals wait
abbrev pub wait : Written → ℕ
wait (Literal digits true octets) = 1
wait w = 0

abbrev pub waits_of : List Piece → ℕ
waits_of [] = 0
waits_of (p ∷ ps) = wait p.written + waits_of ps

-- how many octets each part has, which ends at a CR LF outside
-- the literals' octets; the first has some before these
abbrev pub lengths_by : (ℕ → List ℕ) → ℕ → Written → List ℕ
lengths_by go before (Literal digits waits octets) = (before + length (mark digits waits) + 2) ∷ go 0
lengths_by go before w = go (before + length (own w))

abbrev pub part_lengths : ℕ → List Piece → List ℕ
part_lengths before [] = (before + 2) ∷ []
part_lengths before (p ∷ ps) = lengths_by (λ n. part_lengths n ps) (before + length (gap p.spaced)) p.written

-- a command begins with a tag, of 1 to 32 octets, and an answer with none
abbrev pub IsTag : List ℕ → Type 0
IsTag tag = IsTrue (list_all is_tag tag) × (1 ≤ length tag) × (length tag ≤ 32)

abbrev pub Begins : Mode → List ℕ → Type 0
Begins modes.Command tag = IsTag tag
Begins modes.Answer tag = tag ≡ []

abbrev pub kind_before : Mode → Option Kind
kind_before modes.Command = Some kinds.Tag
kind_before modes.Answer = None

abbrev pub tokens_before : Mode → List ℕ → List Token
tokens_before modes.Command tag = record { kind = kinds.Tag; value = tag; start = 0; end = length tag } ∷ []
tokens_before modes.Answer tag = []

-- The text, with its CR LF, is a spelling of these tokens, in which `waits` literals wait.
pub record IsSpelling (mode : Mode) (tokens : List Token) (waits : ℕ) (text : List ℕ) : Type 0 where
  pub tag : List ℕ
  pub pieces : List Piece
  pub begins : Begins mode tag
  pub stand : Stand (kind_before mode) pieces
  pub text_is : text ≡ tag ++ text_of pieces
  pub tokens_are : tokens ≡ tokens_before mode tag ++ tokens_from (length tag) pieces
  pub waits_are : waits ≡ waits_of pieces
  -- a part has 8,192 octets at most, and the command 262,144
  pub parts_fit : AllByRecursion (λ n. n ≤ 8192) (part_lengths (length tag) pieces)
  pub fits : length text ≤ 262144
