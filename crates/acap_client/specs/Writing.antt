-- A line that is being written: what it stands for with whatever tokens follow [RFC 2244 sections 2.2 and 8].
use Rattle.std.specs.Prelude.{◌≡◌, ℕ, List, [], ◌++◌, codes}
use Rattle.acap_lexer.specs.declared.kind.Kind.{Kind}
use Rattle.acap_lexer.specs.declared.kind.Kind.TheVariants as kind
use Rattle.acap_lexer.specs.Spelling.{text_of}
use Rattle.acap_lexer.specs.Token.{Token}
use Rattle.acap_grammar.specs.Texts.{pieces_behind}
use Rattle.acap_client.specs.declared.writing.Writing.{Writing}

-- the text of tokens that follow a token of this kind
unfoldable pub text_after : Kind → List Token → List ℕ
text_after last tokens = text_of (pieces_behind last tokens)

-- a space, where one may stand after a token of this kind
abbrev pub space_after : Kind → List ℕ
space_after kind.Open = []
space_after _ = codes " "

-- the whole line, if these tokens follow
abbrev pub line_with : Writing → List Token → List ℕ
line_with writing tokens = writing.octets.items ++ text_after writing.last tokens

-- what was written are these tokens, whatever follows
abbrev pub Writes : (List Token → List Token) → Writing → Writing → Type 0
Writes spell old new = (after : List Token) → line_with old (spell after) ≡ line_with new after
