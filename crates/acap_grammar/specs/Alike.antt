-- When two lines say the same: where a token lies makes no difference, nor whether a string is quoted or a
-- literal [RFC 2244 sections 2.2 and 2.6.3].
use Rattle.std.specs.Prelude.{◌≡◌, List, map}
use Rattle.acap_lexer.specs.declared.kind.Kind.{Kind}
use Rattle.acap_lexer.specs.declared.kind.Kind.TheVariants as kind
use Rattle.acap_lexer.specs.Token.{Token}
use Rattle.acap_grammar.specs.Grammar.{command_of}
use Rattle.acap_grammar.specs.Laws.{fault_at}

-- a literal is a string as one between quotes
abbrev pub plain_kind : Kind → Kind
plain_kind kind.Literal = kind.Quoted
plain_kind kind = kind

-- a token without its place
abbrev pub plain : Token → Token
plain t = record { kind = plain_kind t.kind; value = t.value; start = 0; end = 0 }

-- both have tokens of the same kinds and values, one by one
abbrev pub Alike : List Token → List Token → Type 0
Alike tokens others = map plain tokens ≡ map plain others

-- then they are the same command, or have the same fault at the token with the same index
abbrev pub PlacesLaw : Type 0
PlacesLaw = (tokens others : List Token) → Alike tokens others
    → (command_of tokens ≡ command_of others) × (fault_at tokens ≡ fault_at others)
