-- What stands first among tokens [RFC 2244 sections 2.2 and 8].
use Rattle.std.specs.Prelude.{ℕ, List, [], ◌∷◌, Bool, true, false, Option, Some, None, option_map, Result, Ok}
use Rattle.std.specs.Prelude.{find, if◌then◌else◌}
use Rattle.std.specs.Str.{bytes_eq, str_eq_ignore_ascii_case}
use Rattle.acap_lexer.specs.declared.kind.Kind.{Kind}
use Rattle.acap_lexer.specs.declared.kind.Kind.TheVariants as kind
use Rattle.acap_lexer.specs.Token.{Token}
use Rattle.acap_grammar.specs.declared.command_fault.CommandFault.TheVariants as fault
use Rattle.acap_grammar.specs.Outcome.{Fault, Read, fault_here}

-- a string is sent quoted or as a literal
abbrev pub is_string : Kind → Bool
is_string kind.Quoted = true
is_string kind.Literal = true
is_string _ = false

abbrev pub is_word : Kind → Bool
is_word kind.Word = true
is_word _ = false

abbrev pub is_open : Kind → Bool
is_open kind.Open = true
is_open _ = false

abbrev pub is_close : Kind → Bool
is_close kind.Close = true
is_close _ = false

-- whether no token is left
unfoldable pub ends : List Token → Bool
ends [] = true
ends (t ∷ rest) = false

-- whether a token of that kind stands first
unfoldable pub starts : (Kind → Bool) → List Token → Bool
starts is [] = false
starts is (t ∷ rest) = is t.kind

-- the tokens after one of that kind
unfoldable pub behind : (Kind → Bool) → List Token → Result (List Token) Fault
behind is [] = fault_here [] fault.Arguments
behind is (t ∷ rest) = if is t.kind then Ok rest else fault_here (t ∷ rest) fault.Arguments

-- the string that stands first
unfoldable pub string_at : List Token → Read (List ℕ)
string_at [] = fault_here [] fault.Arguments
string_at (t ∷ rest) = if is_string t.kind then Ok (t.value, rest) else fault_here (t ∷ rest) fault.Arguments

-- what a table has beside a word, read in any case
abbrev pub word_in : {A : Type 0} → List (List ℕ × A) → List ℕ → Option A
word_in table word = option_map (λ row. row.1) (find (λ row. str_eq_ignore_ascii_case word row.0) table)

-- what a table has beside a text, octet by octet
abbrev pub text_in : {A : Type 0} → List (List ℕ × A) → List ℕ → Option A
text_in table text = option_map (λ row. row.1) (find (λ row. bytes_eq text row.0) table)

-- what a table has beside the word that stands first, and the tokens after it
unfoldable pub word_at : {A : Type 0} → List (List ℕ × A) → List Token → Option (A × List Token)
word_at table [] = None
word_at table (t ∷ rest) = if is_word t.kind then option_map (λ x. (x, rest)) (word_in table t.value)
    else None

-- the tokens after that word, read in any case, if it stands first
unfoldable pub behind_word : List ℕ → List Token → Option (List Token)
behind_word word [] = None
behind_word word (t ∷ rest) =
    if is_word t.kind then (if str_eq_ignore_ascii_case t.value word then Some rest else None) else None
