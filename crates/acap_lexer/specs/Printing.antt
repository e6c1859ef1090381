-- The printed form of a string.
use Rattle.std.specs.Prelude.{◌≡◌, ℕ, List, [], ◌∷◌, ◌++◌, length, take, Bool, not, nat_le, ◌==◌, ◌||◌, ◌&&◌}
use Rattle.std.specs.Prelude.{if◌then◌else◌, flat_map, decimal}
use Rattle.std.specs.List.{list_all}
use Rattle.std.specs.Str.{is_utf8}
use Rattle.acap_lexer.specs.Octets.{is_escaped, backslash, brace, carriage_return, closing_brace, line_feed}
use Rattle.acap_lexer.specs.Octets.{quote}

abbrev pub escape : ℕ → List ℕ
escape c = if is_escaped c then backslash ∷ c ∷ [] else c ∷ []

abbrev pub escaped_form : List ℕ → List ℕ
escaped_form text = flat_map escape text

-- no NUL, CR or LF
unfoldable pub is_printable : ℕ → Bool
is_printable c = not (c == 0 || c == line_feed || c == carriage_return)

unfoldable pub may_quote : List ℕ → Bool
may_quote text = nat_le (length (escaped_form text)) 1024 && (is_utf8 text && list_all is_printable text)

unfoldable pub quoted_form : List ℕ → List ℕ
quoted_form text = quote ∷ [] ++ escaped_form text ++ quote ∷ []

unfoldable pub literal : List ℕ → List ℕ
literal text = brace ∷ [] ++ decimal (length text) ++ closing_brace ∷ carriage_return ∷ line_feed ∷ [] ++ text

unfoldable pub printed_form : List ℕ → List ℕ
printed_form text = if may_quote text then quoted_form text else literal text

-- new begins with old
abbrev pub Grows : {X : Type 0} → List X → List X → Type 0
Grows old new = take (length old) new ≡ old
