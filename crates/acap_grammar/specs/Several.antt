-- Items that are read one after the other [RFC 2244 section 8].
use Rattle.std.specs.Prelude.{ℕ, zero, suc, ◌-◌, List, Bool, Ok, if◌then◌else◌}
use Rattle.acap_lexer.specs.Token.{Token}
use Rattle.acap_grammar.specs.declared.command_fault.CommandFault.TheVariants as fault
use Rattle.acap_grammar.specs.Outcome.{◌>>=◌, Read, fault_here}
use Rattle.acap_grammar.specs.Marks.{is_open, is_close, is_string, starts, behind}

-- Items put one after the other after those seen, until none comes: at most this many, and one too many
-- is refused at its first token, if that has the kind with which an item starts.
unfoldable pub several : {A : Type 0} → (List Token → Bool) → (List Token → Bool) → (A → List Token → Read A)
    → ℕ → A → List Token → Read A
several over fits item zero seen tokens =
    if over tokens then Ok (seen, tokens)
    else fault_here tokens (if fits tokens then fault.TooMany else fault.Arguments)
several over fits item (suc room) seen tokens =
    if over tokens then Ok (seen, tokens) else (item seen tokens >>= λ x. several over fits item room x.0 x.1)

-- one item or more, at most `most`
unfoldable pub some_of : {A : Type 0} → (List Token → Bool) → (List Token → Bool) → (A → List Token → Read A)
    → ℕ → A → List Token → Read A
some_of over fits item most none tokens = item none tokens >>= λ x. several over fits item (most - 1) x.0 x.1

-- the same in a parenthesis
unfoldable pub in_parenthesis : {A : Type 0} → (List Token → Bool) → (List Token → Bool)
    → (A → List Token → Read A) → ℕ → A → List Token → Read A
in_parenthesis over fits item most none tokens = do
  inside ← behind is_open tokens
  items ← some_of over fits item most none inside
  left ← behind is_close items.1
  Ok (items.0, left)

-- items that begin with a string, in a parenthesis
abbrev pub strings_enclosed : {A : Type 0} → (A → List Token → Read A) → ℕ → A → List Token → Read A
strings_enclosed item most none tokens =
    in_parenthesis (starts is_close) (starts is_string) item most none tokens
