-- What a lexer stands for.
use Rattle.std.specs.Prelude.{ℕ, List, ◌++◌, take, Option}
use Rattle.acap_lexer.specs.declared.fault.LexFault.{LexFault}

-- the octets taken after the last item answered, how many continuations have been sent since, and the fault
-- after which nothing is read, if one was answered
pub record Held : Type 0 where
  pub text : List ℕ
  pub told : ℕ
  pub fatal : Option LexFault

-- `n` octets of a piece after those that are held
abbrev pub with_taken : Held → List ℕ → ℕ → Held
with_taken held piece n = record held { text = held.text ++ take n piece }

-- the most octets that are held
abbrev pub held_limit : ℕ
held_limit = 270336
