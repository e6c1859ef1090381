-- The tokens of a command. [RFC 2244, 2.2 and 2.6]
use Rattle.std.specs.Prelude.{ℕ, List}
use Rattle.acap_lexer.specs.declared.kind.Kind.{Kind}

-- A token: its kind, the octets that it stands for (of a parenthesis none), and where its own octets begin
-- and end in the command, counted from the command's first.
pub record Token : Type 0 where
  pub kind : Kind
  pub value : List ℕ
  pub start : ℕ
  pub end : ℕ
