-- What a command's tokens so far stand for.
use Rattle.std.specs.Prelude.{ℕ, List}
use Rattle.acap_lexer.specs.Token.{Token}

-- the tokens, and the text in which their values lie
pub record Drafted : Type 0 where
  pub text : List ℕ
  pub tokens : List Token
