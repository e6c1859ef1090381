-- What a session stands for.
use Rattle.std.specs.Prelude.{ℕ, List, [], Option, None}
use Rattle.acap_lexer.specs.Holding.{Held}
use Rattle.acap_dialogue.specs.declared.stage.Stage.{Stage}
use Rattle.acap_dialogue.specs.declared.stage.Stage.TheVariants as stage

-- the name of its host, its user if it has one, the octets that it has taken, and what it is about to do
pub record Talking : Type 0 where
  pub host : List ℕ
  pub user : Option (List ℕ)
  pub held : Held
  pub stage : Stage

-- a session on that host that hasn't said anything, of that user if there is one
abbrev pub beginning : List ℕ → Option (List ℕ) → Talking
beginning host user =
    record {
      host = host;
      user = user;
      held = record { text = []; told = 0; fatal = None };
      stage = stage.Opening;
    }
