-- Who listens to a client, and when.
use Rattle.std.specs.Prelude.{ℕ, ℤ, List, Option}

-- the name of the host, the session's user if it has one, the nonce of a challenge, and what the clock shows
pub record Listening : Type 0 where
  pub host : List ℕ
  pub user : Option (List ℕ)
  pub nonce : ℕ
  pub clock : ℤ
