-- What a script sets for its world.
use Rattle.std.specs.Prelude.{ℕ, List}
use Rattle.acap_login.specs.Login.{User}
use Rattle.acap_rights.specs.declared.group.Group.{Group}

-- who may log in, who has all rights, the groups, and the name of the host
pub record Setup : Type 0 where
  pub users : List User
  pub administrators : List (List ℕ)
  pub groups : List Group
  pub host : List ℕ
