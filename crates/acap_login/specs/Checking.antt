-- Words of the contracts: an answer's parts, and users as vectors have them.
use Rattle.std.specs.Prelude.{◌≡◌, ◌≢◌, ℕ, Bool, Vec, List, ◌∷◌, ◌++◌, length}
use Rattle.std.specs.Str.{bytes_eq}
use Rattle.std.specs.declared.alloc.Global.{Global}
use Rattle.acap_login.specs.Login.{answer_of, space}

-- no name stands before an SP and 32 octets
abbrev pub HasNoParts : List ℕ → Type 0
HasNoParts answer = (name digits : List ℕ) → length digits ≡ 32 → answer ≢ name ++ space ∷ digits

-- whether a name and digits are the answer of a user with a secret
abbrev pub is_answer_of : List ℕ → List ℕ → List ℕ → List ℕ × Vec ℕ Global → Bool
is_answer_of challenge name digits user =
    bytes_eq (name ++ space ∷ digits) (answer_of challenge (user.0, user.1.items))
