-- CRAM-MD5 [RFC 2195 section 2]: the challenge, the answer of a user, and whom an answer logs in.
use Rattle.std.specs.Prelude.{◌≡◌, ℕ, ◌<◌, ◌==◌, Bool, false, List, [], ◌∷◌, ◌++◌, length, codes, decimal}
use Rattle.std.specs.Prelude.{Option, option_map}
use Rattle.std.specs.List.{list_all, list_any, position, slice_get, slice_index_or}
use Rattle.std.specs.Str.{bytes_eq}
use Rattle.hex.specs.Hex.{encode_lower}
use Rattle.acap_entries.specs.Names.{is_user_name}
use Rattle.acap_login.specs.Hmac.{hmac}

-- `<NONCE.SECONDS@HOST>`, both numbers in decimal
unfoldable pub challenge_of : ℕ → ℕ → List ℕ → List ℕ
challenge_of nonce seconds host =
    codes "<" ++ decimal nonce ++ codes "." ++ decimal seconds ++ codes "@" ++ host ++ codes ">"

-- 32 lower-case hex digits: the hash of the challenge under the secret
unfoldable pub digest_of : List ℕ → List ℕ → List ℕ
digest_of secret challenge = encode_lower (hmac secret challenge)

-- a user's name and secret
abbrev pub User : Type 0
User = List ℕ × List ℕ

-- each name is one that a user may have
abbrev pub are_named : List User → Bool
are_named users = list_all (λ user. is_user_name user.0) users

abbrev pub space : ℕ
space = 32

abbrev pub is_space : ℕ → Bool
is_space octet = octet == space

-- what stands before the last SP of a text and what after it
pub record IsCut (text before behind : List ℕ) : Type 0 where
  pub whole : text ≡ before ++ space ∷ behind
  pub last : list_any is_space behind ≡ false

-- an answer to a challenge fits a user: the name stands before
-- its last SP, the digits of the secret stand after it
abbrev pub Fits : List ℕ → List ℕ → User → Type 0
Fits challenge answer user = IsCut answer user.0 (digest_of user.1 challenge)

-- the user at a place of a list
abbrev pub user_at : List User → ℕ → User
user_at users place = slice_index_or users place ([], [])

-- and the name of that user, if there is one
abbrev pub name_at : List User → ℕ → Option (List ℕ)
name_at users place = option_map (λ user. user.0) (slice_get users place)

-- an answer logs the first user in whom it fits
pub record IsAccepted (users : List User) (challenge answer : List ℕ) (place : ℕ) : Type 0 where
  pub within : place < length users
  pub fits : Fits challenge answer (user_at users place)
  pub first : (earlier : ℕ) → earlier < place → ¬ Fits challenge answer (user_at users earlier)

-- and nobody where it fits no user
pub record IsRefused (users : List User) (challenge answer : List ℕ) : Type 0 where
  pub nobody : (place : ℕ) → place < length users → ¬ Fits challenge answer (user_at users place)

-- the same as a function: the answer that a user gives, and the place of the first whose answer it is
abbrev pub answer_of : List ℕ → User → List ℕ
answer_of challenge user = user.0 ++ space ∷ digest_of user.1 challenge

unfoldable pub answering_user : List User → List ℕ → List ℕ → Option ℕ
answering_user users challenge answer = position (λ user. bytes_eq answer (answer_of challenge user)) users
