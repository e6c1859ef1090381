-- What a script writes of what a session says.
use Rattle.std.specs.Prelude.{◌≡◌, ◌≢◌, ℕ, ◌+◌, List, [], ◌∷◌, ◌++◌, take, drop, flat_map, codes, decimal}
use Rattle.std.specs.Prelude.{Option, Some, None}
use Rattle.acap_lexer.specs.Stream.{end_of}

-- what stands before the first CR LF of octets and what after it, or all of them where there is none
abbrev pub IsCutBy : Option ℕ → List ℕ → List ℕ → List ℕ → Type 0
IsCutBy (Some place) said part behind = (part ≡ take place said) × (behind ≡ drop (place + 2) said)
IsCutBy None said part behind = (part ≡ said) × (behind ≡ [])

abbrev pub IsFirstPart : List ℕ → List ℕ → List ℕ → Type 0
IsFirstPart said part behind = IsCutBy (end_of said) said part behind

-- octets in parts, each of which ends at a CR LF; after the last there is none
abbrev pub AreParts : List (List ℕ) → List ℕ → Type 0
AreParts [] said = said ≡ []
AreParts (part ∷ parts) said =
    (said ≢ []) × ((behind : List ℕ) × IsFirstPart said part behind × AreParts parts behind)

-- a part as a line: the number of the seat, `: `, the part, LF
abbrev pub part_line : ℕ → List ℕ → List ℕ
part_line seat part = decimal seat ++ codes ": " ++ part ++ 10 ∷ []

-- and all of them, one after the other
pub record Shows (seat : ℕ) (said written : List ℕ) : Type 0 where
  pub parts : List (List ℕ)
  pub said_is : AreParts parts said
  pub is : written ≡ flat_map (part_line seat) parts
