-- The strings of access control lists: each pairs an identifier
-- with the letters of rights [RFC 2244 sections 3.5 and 8].
use Rattle.std.specs.Prelude.{◌≡◌, ℕ, ◌==◌, Bool, true, false, not, ◌&&◌, nat_lt, if◌then◌else◌, List, []}
use Rattle.std.specs.Prelude.{◌∷◌, ◌++◌, length, drop, codes, Option, Some, None}
use Rattle.std.specs.List.{list_any, list_all, slice_split}
use Rattle.std.specs.Option.{option_map_or, is_some}
use Rattle.acap_entries.specs.Names.{tab, minus, has, begins_with}
use Rattle.acap_entries.specs.Orders.{octets_eq}
use Rattle.acap_rights.specs.Realms.{names}
use Rattle.acap_rights.specs.Rights.{rights_by, less}
use Rattle.acap_rights.specs.declared.realm.Realm.{Realm}
use Rattle.acap_rights.specs.declared.rights.Rights.{Rights}

-- a text cut at each such octet
abbrev pub parts_by : ℕ → List ℕ → List (List ℕ)
parts_by octet text = slice_split (λ x. x == octet) text

abbrev pub is_tab : ℕ → Bool
is_tab octet = octet == tab

-- the letters of the five rights
abbrev pub is_letter : ℕ → Bool
is_letter octet = has octet (codes "xrwia")

-- an identifier is not empty and not `-` alone, and has no TAB
unfoldable pub is_identifier : List ℕ → Bool
is_identifier text = nat_lt 0 (length text) && not (octets_eq text (codes "-")) && not (has tab text)

-- an identifier and letters, any of them and as often as one likes
pub record Pair : Type 0 where
  pub identifier : List ℕ
  pub letters : List ℕ

abbrev pub pair_with : List ℕ → List ℕ → Pair
pair_with identifier letters = record { identifier = identifier; letters = letters }

-- as a string: the identifier, TAB, the letters
abbrev pub form_of : Pair → List ℕ
form_of pair = pair.identifier ++ tab ∷ pair.letters

-- the same of an identifier and letters
abbrev pub string_of : List ℕ → List ℕ → List ℕ
string_of identifier letters = form_of (pair_with identifier letters)

-- a string is a pair's if it is its form, the identifier is one, and the letters are
pub record IsPair (text : List ℕ) (pair : Pair) : Type 0 where
  pub form : text ≡ form_of pair
  pub identifier : is_identifier pair.identifier ≡ true
  pub letters : list_all is_letter pair.letters ≡ true

-- the same as a function: the two texts of a string with one TAB between them, where they are an identifier
-- and letters. Any other string says nothing
abbrev pub pair_in : List (List ℕ) → Option Pair
pair_in [] = None
pair_in (identifier ∷ []) = None
pair_in (identifier ∷ letters ∷ []) =
    if is_identifier identifier && list_all is_letter letters then Some (pair_with identifier letters)
    else None
pair_in (identifier ∷ letters ∷ more ∷ others) = None

unfoldable pub pair_of : List ℕ → Option Pair
pair_of text = pair_in (slice_split is_tab text)

-- whether what a string says passes a test
abbrev pub says : (Pair → Bool) → List ℕ → Bool
says test text = option_map_or test (pair_of text) false

-- an access control list is a list of such strings, none included
abbrev pub is_acl : List (List ℕ) → Bool
is_acl strings = list_all (λ text. is_some (pair_of text)) strings

-- a pair gives its letters to whom its identifier names; where
-- that begins with `-` it takes them away from whom the rest names
abbrev pub gives : Realm → List ℕ → ℕ → Pair → Bool
gives realm user letter pair =
    not (begins_with minus pair.identifier) && names realm user pair.identifier && has letter pair.letters

abbrev pub takes : Realm → List ℕ → ℕ → Pair → Bool
takes realm user letter pair =
    begins_with minus pair.identifier && names realm user (drop 1 pair.identifier) && has letter pair.letters

-- what a string gives to a user, and what it takes away
abbrev pub given_by : Realm → List ℕ → List ℕ → Rights
given_by realm user text = rights_by (λ letter. says (gives realm user letter) text)

abbrev pub taken_by : Realm → List ℕ → List ℕ → Rights
taken_by realm user text = rights_by (λ letter. says (takes realm user letter) text)

-- all that the pairs of a list give to a user, and all that they take away
abbrev pub rights_given : Realm → List ℕ → List (List ℕ) → Rights
rights_given realm user acl = rights_by (λ letter. list_any (says (gives realm user letter)) acl)

abbrev pub rights_taken : Realm → List ℕ → List (List ℕ) → Rights
rights_taken realm user acl = rights_by (λ letter. list_any (says (takes realm user letter)) acl)

-- the rights of a user by a list
unfoldable pub rights_in : Realm → List ℕ → List (List ℕ) → Rights
rights_in realm user acl = less (rights_given realm user acl) (rights_taken realm user acl)
