-- Whose datasets are whose, and what lists decide where none is stored [RFC 2244 sections 3.5 and 4.1].
use Rattle.std.specs.Prelude.{ℕ, Bool, false, if◌then◌else◌, List, [], ◌∷◌, codes, Option, Some, None}
use Rattle.std.specs.Option.{option_map_or}
use Rattle.acap_entries.specs.Names.{slash, begins_with, components, is_user_name}
use Rattle.acap_entries.specs.Orders.{octets_eq}
use Rattle.acap_rights.specs.Pairs.{string_of}

-- of the components `CLASS`, `user`, `NAME`, .. the third
abbrev pub third_of : List (List ℕ) → Option (List ℕ)
third_of [] = None
third_of (class ∷ []) = None
third_of (class ∷ second ∷ []) = None
third_of (class ∷ second ∷ name ∷ others) = if octets_eq second (codes "user") then Some name else None

-- `/CLASS/user/NAME/` and the datasets beneath it are the home of NAME
unfoldable pub home_of : List ℕ → Option (List ℕ)
home_of dataset = if begins_with slash dataset then third_of (components dataset) else None

-- it is NAME's, where that is the name of a user
unfoldable pub is_owner : List ℕ → List ℕ → Bool
is_owner user dataset =
    option_map_or (λ name. if is_user_name name then octets_eq name user else false) (home_of dataset) false

-- the list that decides in a dataset where none is stored: in a home its owner has all rights, and nobody has
-- any if NAME is no user's; elsewhere anyone may search and read
abbrev pub home_list : List ℕ → List (List ℕ)
home_list name = if is_user_name name then string_of name (codes "xrwia") ∷ [] else []

unfoldable pub default_list : List ℕ → List (List ℕ)
default_list dataset =
    option_map_or home_list (home_of dataset) (string_of (codes "anyone") (codes "xr") ∷ [])
