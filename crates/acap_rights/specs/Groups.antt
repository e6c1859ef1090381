-- Lists that name groups, and the same without them [RFC 2244 section 3.5].
use Rattle.std.specs.Prelude.{◌≡◌, ℕ, Bool, true, false, nat_eq, List, [], ◌∷◌, ◌++◌, map, drop, Option, Some}
use Rattle.std.specs.Prelude.{None, if◌then◌else◌}
use Rattle.std.specs.List.{flat_map, list_all, starts_with}
use Rattle.acap_entries.specs.Names.{minus, begins_with, group_prefix, is_user_name}
use Rattle.acap_entries.specs.Orders.{octets_eq}
use Rattle.acap_rights.specs.Laws.{rights_of_letters, common}
use Rattle.acap_rights.specs.Pairs.{Pair, string_of, pair_of, is_letter, rights_given, rights_taken}
use Rattle.acap_rights.specs.Pairs.{rights_in}
use Rattle.acap_rights.specs.Realms.{names_in_group}
use Rattle.acap_rights.specs.Rights.{no_rights}
use Rattle.acap_rights.specs.declared.group.Group.{Group}
use Rattle.acap_rights.specs.declared.realm.Realm.{Realm}

-- a realm in which there are no groups
abbrev pub without_groups : Realm → Realm
without_groups realm = record { administrators = realm.administrators; groups = [] }

-- who is in the group of a name: the members of all that have it, and nobody where none has it
abbrev pub members_of : Realm → List ℕ → List (List ℕ)
members_of realm name =
    flat_map (λ group. if octets_eq name group.name then group.members else []) realm.groups

-- an identifier without its `-`, and a name with the `-` that an identifier has
abbrev pub without_sign : List ℕ → List ℕ
without_sign identifier = if begins_with minus identifier then drop 1 identifier else identifier

abbrev pub signed_as : List ℕ → List ℕ → List ℕ
signed_as identifier name = if begins_with minus identifier then minus ∷ name else name

-- a group's string written out: one for each member. Any other stays
abbrev pub pair_written_out : Realm → List ℕ → Option Pair → List (List ℕ)
pair_written_out realm text None = text ∷ []
pair_written_out realm text (Some pair) =
    if starts_with nat_eq (without_sign pair.identifier) group_prefix
    then map (λ member. string_of (signed_as pair.identifier member) pair.letters)
    (members_of realm (drop 6 (without_sign pair.identifier)))
    else text ∷ []

abbrev pub written_out : Realm → List (List ℕ) → List (List ℕ)
written_out realm acl = flat_map (λ text. pair_written_out realm text (pair_of text)) acl

-- all members are users
abbrev pub are_users : Realm → Bool
are_users realm = list_all (λ (group : Group). list_all is_user_name group.members) realm.groups

pub record GroupLaw : Type 0 where
  -- a list over groups gives what it gives with each group's
  -- string written out for its members, where there are no groups
  pub written : (realm : Realm) (user : List ℕ) (acl : List (List ℕ)) → is_user_name user ≡ true
      → are_users realm ≡ true
      → rights_in realm user acl ≡ rights_in (without_groups realm) user (written_out realm acl)
  -- what a group's negative string takes from a member is not given, whatever stands before and after it
  pub negative : (realm : Realm) (user name letters : List ℕ) (front back : List (List ℕ))
      → is_user_name name ≡ true
      → names_in_group realm user (group_prefix ++ name) ≡ true → list_all is_letter letters ≡ true
      → common (rights_in realm user (front ++ string_of (minus ∷ group_prefix ++ name) letters ∷ back))
      (rights_of_letters letters) ≡ no_rights
  -- a group's string gives and takes nothing where the user is in no group of the name
  pub others : (realm : Realm) (user name letters : List ℕ) → is_user_name user ≡ true
      → names_in_group realm user (group_prefix ++ name) ≡ false
      → (rights_given realm user (string_of (group_prefix ++ name) letters ∷ []) ≡ no_rights)
      × (rights_taken realm user (string_of (minus ∷ group_prefix ++ name) letters ∷ []) ≡ no_rights)
