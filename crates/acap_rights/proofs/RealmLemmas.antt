-- Realms and groups: whom the identifier of a group names.
use Rattle.std.proofs.Common.{◌≡◌, ◌≢◌, ℕ, true, false, List, [], ◌∷◌, ◌++◌, refl}
use Rattle.std.specs.Prelude.{◌&&◌}
use Rattle.std.specs.Cmp.Lexicographic.{bytes_decides}
use Rattle.std.specs.List.{list_any}
use Rattle.acap_entries.specs.Names.{group_prefix}
use Rattle.acap_entries.specs.Orders.{octets_eq}
use Rattle.acap_rights.specs.Realms.{has_member, identifier_of, names_in_group}
use Rattle.acap_rights.specs.declared.group.Group.{Group}
use Rattle.acap_rights.specs.declared.realm.Realm.{Realm}

-- no group is named by an identifier that doesn't begin as a group's does
unlike : (identifier : List ℕ) → ((rest : List ℕ) → identifier ≢ group_prefix ++ rest) → (g : Group) → octets_eq identifier (identifier_of g) ≡ false
unlike identifier h g = elim (octets_eq identifier (identifier_of g)) as (λ b. octets_eq identifier (identifier_of g) ≡ b → b ≡ false) [
  | true ↦ λ e. absurd (h g.name ((bytes_decides identifier (identifier_of g)).0 e))
  | false ↦ λ e. refl
] refl

none_named : (user identifier : List ℕ) → ((rest : List ℕ) → identifier ≢ group_prefix ++ rest) → (groups : List Group) → list_any (λ g. octets_eq identifier (identifier_of g) && has_member user g) groups ≡ false
none_named user identifier h [] = refl
none_named user identifier h (g ∷ groups) = rw (unlike identifier h g) (none_named user identifier h groups)

pub in_no_group : (realm : Realm) (user identifier : List ℕ) → ((rest : List ℕ) → identifier ≢ group_prefix ++ rest) → names_in_group realm user identifier ≡ false
in_no_group realm user identifier h = none_named user identifier h realm.groups
