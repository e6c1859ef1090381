-- Who is who: the administrators, the groups, and whom an identifier names [RFC 2244 section 3.5].
use Rattle.std.specs.Prelude.{ℕ, Bool, ◌&&◌, ◌||◌, List, ◌++◌, codes}
use Rattle.std.specs.List.{list_any}
use Rattle.acap_entries.specs.Names.{group_prefix}
use Rattle.acap_entries.specs.Orders.{octets_eq}
use Rattle.acap_rights.specs.declared.group.Group.{Group}
use Rattle.acap_rights.specs.declared.realm.Realm.{Realm}

abbrev pub has_member : List ℕ → Group → Bool
has_member user group = list_any (λ name. octets_eq name user) group.members

-- the identifier of a group, `group:NAME`
abbrev pub identifier_of : Group → List ℕ
identifier_of group = group_prefix ++ group.name

-- whether a group of the name has the user
abbrev pub has_in_group : Realm → List ℕ → List ℕ → Bool
has_in_group realm user name =
    list_any (λ group. octets_eq name group.name && has_member user group) realm.groups

-- whether an identifier is that of a group that has the user
abbrev pub names_in_group : Realm → List ℕ → List ℕ → Bool
names_in_group realm user identifier =
    list_any (λ group. octets_eq identifier (identifier_of group) && has_member user group) realm.groups

-- whether an identifier names a user: it is the user's
-- name, or `anyone`, or that of a group that has the user
unfoldable pub names : Realm → List ℕ → List ℕ → Bool
names realm user identifier =
    octets_eq identifier user || octets_eq identifier (codes "anyone") || names_in_group realm user identifier

unfoldable pub is_administrator : Realm → List ℕ → Bool
is_administrator realm user = list_any (λ name. octets_eq name user) realm.administrators
