-- What SETACL and DELETEACL make of a list [RFC 2244 section 6.7].
use Rattle.std.specs.Prelude.{ℕ, Bool, not, List, ◌∷◌, ◌++◌, take, drop}
use Rattle.std.specs.List.{filter, position_or_len}
use Rattle.acap_entries.specs.Orders.{octets_eq}
use Rattle.acap_rights.specs.Pairs.{string_of, says}

-- whether a string says something of an identifier
abbrev pub is_about : List ℕ → List ℕ → Bool
is_about identifier text = says (λ pair. octets_eq pair.identifier identifier) text

-- without the identifier: what says nothing of it stays
unfoldable pub without : List ℕ → List (List ℕ) → List (List ℕ)
without identifier acl = filter (λ text. not (is_about identifier text)) acl

-- with letters for the identifier: in the place of the first string that says something of it, or after all
-- where none does, and nothing else of it stays
abbrev pub place_in : List ℕ → List (List ℕ) → ℕ
place_in identifier acl = position_or_len (is_about identifier) acl

unfoldable pub with_pair : List ℕ → List ℕ → List (List ℕ) → List (List ℕ)
with_pair identifier letters acl =
    take (place_in identifier acl) acl
    ++ string_of identifier letters
    ∷ without identifier (drop (place_in identifier acl) acl)
