-- Long lists, as a STORE whose strings are literals [RFC 2244 sections 2.6.3 and 6.6.1].
use Rattle.std.specs.Prelude.{ℕ, ◌+◌, ◌*◌, List, [], ◌∷◌, ◌++◌, codes, decimal, length, flat_map, sum_by}
use Rattle.std.specs.Prelude.{nat_lt, Option, Some, None, if◌then◌else◌}
use Rattle.acap_entries.specs.declared.record.Cell.TheVariants as cell
use Rattle.acap_entries.specs.declared.path.Path.{Path}
use Rattle.acap_commands.specs.declared.store.Given.{Given}
use Rattle.acap_commands.specs.declared.store.Given.TheVariants as given
use Rattle.acap_commands.specs.declared.store.StoreItem.{StoreItem}
use Rattle.acap_commands.specs.declared.store.StoreMetadata.{StoreMetadata}
use Rattle.acap_commands.specs.declared.store.StoreMetadata.TheVariants as stored
use Rattle.acap_grammar.specs.Texts.{line_of}
use Rattle.acap_shell.specs.Stores.{store_item}

-- the most octets that values take as quoted strings, with the space after each
abbrev pub octets_in : List (List ℕ) → ℕ
octets_in values = sum_by (λ value. 2 * length value + 3) values

-- a literal for which the client doesn't wait
abbrev pub literal : List ℕ → List ℕ
literal text = codes "{" ++ decimal (length text) ++ codes "+}\r\n" ++ text

abbrev pub spaced : List ℕ → List ℕ
spaced text = codes " " ++ literal text

abbrev pub list : List (List ℕ) → List ℕ
list [] = []
list (first ∷ others) = literal first ++ flat_map spaced others

abbrev pub opening : StoreMetadata → List ℕ
opening stored.Value = codes " (\"value\" ("
opening stored.Acl = codes " (\"acl\" ("

abbrev pub list_line : List ℕ → Path → List ℕ → StoreMetadata → List (List ℕ) → List ℕ
list_line tag path attribute metadata values =
    tag ++ codes " STORE (" ++ literal (path.dataset ++ path.name) ++ spaced attribute ++ opening metadata
    ++ list values ++ codes ")))\r\n"

-- the strings of a list that may be too long for a line
abbrev pub long_list : Given → Option (List (List ℕ))
long_list (given.Put (cell.Multi values)) = if nat_lt 6000 (octets_in values) then Some values else None
long_list _ = None

-- a STORE of an item: its strings are literals where they are such a list
abbrev pub with_literals : List ℕ → Path → StoreItem → Option (List (List ℕ)) → List ℕ
with_literals tag path item (Some values) = list_line tag path item.attribute item.metadata values
with_literals tag path item None = line_of tag (store_item path item)

abbrev pub item_line : List ℕ → Path → StoreItem → List ℕ
item_line tag path item = with_literals tag path item (long_list item.given)
