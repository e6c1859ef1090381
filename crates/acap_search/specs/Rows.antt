-- What a RETURN sends of an entry, of what is seen of it [RFC 2244 sections 3.1.2 and 6.4.1].
use Rattle.std.specs.Prelude.{ℕ, Bool, true, ◌&&◌, not, nat_eq, List, [], ◌∷◌, ◌++◌, length, decimal, codes}
use Rattle.std.specs.Prelude.{Option, Some, None, if◌then◌else◌, map as each}
use Rattle.std.specs.FinMap as map
use Rattle.std.specs.List.{starts_with}
use Rattle.acap_entries.specs.Orders.{octets_cmp}
use Rattle.acap_entries.specs.Store.{Stored}
use Rattle.acap_entries.specs.declared.record.Cell.{Cell}
use Rattle.acap_entries.specs.declared.record.Cell.TheVariants.{Nil, Single, Multi}
use Rattle.acap_entries.specs.declared.row.Item.{Item}
use Rattle.acap_entries.specs.declared.row.Item.TheVariants.{One, Several, PerAttribute}
use Rattle.acap_entries.specs.declared.record.Record.{Record}
use Rattle.acap_commands.specs.declared.returns.Metadata.{Metadata}
use Rattle.acap_commands.specs.declared.returns.Metadata.TheVariants as metadata
use Rattle.acap_commands.specs.declared.returns.ReturnItem.{ReturnItem}
use Rattle.acap_commands.specs.declared.returns.ReturnName.{ReturnName}
use Rattle.acap_commands.specs.declared.returns.ReturnName.TheVariants as name
use Rattle.acap_inherit.specs.Records.{record_at}
use Rattle.acap_rights.specs.Rights.{letters_of}
use Rattle.acap_search.specs.Sight.{Answers, is_nil}

-- how many octets a string has, in decimal digits
abbrev pub digits : ℕ → List ℕ
digits count = decimal count

abbrev pub size_of : List ℕ → List ℕ
size_of text = digits (length text)

-- NIL has no size, and a list that of each of its strings
abbrev pub sizes_of : Cell → Cell
sizes_of Nil = Nil
sizes_of (Single text) = Single (size_of text)
sizes_of (Multi texts) = Multi (each size_of texts)

-- no list is NIL
abbrev pub list_cell : Option (List (List ℕ)) → Cell
list_cell None = Nil
list_cell (Some acl) = Multi acl

-- what is sent of an attribute: its list, its name, the user's rights, its size or its value
abbrev pub datum : Answers → List ℕ → Metadata → Cell
datum answers attribute metadata.Acl = list_cell (answers.acl attribute)
datum answers attribute metadata.Attribute = Single attribute
datum answers attribute metadata.MyRights = Single (letters_of (answers.rights attribute))
datum answers attribute metadata.Size = sizes_of (answers.read attribute)
datum answers attribute metadata.Value = answers.read attribute

unfoldable pub data_of : Answers → List Metadata → List ℕ → List Cell
data_of answers wanted attribute = each (datum answers attribute) wanted

-- one datum stands bare, several in one parenthesis
abbrev pub item_of_cells : List Cell → Item
item_of_cells [] = Several []
item_of_cells (cell ∷ []) = One cell
item_of_cells (cell ∷ second ∷ cells) = Several (cell ∷ second ∷ cells)

-- a set of names, as the map that has `true` at each of them
abbrev pub Names : Type 0
Names = map.FinMap octets_cmp Bool

-- the attributes that begin with some octets and have a value
-- that is seen, in the order of their octets, found among some
abbrev pub put_star : (List ℕ → Cell) → List ℕ → List ℕ → Names → Names
put_star read front attribute stars =
    if starts_with nat_eq attribute front && not (is_nil (read attribute))
    then map.insert stars attribute true else stars

abbrev pub stars_from : (List ℕ → Cell) → List ℕ → List (List ℕ) → Names → Names
stars_from read front [] stars = stars
stars_from read front (attribute ∷ rest) stars =
    stars_from read front rest (put_star read front attribute stars)

unfoldable pub stars_of : (List ℕ → Cell) → List (List ℕ) → List ℕ → Names
stars_of read names front = stars_from read front names map.empty

-- among which they all are: the attributes that every entry has, and those of its records along a chain
abbrev pub attributes_in : Option Record → List (List ℕ)
attributes_in None = []
attributes_in (Some entry) = map.keys entry.cells

abbrev pub attributes_on : Stored → List ℕ → List (List ℕ) → List (List ℕ)
attributes_on records name [] = []
attributes_on records name (dataset ∷ chain) =
    attributes_in (record_at records dataset name) ++ attributes_on records name chain

abbrev pub attributes_at : Stored → List ℕ → List (List ℕ) → List (List ℕ)
attributes_at records name chain = codes "entry" ∷ codes "modtime" ∷ attributes_on records name chain

-- what one item of RETURN sends
abbrev pub item_of : Answers → (List ℕ → Names) → ReturnName → List Metadata → Item
item_of answers stars (name.Named attribute) wanted = item_of_cells (data_of answers wanted attribute)
item_of answers stars (name.Beginning front) wanted =
    PerAttribute (each (data_of answers wanted) (map.keys (stars front)))

-- what a RETURN sends
abbrev pub items_of : Answers → (List ℕ → Names) → List ReturnItem → List Item
items_of answers stars returns = each (λ item. item_of answers stars item.name item.metadata) returns
