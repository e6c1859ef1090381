-- What a store holds, as the commands that make it again [RFC 2244 sections 6.4.1 and 6.6.1].
use Rattle.std.specs.Prelude.{ℕ, true, false, Bool, not, ◌||◌, List, [], ◌∷◌, ◌++◌, codes, bytes_eq, Option}
use Rattle.std.specs.Prelude.{Some, None, option_to_list, if◌then◌else◌}
use Rattle.acap_entries.specs.declared.record.Cell.{Cell}
use Rattle.acap_entries.specs.declared.record.Cell.TheVariants as cell
use Rattle.acap_entries.specs.declared.path.Path.{Path}
use Rattle.acap_commands.specs.Wanted.{One}
use Rattle.acap_commands.specs.declared.command.Command.{Command}
use Rattle.acap_commands.specs.declared.store.Given.TheVariants as given
use Rattle.acap_commands.specs.declared.returns.Metadata.{Metadata}
use Rattle.acap_commands.specs.declared.returns.Metadata.TheVariants as metadata
use Rattle.acap_commands.specs.declared.returns.ReturnName.TheVariants as name
use Rattle.acap_commands.specs.declared.search_modifiers.SearchModifiers.{SearchModifiers}
use Rattle.acap_commands.specs.declared.store.StoreItem.{StoreItem}
use Rattle.acap_commands.specs.declared.store.StoreMetadata.{StoreMetadata}
use Rattle.acap_commands.specs.declared.store.StoreMetadata.TheVariants as stored
use Rattle.acap_commands.specs.declared.test.Test.TheVariants as test
use Rattle.acap_grammar.specs.Lines.{Datum, Word, Text, Empty, Pair}
use Rattle.acap_shell.specs.Rows.{first_texts, inside}
use Rattle.acap_shell.specs.Searches.{entry, returning, search}
use Rattle.acap_shell.specs.Stores.{item}

-- the SEARCH for all entries of a dataset and of those beneath it, with each attribute's name, value and
-- access list, and nothing inherited
abbrev pub all_metadata : List Metadata
all_metadata = metadata.Attribute ∷ metadata.Value ∷ metadata.Acl ∷ []

abbrev pub all_stored : SearchModifiers
all_stored = record (returning (name.Beginning []) all_metadata) { depth = Some 0; no_inherit = true }

abbrev pub dump : List ℕ → Command
dump root = search root all_stored (One test.All)

-- the same, which makes a context without positions that follows the store
abbrev pub follow_all : List ℕ → List ℕ → Command
follow_all root context =
    search root (record all_stored
    { make_context = Some (record { enumerate = false; notify = true; name = context }) }) (One test.All)

-- a string, a list of strings, or NIL
abbrev pub list_of : List Datum → Cell
list_of items = cell.Multi (first_texts items)

abbrev pub cell_in : Datum → Cell
cell_in (Word word) = cell.Nil
cell_in (Text text) = cell.Single text
cell_in Empty = list_of []
cell_in (Pair first more) = list_of (inside (Pair first more))

-- what stands first, and the data after it
abbrev pub cell_at : List Datum → Option (Cell × List Datum)
cell_at [] = None
cell_at (first ∷ others) = Some (cell_in first, others)

-- what an attribute is given: nothing where that is NIL
abbrev pub item_of : List ℕ → StoreMetadata → Cell → Option StoreItem
item_of attribute metadata cell.Nil = None
item_of attribute metadata c =
    Some (record { attribute = attribute; metadata = metadata; given = given.Put c })

-- the server makes `modtime`, and `entry` is the name
abbrev pub is_stored : List ℕ → Bool
is_stored attribute = not (bytes_eq attribute (codes "modtime") || bytes_eq attribute (codes "entry"))

abbrev pub cells_of : List ℕ → Cell → Cell → List StoreItem
cells_of attribute value acl =
    (if is_stored attribute then option_to_list (item_of attribute stored.Value value) else [])
    ++ option_to_list (item_of attribute stored.Acl acl)

-- of an attribute with its value and its access list
abbrev pub pair_items : List ℕ → List Datum → List StoreItem
pair_items attribute (value ∷ acl ∷ others) = cells_of attribute (cell_in value) (cell_in acl)
pair_items attribute _ = []

-- of a parenthesis of these three
abbrev pub items_of : List Datum → List StoreItem
items_of (Text attribute ∷ pair) = pair_items attribute pair
items_of _ = []

-- of the parentheses that stand first
abbrev pub all_items : List Datum → List StoreItem
all_items (Pair first more ∷ others) = items_of (inside (Pair first more)) ++ all_items others
all_items (Empty ∷ others) = all_items others
all_items _ = []

-- of a parenthesis of such parentheses
abbrev pub stored_items : List Datum → List StoreItem
stored_items (Pair first more ∷ others) = all_items (inside (Pair first more))
stored_items _ = []

-- an entry without attributes is made by its name
abbrev pub own_item : Path → StoreItem
own_item path = item entry (given.Put (cell.Single path.name))

abbrev pub or_own : Path → List StoreItem → List StoreItem
or_own path [] = own_item path ∷ []
or_own path (x ∷ xs) = x ∷ xs

-- what makes an entry again
abbrev pub stores_of : Path → List Datum → List StoreItem
stores_of path items = or_own path (stored_items items)
