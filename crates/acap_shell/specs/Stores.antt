-- Words that change entries, as a STORE [RFC 2244 section 6.6.1].
use Rattle.std.specs.Prelude.{ℕ, List, [], ◌∷◌, Option, Some, None}
use Rattle.acap_entries.specs.declared.record.Cell.TheVariants as cell
use Rattle.acap_entries.specs.declared.path.Path.{Path}
use Rattle.acap_commands.specs.Modifiers.{unconditional}
use Rattle.acap_commands.specs.declared.command.Command.{Command}
use Rattle.acap_commands.specs.declared.command.Command.TheVariants as command
use Rattle.acap_commands.specs.declared.store.Given.{Given}
use Rattle.acap_commands.specs.declared.store.Given.TheVariants as given
use Rattle.acap_commands.specs.declared.store.StoreEntry.{StoreEntry}
use Rattle.acap_commands.specs.declared.store.StoreItem.{StoreItem}
use Rattle.acap_commands.specs.declared.store.StoreMetadata.TheVariants as stored
use Rattle.acap_shell.specs.Searches.{entry}

-- a STORE of one item
abbrev pub store_item : Path → StoreItem → Command
store_item path item =
    command.Store (record { path = path; modifiers = unconditional; items = item ∷ [] } ∷ [])

-- a STORE of one value
abbrev pub item : List ℕ → Given → StoreItem
item attribute given = record { attribute = attribute; metadata = stored.Value; given = given }

abbrev pub store : Path → List ℕ → Given → Command
store path attribute given = store_item path (item attribute given)

-- a value alone, or several as a list
abbrev pub given_of : List (List ℕ) → Given
given_of (value ∷ []) = given.Put (cell.Single value)
given_of values = given.Put (cell.Multi values)

abbrev pub set : Path → List ℕ → List (List ℕ) → Command
set path attribute values = store path attribute (given_of values)

-- NIL takes the value off an attribute; given to `entry` it ends the entry
abbrev pub unset : Path → Option (List ℕ) → Command
unset path (Some attribute) = store path attribute (given.Put cell.Nil)
unset path None = store path entry (given.Put cell.Nil)
