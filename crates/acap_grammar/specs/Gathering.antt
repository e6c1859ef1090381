-- What is known of the entries of a STORE as they are gathered.
use Rattle.std.specs.Prelude.{ℕ, List, true, Option, Some, None}
use Rattle.acap_entries.specs.Store.{path_cmp}
use Rattle.acap_commands.specs.EntryOrder.{Orders}
use Rattle.acap_commands.specs.declared.store.StoreEntry.{StoreEntry}
use Rattle.acap_grammar.specs.Ascending.{Ascends}

-- their paths ascend while there is no order of them
abbrev pub Gathered : Option (List ℕ) → List StoreEntry → Type 0
Gathered None entries = Ascends (λ e. e.path) path_cmp true entries
Gathered (Some places) entries = Orders places entries
