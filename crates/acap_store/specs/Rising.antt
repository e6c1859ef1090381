-- Entries whose paths ascend, as most clients send them: a word of private contracts.
use Rattle.std.specs.Prelude.{Bool, List, map}
use Rattle.std.specs.FinMap.{is_sorted}
use Rattle.acap_entries.specs.Store.{path_cmp}
use Rattle.acap_entries.specs.declared.path.Path.{Path}
use Rattle.acap_commands.specs.declared.store.StoreEntry.{StoreEntry}

abbrev pub with_path : StoreEntry → Path × StoreEntry
with_path e = (e.path, e)

-- each path is greater than all before it
abbrev pub rising : List StoreEntry → Bool
rising entries = is_sorted path_cmp (map with_path entries)
