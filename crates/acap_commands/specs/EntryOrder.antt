-- Entries of a list in the order of their paths, given by their places in the list.
use Rattle.std.specs.Prelude.{◌≡◌, ℕ, ◌<◌, Bool, true, ◌&&◌, List, [], is_some, map, length}
use Rattle.std.specs.List.{All, list_any, slice_get}
use Rattle.std.specs.Option.{option_map_or}
use Rattle.std.specs.Str.{bytes_eq}
use Rattle.acap_ordmap.specs.Sorted.{found, InOrder}
use Rattle.acap_entries.specs.Store.{path_cmp}
use Rattle.acap_entries.specs.declared.path.Path.{Path}
use Rattle.acap_commands.specs.declared.store.StoreEntry.{StoreEntry}

-- whether an entry with this path stands among those before
unfoldable pub has_path : Path → List StoreEntry → Bool
has_path path seen =
    list_any (λ e. bytes_eq e.path.dataset path.dataset && bytes_eq e.path.name path.name) seen

-- the path of the entry at a place
abbrev pub path_at : List StoreEntry → ℕ → Path
path_at entries i = option_map_or (λ e. e.path) (slice_get entries i) (record { dataset = []; name = [] })

-- each place after the path that stands there
abbrev pub places_by_path : List StoreEntry → List ℕ → List (Path × ℕ)
places_by_path entries places = map (λ i. (path_at entries i, i)) places

-- places of entries, whose paths ascend, and every path of an entry is one of them
pub record Orders (places : List ℕ) (entries : List StoreEntry) : Type 0 where
  pub within : All (λ i. i < length entries) places
  pub rises : InOrder path_cmp (places_by_path entries places)
  pub whole : All (λ e. is_some (found path_cmp e.path (places_by_path entries places)) ≡ true) entries
