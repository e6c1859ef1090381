-- Which datasets exist [RFC 2244 sections 3.1.1 and 4.1].
use Rattle.std.specs.Prelude.{ℕ, Bool, false, ◌&&◌, ◌||◌, nat_eq, List, [], ◌∷◌, filter, Option, Some, None}
use Rattle.std.specs.Prelude.{codes}
use Rattle.std.specs.List.{starts_with}
use Rattle.std.specs.Option.{option_map_or, option_and_then}
use Rattle.std.specs.FinMap as map
use Rattle.acap_entries.specs.Orders.{octets_eq}
use Rattle.acap_entries.specs.Names.{slash, own_entry}
use Rattle.acap_entries.specs.Store.{Stored}
use Rattle.acap_entries.specs.declared.record.Cell.{Cell}
use Rattle.acap_entries.specs.declared.record.Cell.TheVariants.{Nil, Single, Multi}
use Rattle.acap_entries.specs.declared.path.Path.{Path}
use Rattle.acap_entries.specs.declared.record.Record.{Record}

-- the list of the one string `.`
abbrev pub is_dot_list : Option Cell → Bool
is_dot_list None = false
is_dot_list (Some Nil) = false
is_dot_list (Some (Single value)) = false
is_dot_list (Some (Multi [])) = false
is_dot_list (Some (Multi (value ∷ []))) = octets_eq value (codes ".")
is_dot_list (Some (Multi (value ∷ other ∷ values))) = false

-- an entry that is present and whose `subdataset` is (".") makes the dataset of its name
abbrev pub makes_dataset : Record → Bool
makes_dataset entry = entry.present && is_dot_list (map.get entry.cells (codes "subdataset"))

-- `/` always exists, and any other dataset exactly where its own entry in the parent makes it
abbrev pub dataset_exists : Stored → List ℕ → Bool
dataset_exists records dataset =
    octets_eq dataset (slash ∷ [])
    || option_map_or makes_dataset
    (option_and_then (λ own. map.get records (record { dataset = own.0; name = own.1 }))
    (own_entry dataset)) false

-- the records of one dataset, and those of a dataset and of the datasets beneath it, in their order
abbrev pub entries_of : Stored → List ℕ → List (Path × Record)
entries_of records dataset = filter (λ e. octets_eq dataset e.0.dataset) (map.entries records)

abbrev pub entries_beneath : Stored → List ℕ → List (Path × Record)
entries_beneath records dataset = filter (λ e. starts_with nat_eq e.0.dataset dataset) (map.entries records)
