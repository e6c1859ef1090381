-- How touched paths are found: the datasets with a written one on
-- their chains, and of each the paths whose names are along it.
use Rattle.std.specs.Prelude.{ℕ, zero, suc, List, [], ◌∷◌, ◌++◌, map as each, Bool, true, false, ◌&&◌, Some}
use Rattle.std.specs.Prelude.{if◌then◌else◌}
use Rattle.std.specs.FinMap as map
use Rattle.std.specs.List.{filter, flat_map}
use Rattle.acap_entries.specs.Datasets.{dataset_exists}
use Rattle.acap_entries.specs.Orders.{octets_cmp, octets_eq}
use Rattle.acap_entries.specs.Store.{Stored, Written}
use Rattle.acap_entries.specs.declared.change.RecordEdit.{RecordEdit}
use Rattle.acap_entries.specs.declared.path.Path.{Path}
use Rattle.acap_inherit.specs.Chains.{chain_of}
use Rattle.acap_inherit.specs.EntryNames.{names_in}
use Rattle.acap_inherit.specs.Index.{heirs_in}
use Rattle.acap_inherit.specs.Touched.{is_change, is_written_on, ordered_among, in_order}
use Rattle.acap_inherit.specs.declared.link.Link.{Link}

-- ---- datasets

-- whether a write puts a record, or removes one that is there
abbrev pub changes : Stored → Path × RecordEdit → Bool
changes old w = is_change (Some w.1) (map.get old w.0)

-- the datasets in which that is done: one for each write that does, and each once
abbrev pub datasets_each : Written → Stored → List (List ℕ)
datasets_each written old = each (λ w. w.0.dataset) (filter (changes old) (map.entries written))

abbrev pub datasets_written : Written → Stored → List (List ℕ)
datasets_written written old = ordered_among octets_cmp (datasets_each written old) []

-- some datasets and their heirs, `more` levels of them, among others
unfoldable pub with_heirs : ℕ → List Link → List (List ℕ) → List (List ℕ) → List (List ℕ)
with_heirs zero links level others = ordered_among octets_cmp level others
with_heirs (suc more) links level others =
    with_heirs more links (flat_map (heirs_in links) level) (ordered_among octets_cmp level others)

-- those with a written one on their chains
abbrev pub datasets_reached : Written → Stored → List Link → List (List ℕ)
datasets_reached written old links = with_heirs 7 links (datasets_written written old) []

-- ---- paths

abbrev pub path_at : List ℕ → List ℕ → Path
path_at dataset name = record { dataset = dataset; name = name }

-- the paths of a dataset whose names are written in a member
-- of its chain, and those whose names have a record there
abbrev pub path_written : Stored → List ℕ → List ℕ → Path × RecordEdit → List Path
path_written old dataset member w =
    if octets_eq member w.0.dataset && changes old w then path_at dataset w.0.name ∷ [] else []

abbrev pub paths_written : Written → Stored → List ℕ → List ℕ → List Path
paths_written written old dataset member = flat_map (path_written old dataset member) (map.entries written)

abbrev pub paths_stored : Stored → List ℕ → List ℕ → List Path
paths_stored old dataset member = each (λ name. path_at dataset name) (names_in old member)

-- the former along a chain, and if all are wanted the latter too
abbrev pub paths_of_member : Written → Stored → Bool → List ℕ → List ℕ → List Path
paths_of_member written old all dataset member =
    paths_written written old dataset member ++ (if all then paths_stored old dataset member else [])

abbrev pub paths_along : Written → Stored → Bool → List ℕ → List (List ℕ) → List Path
paths_along written old all dataset chain = flat_map (paths_of_member written old all dataset) chain

-- the touched paths of a dataset that exists: where no management
-- entry of its chain is written the chain is the same afterwards
abbrev pub paths_below : Written → Stored → Stored → List ℕ → List Path
paths_below written old new dataset =
    if is_written_on written old (chain_of old dataset false) []
    then paths_along written old true dataset (chain_of old dataset false)
    ++ paths_along written old true dataset (chain_of new dataset false)
    else paths_along written old false dataset (chain_of old dataset false)

abbrev pub paths_in : Written → Stored → Stored → List ℕ → List Path
paths_in written old new dataset =
    if dataset_exists new dataset then paths_below written old new dataset else []

abbrev pub paths_found : Written → Stored → Stored → List (List ℕ) → List Path
paths_found written old new datasets = in_order (flat_map (paths_in written old new) datasets)
