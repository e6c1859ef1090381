-- Which entries may show something else after a change than before it [RFC 2244 sections 5.1 and 5.2].
use Rattle.std.specs.Prelude.{ℕ, Bool, true, false, ◌&&◌, ◌||◌, List, [], ◌∷◌, ◌++◌, map as each, Option}
use Rattle.std.specs.Prelude.{None, Some, is_some}
use Rattle.std.specs.FinMap as map
use Rattle.std.specs.List.{filter, flat_map, list_any}
use Rattle.std.specs.declared.cmp.Ordering.{Ordering}
use Rattle.std.specs.Ordering.{ordering_then}
use Rattle.std.specs.Cmp.{IsTotalOrder, then_total}
use Rattle.std.specs.Cmp.Lexicographic.{on_texts}
use Rattle.acap_entries.specs.Datasets.{dataset_exists}
use Rattle.acap_entries.specs.FullPaths.{full_path, full_path_cmp}
use Rattle.acap_entries.specs.Orders.{octets_cmp, octets_eq}
use Rattle.acap_ordmap.specs.Ranks.{with_item}
use Rattle.acap_entries.specs.Store.{Stored, Written}
use Rattle.acap_entries.specs.declared.change.RecordEdit.{RecordEdit}
use Rattle.acap_entries.specs.declared.change.RecordEdit.TheVariants.{Put, Remove}
use Rattle.acap_entries.specs.declared.path.Path.{Path}
use Rattle.acap_entries.specs.declared.record.Record.{Record}
use Rattle.acap_inherit.specs.Chains.{chain_of}
use Rattle.acap_inherit.specs.Records.{record_at}

-- whether a record is put at a path, or the one that was there
-- removed: to remove a record where there is none does neither
abbrev pub is_change : Option RecordEdit → Option Record → Bool
is_change None before = false
is_change (Some (Put entry)) before = true
is_change (Some Remove) before = is_some before

-- whether writes do one of these at a path of a store
abbrev pub is_written : Written → Stored → List ℕ → List ℕ → Bool
is_written written old dataset name =
    is_change (map.get written (record { dataset = dataset; name = name })) (record_at old dataset name)

-- whether that is so in a dataset of a chain
abbrev pub is_written_on : Written → Stored → List (List ℕ) → List ℕ → Bool
is_written_on written old chain name = list_any (λ member. is_written written old member name) chain

-- whether an entry has a record in a dataset of a chain
abbrev pub has_record_on : Stored → List (List ℕ) → List ℕ → Bool
has_record_on records chain name = list_any (λ member. is_some (record_at records member name)) chain

-- whether writes in a store change what is read of an entry along a chain, before
-- them or after: its record there is put or removed, or that of a management entry
-- of the chain is, and the entry has a record there in the store that is read
abbrev pub is_reached : Written → Stored → Stored → List (List ℕ) → List ℕ → Bool
is_reached written old records chain name =
    is_written_on written old chain name
    || (is_written_on written old chain [] && has_record_on records chain name)

-- whether a change touches a path: its dataset exists afterwards, and it is reached
-- along the chain that there was, or along the one that there is afterwards. The
-- chain is that with what is inherited, also for who asks for the dataset alone
unfoldable pub is_touched : Written → Stored → Stored → Path → Bool
is_touched written old new p =
    dataset_exists new p.dataset
    && (is_reached written old old (chain_of old p.dataset false) p.name
    || is_reached written old new (chain_of new p.dataset false) p.name)

-- the paths in question: any dataset that has a record or gets one, with any name of which that is so
abbrev pub paths_known : Written → Stored → List Path
paths_known written old = each (λ e. e.0) (map.entries old) ++ each (λ e. e.0) (map.entries written)

abbrev pub paths_across : List Path → List Path → List Path
paths_across datasets names =
    flat_map (λ d. each (λ n. record { dataset = d.dataset; name = n.name }) names) datasets

abbrev pub in_question : Written → Stored → List Path
in_question written old = paths_across (paths_known written old) (paths_known written old)

-- the order of full octets. Paths that differ have other octets,
-- if they are well formed; else their datasets tell them apart
abbrev pub by_octets : Path → Path → Ordering
by_octets a b = ordering_then (full_path_cmp a b) (octets_cmp a.dataset b.dataset)

pub octets_total : IsTotalOrder by_octets
octets_total = then_total (on_texts full_path) (on_texts (λ (p : Path). p.dataset))

-- items put in their places among some in an order, each once
abbrev pub ordered_among : {K : Type 0} → (K → K → Ordering) → List K → List K → List K
ordered_among R [] others = others
ordered_among R (x ∷ xs) others = with_item R x (ordered_among R xs others)

-- some paths in that order, each once
abbrev pub in_order : List Path → List Path
in_order paths = ordered_among by_octets paths []

-- the paths that a change touches
unfoldable pub touched_paths : Written → Stored → Stored → List Path
touched_paths written old new = in_order (filter (is_touched written old new) (in_question written old))

-- the datasets of these, each once, and of one dataset those that are in it
abbrev pub datasets_touched : Written → Stored → Stored → List (List ℕ)
datasets_touched written old new =
    ordered_among octets_cmp (each (λ p. p.dataset) (touched_paths written old new)) []

abbrev pub touched_at : Written → Stored → Stored → List ℕ → List Path
touched_at written old new dataset = filter (λ p. octets_eq dataset p.dataset) (touched_paths written old new)
