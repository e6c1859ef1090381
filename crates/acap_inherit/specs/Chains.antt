-- The chain of a dataset: from which datasets its entries
-- are, in their order [RFC 2244 sections 5.1 and 5.2].
use Rattle.std.specs.Prelude.{ℕ, zero, suc, Bool, List, [], ◌∷◌, Option, Some, None, codes, if◌then◌else◌}
use Rattle.std.specs.Option.{option_and_then}
use Rattle.acap_entries.specs.Store.{Stored}
use Rattle.acap_entries.specs.declared.record.Cell.{Cell}
use Rattle.acap_entries.specs.declared.record.Cell.TheVariants.{Nil, Single, Multi}
use Rattle.acap_inherit.specs.Records.{record_at, cell_in}

-- the name that a cell is; NIL and lists are none
abbrev pub name_in : Cell → Option (List ℕ)
name_in Nil = None
name_in (Single name) = Some name
name_in (Multi names) = None

-- the dataset that a dataset inherits from: what the `dataset.inherit` stored in its management entry names
abbrev pub base_at : Stored → List ℕ → Option (List ℕ)
base_at records dataset =
    option_and_then name_in
    (option_and_then (λ entry. cell_in entry (codes "dataset.inherit")) (record_at records dataset []))

-- what comes of the base, where there is one
abbrev pub onward : Option (List ℕ) → (List ℕ → List (List ℕ)) → List (List ℕ)
onward None chain = []
onward (Some base) chain = chain base

-- the dataset, then the one that it inherits from, and so on, at most `most`
unfoldable pub chain_within : ℕ → Stored → List ℕ → List (List ℕ)
chain_within zero records dataset = []
chain_within (suc most) records dataset =
    dataset ∷ onward (base_at records dataset) (chain_within most records)

-- at most eight datasets, whether they exist or come twice;
-- where nothing is to be inherited, the dataset alone
abbrev pub chain_of : Stored → List ℕ → Bool → List (List ℕ)
chain_of records dataset no_inherit = if no_inherit then dataset ∷ [] else chain_within 8 records dataset
