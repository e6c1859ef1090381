-- Chains, and an entry over a base, computed from the definitions alone [RFC 2244 sections 5.1 and 5.2].
use Rattle.std.specs.Prelude.{◌≡◌, ℕ, ◌+◌, pos, Bool, true, false, List, [], ◌∷◌, Option, Some, None, codes}
use Rattle.std.specs.FinMap as map
use Rattle.acap_entries.specs.Orders.{octets_cmp}
use Rattle.acap_entries.specs.Store.{Stored}
use Rattle.acap_entries.specs.declared.record.Cell.{Cell}
use Rattle.acap_entries.specs.declared.record.Cell.TheVariants.{Nil, Single, Multi}
use Rattle.acap_entries.specs.declared.record.Record.{Record}
use Rattle.acap_inherit.specs.Chains.{chain_of}
use Rattle.acap_inherit.specs.Records.{record_at}
use Rattle.acap_inherit.specs.Resolving.{Resolution, lookup, modtime_of}

-- a record: whether it is present, whether inheritance ends at it, its cells, its moment
abbrev pub record_with : Bool → Bool → map.FinMap octets_cmp Cell → ℕ → Record
record_with present ends cells moment =
    record {
      present = present;
      blocks_inheritance = ends;
      cells = cells;
      acls = map.empty;
      modtime = pos moment;
    }

abbrev pub no_cells : map.FinMap octets_cmp Cell
no_cells = map.empty

abbrev pub one_cell : List ℕ → Cell → map.FinMap octets_cmp Cell
one_cell attribute cell = map.insert map.empty attribute cell

-- ---- chains

-- the management entry with that as its `dataset.inherit`, whose other part doesn't matter
abbrev pub inherits : Cell → Record
inherits cell = record_with true false (one_cell (codes "dataset.inherit") cell) 0

abbrev pub management_of : Stored → List ℕ → Option Record
management_of records dataset = record_at records dataset []

abbrev pub a : List ℕ
a = codes "/a/"

abbrev pub b : List ℕ
b = codes "/b/"

pub record ChainExamples : Type 0 where
  -- a base that is its own base, and two that name each other
  pub own_base : (records : Stored) → management_of records a ≡ Some (inherits (Single a))
      → chain_of records a false ≡ a ∷ a ∷ a ∷ a ∷ a ∷ a ∷ a ∷ a ∷ []
  pub each_other : (records : Stored) → management_of records a ≡ Some (inherits (Single b))
      → management_of records b ≡ Some (inherits (Single a))
      → chain_of records a false ≡ a ∷ b ∷ a ∷ b ∷ a ∷ b ∷ a ∷ b ∷ []
  -- of many in a row the first eight
  pub in_a_row : (records : Stored) (c : ℕ → List ℕ)
      → ((i : ℕ) → management_of records (c i) ≡ Some (inherits (Single (c (i + 1)))))
      → chain_of records (c 0) false ≡ c 0 ∷ c 1 ∷ c 2 ∷ c 3 ∷ c 4 ∷ c 5 ∷ c 6 ∷ c 7 ∷ []
  -- a base that doesn't exist ends the chain, and so does a dataset that names none: without a management
  -- entry, with a deleted one, with one that has no `dataset.inherit`, NIL there or a list
  pub missing_base : (records : Stored) → management_of records a ≡ Some (inherits (Single b))
      → management_of records b ≡ None → chain_of records a false ≡ a ∷ b ∷ []
  pub no_entry : (records : Stored) → management_of records a ≡ None → chain_of records a false ≡ a ∷ []
  pub deleted_entry : (records : Stored) → management_of records a ≡ Some (record_with false true no_cells 0)
      → chain_of records a false ≡ a ∷ []
  pub no_cell : (records : Stored) → management_of records a ≡ Some (record_with true false no_cells 0)
      → chain_of records a false ≡ a ∷ []
  pub nil : (records : Stored) → management_of records a ≡ Some (inherits Nil)
      → chain_of records a false ≡ a ∷ []
  pub texts : (records : Stored) → management_of records a ≡ Some (inherits (Multi (b ∷ [])))
      → chain_of records a false ≡ a ∷ []
  -- where nothing is to be inherited
  pub alone : (records : Stored) → chain_of records a true ≡ a ∷ []

-- ---- an entry over a base

abbrev pub e : List ℕ
e = codes "e"

abbrev pub value : List ℕ
value = codes "option.value"

-- a store in which the entry has a value in the dataset b
-- since the moment 0, and in the dataset a that record or none
pub record IsOver (records : Stored) (stored : Option Record) : Type 0 where
  pub own : record_at records a e ≡ stored
  pub base : record_at records b e ≡ Some (record_with true false (one_cell value (Single (codes "1"))) 0)

-- what the entry shows in the dataset a, whose base is b: its value, its name and its moment
pub record Shows (records : Stored) (shown : Resolution) (name : Resolution) (last : ℕ) : Type 0 where
  pub cell : lookup records (a ∷ b ∷ []) e value ≡ shown
  pub entry : lookup records (a ∷ b ∷ []) e (codes "entry") ≡ name
  pub moment : modtime_of records (a ∷ b ∷ []) e ≡ Some (pos last)

abbrev pub at_place : Cell → List ℕ → Resolution
at_place cell dataset = Some (cell, dataset)

pub record OverBaseExamples : Type 0 where
  pub nothing_stored : (records : Stored) → IsOver records None
      → Shows records (at_place (Single (codes "1")) b) (at_place (Single e) b) 0
  pub nil_stored : (records : Stored) → IsOver records (Some (record_with true false (one_cell value Nil) 1))
      → Shows records None (at_place (Single e) a) 1
  pub default_stored : (records : Stored) → IsOver records (Some (record_with true false no_cells 2))
      → Shows records (at_place (Single (codes "1")) b) (at_place (Single e) a) 2
  pub deleted : (records : Stored) → IsOver records (Some (record_with false true no_cells 3))
      → Shows records None None 3
  pub stored_again : (records : Stored)
      → IsOver records (Some (record_with true true (one_cell (codes "option.k") (Single (codes "2"))) 4))
      → Shows records None (at_place (Single e) a) 4
  pub list_stored : (records : Stored)
      → IsOver records (Some (record_with true false (one_cell value (Multi [])) 5))
      → Shows records (at_place (Multi []) a) (at_place (Single e) a) 5
  -- a record that is neither present nor ends inheritance passes on, whatever cells it has
  pub not_present : (records : Stored)
      → IsOver records (Some (record_with false false (one_cell value (Single (codes "9"))) 6))
      → Shows records (at_place (Single (codes "1")) b) None 6

-- the moments of three records, of which one or none ends inheritance
pub record MomentExamples : Type 0 where
  pub latest_first : (records : Stored) → record_at records a e ≡ Some (record_with true false no_cells 7)
      → record_at records b e ≡ Some (record_with true false no_cells 5)
      → modtime_of records (a ∷ b ∷ []) e ≡ Some (pos 7)
  pub latest_beyond : (records : Stored) → record_at records a e ≡ Some (record_with true false no_cells 5)
      → record_at records b e ≡ Some (record_with true false no_cells 7)
      → modtime_of records (a ∷ b ∷ []) e ≡ Some (pos 7)
  pub ended : (records : Stored) → record_at records a e ≡ Some (record_with true true no_cells 5)
      → modtime_of records (a ∷ b ∷ []) e ≡ Some (pos 5)
  pub ended_later : (records : Stored) → record_at records a e ≡ Some (record_with true false no_cells 5)
      → record_at records b e ≡ Some (record_with false true no_cells 7)
      → modtime_of records (a ∷ b ∷ codes "/c/" ∷ []) e ≡ Some (pos 7)
  pub skipped : (records : Stored) → record_at records a e ≡ None
      → record_at records b e ≡ Some (record_with true false no_cells 7)
      → modtime_of records (a ∷ b ∷ []) e ≡ Some (pos 7)
