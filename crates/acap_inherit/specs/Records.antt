-- What is kept of an entry in one dataset, and what that shows [RFC 2244 sections 3.1 and 5.1].
use Rattle.std.specs.Prelude.{ℕ, Bool, List, Option, None, if◌then◌else◌}
use Rattle.std.specs.FinMap as map
use Rattle.acap_entries.specs.Store.{Stored}
use Rattle.acap_entries.specs.declared.record.Cell.{Cell}
use Rattle.acap_entries.specs.declared.record.Record.{Record}

abbrev pub record_at : Stored → List ℕ → List ℕ → Option Record
record_at records dataset name = map.get records (record { dataset = dataset; name = name })

-- what a record has for an attribute: that of a deleted entry has nothing
abbrev pub cell_in : Record → List ℕ → Option Cell
cell_in entry attribute = if entry.present then map.get entry.cells attribute else None

-- whether nothing is inherited from beyond the record
abbrev pub ends_inheritance : Record → Bool
ends_inheritance entry = entry.blocks_inheritance
