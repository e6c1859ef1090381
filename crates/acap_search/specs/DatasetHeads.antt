-- What is at hand of a dataset: words of private contracts.
use Rattle.std.specs.Prelude.{◌≡◌, List, [], ℕ, Option}
use Rattle.std.specs.Option.{option_copied}
use Rattle.acap_entries.specs.Store.{Stored}
use Rattle.acap_entries.specs.declared.record.Record.{Record}
use Rattle.acap_inherit.specs.Records.{record_at}
use Rattle.acap_search.specs.declared.dataset_head.DatasetHead.{DatasetHead}

-- its management entry, if it has one
abbrev pub IsFront : Stored → DatasetHead → Type 0
IsFront records front = option_copied front.management ≡ record_at records front.dataset.now []

-- and what it has of the entry of a name
abbrev pub IsAtHand : Stored → DatasetHead → List ℕ → Option Record → Type 0
IsAtHand records front name entry = IsFront records front × (entry ≡ record_at records front.dataset.now name)
