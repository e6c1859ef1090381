-- How many entries a search looks at: each counts as one step.
use Rattle.std.specs.Prelude.{◌≡◌, ◌+◌, ◌≤◌, ℕ, length, Result, Ok, Err}
use Rattle.acap_entries.specs.Store.{Store}
use Rattle.acap_search.specs.Fresh.{paths_of}
use Rattle.acap_search.specs.Scopes.{scope_of}
use Rattle.acap_search.specs.declared.query.SearchSpec.{SearchSpec}

-- over a dataset: one for each path in the scope whose name has a record on the chain of its dataset
abbrev pub paths_count : Store → SearchSpec → ℕ
paths_count store sought = length (paths_of store.records (scope_of sought))

-- how far a counter rose: by exactly `total` where something was answered, and else by at most `total`
abbrev pub IsCounted : {X F : Type 0} → Result X F → ℕ → ℕ → ℕ → Type 0
IsCounted (Ok answer) old new total = new ≡ old + total
IsCounted (Err refusal) old new total = (old ≤ new) × (new ≤ old + total)
