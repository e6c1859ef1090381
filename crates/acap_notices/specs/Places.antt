-- Where an entry is found among rows whose order is nobody's concern.
use Rattle.std.specs.Prelude.{ℕ, List}
use Rattle.std.specs.List.{position_or_len}
use Rattle.acap_entries.specs.Orders.{octets_eq}
use Rattle.acap_entries.specs.declared.row.Row.{Row}

-- how many rows stand before the entry's, or in all where it isn't held
abbrev pub place_of : List ℕ → List Row → ℕ
place_of entry rows = position_or_len (λ row. octets_eq entry row.name) rows
