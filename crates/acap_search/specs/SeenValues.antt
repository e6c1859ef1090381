-- What is lent of an attribute, as the value that it is.
use Rattle.std.specs.Prelude.{Option, Some, None, if◌then◌else◌}
use Rattle.acap_entries.specs.declared.record.Cell.{Cell}
use Rattle.acap_entries.specs.declared.record.Cell.TheVariants.{Nil}
use Rattle.acap_inherit.specs.Values as lent
use Rattle.acap_inherit.specs.declared.lent.Lent.{Lent}
use Rattle.acap_search.specs.declared.values.SeenValue.{SeenValue}

-- nothing is NIL
abbrev pub cell_of : Option Lent → Cell
cell_of None = Nil
cell_of (Some value) = lent.cell_of value

-- what may be read of what is there, and what may be tested
abbrev pub read_of : SeenValue → Cell
read_of shown = if shown.is_readable then cell_of shown.value else Nil

abbrev pub test_of : SeenValue → Cell
test_of shown = if shown.is_testable then cell_of shown.value else Nil
