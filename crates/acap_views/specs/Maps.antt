-- A finite map with other values, or without some.
use Rattle.std.specs.Prelude.{Option, Some}
use Rattle.std.specs.FinMap as table
use Rattle.std.specs.List.{filter_map}
use Rattle.std.specs.Option.{option_map}
use Rattle.std.specs.declared.cmp.Ordering.{Ordering}

-- what becomes of each value stands at its key, and where nothing becomes of it nothing does
abbrev pub each_kept : {K X Y : Type 0} {R : K → K → Ordering} → (X → Option Y) → table.FinMap R X
    → table.FinMap R Y
each_kept f m = table.from_entries (filter_map (λ e. option_map (λ y. (e.0, y)) (f e.1)) (table.entries m))

abbrev pub each_value : {K X Y : Type 0} {R : K → K → Ordering} → (X → Y) → table.FinMap R X
    → table.FinMap R Y
each_value f m = each_kept (λ x. Some (f x)) m
