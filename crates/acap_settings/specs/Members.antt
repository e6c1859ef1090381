-- Members of a table, as octets and data.
use Rattle.std.specs.Prelude.{ℕ, Bool, List, Option, String, codes, string_bytes}
use Rattle.std.specs.List.{list_all}
use Rattle.std.specs.BTreeMap.{BTreeMap}
use Rattle.std.specs.declared.alloc.Global.{Global}
use Rattle.std.specs.Borrow.{Bor}
use Rattle.toml.specs.Data.{Data, get_member}
use Rattle.toml.specs.View.{table_view, view}
use Rattle.toml.specs.declared.value.Value.{Value}

-- what stands at a key
abbrev pub member_at : List ℕ → BTreeMap (String Global) Value → Option Data
member_at key settings = get_member key (table_view settings)

abbrev pub administrators_in : BTreeMap (String Global) Value → Option Data
administrators_in settings = member_at (codes "administrators") settings

-- whether each key passes with what stands there
abbrev pub all_entries : (List ℕ → Data → Bool) → BTreeMap (String Global) Value → Bool
all_entries passes settings =
    list_all (λ entry. passes (string_bytes entry.0) (view entry.1)) settings.entries

-- a member that is lent: what it is, and its octets and data
abbrev pub member_of : Bor (String Global) × Bor Value → String Global × Value
member_of pair = (pair.0.now, pair.1.now)

abbrev pub octets_and_data : Bor (String Global) × Bor Value → List ℕ × Data
octets_and_data pair = (string_bytes pair.0.now, view pair.1.now)
