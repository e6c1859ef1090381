-- Keys that can hold for entries of one name only [RFC 2244 section 6.4.1].
use Rattle.std.specs.Prelude.{◌≡◌, ℕ, true, ◌&&◌, List, Option, Some, None, codes, if◌then◌else◌}
use Rattle.acap_entries.specs.Orders.{octets_eq}
use Rattle.acap_commands.specs.Wanted.{Wanted, One, And, Or, Not}
use Rattle.acap_commands.specs.declared.test.Test.{Test}
use Rattle.acap_commands.specs.declared.test.Test.TheVariants as test
use Rattle.acap_search.specs.Keys.{holds, is_equal, is_octet}
use Rattle.acap_search.specs.Views.{View, answers_of, spot_in}

-- the first of two, if there is one
abbrev pub first_of : Option (List ℕ) → Option (List ℕ) → Option (List ℕ)
first_of None other = other
first_of (Some name) other = Some name

-- EQUAL on `entry` by octets, whatever the sign: the string
abbrev pub name_in : Test → Option (List ℕ)
name_in test.All = None
name_in (test.IsNil attribute comparator) = None
name_in (test.Meets rel attribute comparator wanted) =
    if (is_equal rel && is_octet comparator.collation) && octets_eq attribute (codes "entry") then Some wanted
    else None
name_in (test.Range first last since) = None

-- a name that each entry which the key wants has, if the key gives
-- one: that of the first such test, alone or among keys joined by AND
abbrev pub only_name : Wanted → Option (List ℕ)
only_name (One t) = name_in t
only_name (And a b) = first_of (only_name a) (only_name b)
only_name (Or a b) = None
only_name (Not a) = None

-- an entry that such a key wants has that name, whoever looks
abbrev pub NameLaw : Type 0
NameLaw = (view : View) (key : Wanted) (place : Option ℕ) (name other : List ℕ) → only_name key ≡ Some other
    → holds key place (answers_of (spot_in view name)) ≡ true → name ≡ other
