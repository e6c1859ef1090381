-- Words that ask for entries, as a SEARCH [RFC 2244 section 6.4.1].
use Rattle.std.specs.Prelude.{ℕ, List, [], ◌∷◌, codes, Option, Some, None}
use Rattle.acap_order.specs.declared.comparator.Collation.TheVariants as collation
use Rattle.acap_order.specs.declared.comparator.Comparator.{Comparator}
use Rattle.acap_order.specs.declared.comparator.Direction.TheVariants as direction
use Rattle.acap_commands.specs.Modifiers.{no_modifiers}
use Rattle.acap_commands.specs.Wanted.{Wanted, One, Not}
use Rattle.acap_commands.specs.declared.command.Command.{Command}
use Rattle.acap_commands.specs.declared.command.Command.TheVariants as command
use Rattle.acap_commands.specs.declared.returns.Metadata.{Metadata}
use Rattle.acap_commands.specs.declared.returns.Metadata.TheVariants as metadata
use Rattle.acap_commands.specs.declared.test.Relation.TheVariants as relation
use Rattle.acap_commands.specs.declared.returns.ReturnName.{ReturnName}
use Rattle.acap_commands.specs.declared.returns.ReturnName.TheVariants as name
use Rattle.acap_commands.specs.declared.search_modifiers.SearchModifiers.{SearchModifiers}
use Rattle.acap_commands.specs.declared.target.Target.TheVariants as target
use Rattle.acap_commands.specs.declared.test.Test.TheVariants as test

abbrev pub octet : Comparator
octet = record { collation = collation.Octet; direction = direction.Ascending }

-- the attribute whose value is the name of its entry
abbrev pub entry : List ℕ
entry = codes "entry"

abbrev pub equals : List ℕ → List ℕ → Wanted
equals attribute value = One (test.Meets relation.Equal attribute octet value)

abbrev pub is_named : List ℕ → Wanted
is_named name = equals entry name

-- one item of RETURN
abbrev pub returning : ReturnName → List Metadata → SearchModifiers
returning name metadata =
    record no_modifiers { returns = Some (record { name = name; metadata = metadata } ∷ []) }

abbrev pub value_of : List ℕ → SearchModifiers
value_of attribute = returning (name.Named attribute) (metadata.Value ∷ [])

-- the name and the value of each attribute
abbrev pub all_values : SearchModifiers
all_values = returning (name.Beginning []) (metadata.Attribute ∷ metadata.Value ∷ [])

abbrev pub search : List ℕ → SearchModifiers → Wanted → Command
search dataset modifiers key =
    command.Search (record { target = target.Dataset dataset; modifiers = modifiers; key = key })

abbrev pub wanted_values : Option (List ℕ) → SearchModifiers
wanted_values (Some attribute) = value_of attribute
wanted_values None = all_values

abbrev pub wanted_entries : Option (List ℕ) → Wanted
wanted_entries (Some name) = is_named name
wanted_entries None = One test.All

-- the values of a dataset, of one entry of it, or of one attribute of that
abbrev pub get : List ℕ → Option (List ℕ) → Option (List ℕ) → Command
get dataset entry attribute = search dataset (wanted_values attribute) (wanted_entries entry)

-- the names of the entries of a dataset, but not of its management entry
abbrev pub list : List ℕ → Option ℕ → Command
list dataset depth = search dataset (record (value_of entry) { depth = depth }) (Not (is_named []))

-- the names of the entries in which an attribute has a value
abbrev pub find : List ℕ → List ℕ → List ℕ → Command
find dataset attribute value = search dataset (value_of entry) (equals attribute value)
