-- A list that is followed: the SEARCH that makes it, and its rows and changes as lines that are printed
-- [RFC 2244 sections 3.3, 6.4.1 and 6.5].
use Rattle.std.specs.Prelude.{ℕ, nat_le, Bool, true, List, [], ◌∷◌, ◌++◌, codes, decimal, flat_map}
use Rattle.std.specs.Prelude.{Option, Some, None, option_map, if◌then◌else◌}
use Rattle.acap_commands.specs.Wanted.{Not}
use Rattle.acap_commands.specs.declared.command.Command.{Command}
use Rattle.acap_commands.specs.declared.search_modifiers.MakeContext.{MakeContext}
use Rattle.acap_commands.specs.declared.search_modifiers.SearchModifiers.{SearchModifiers}
use Rattle.acap_commands.specs.declared.search_modifiers.SortItem.{SortItem}
use Rattle.acap_grammar.specs.Lines.{Datum, Line, AddTo, RemoveFrom, Change}
use Rattle.acap_shell.specs.Escapes.{printed_by}
use Rattle.acap_shell.specs.Rows.{cell, values}
use Rattle.acap_shell.specs.Searches.{entry, is_named, octet, search, value_of}
use Rattle.acap_shell.specs.declared.form.Form.{Form}

abbrev pub sorted_by : List ℕ → List SortItem
sorted_by attribute = record { attribute = attribute; comparator = octet } ∷ []

-- a list with positions, which follows the store
abbrev pub followed : List ℕ → MakeContext
followed context = record { enumerate = true; notify = true; name = context }

abbrev pub attribute_or_name : Option (List ℕ) → List ℕ
attribute_or_name (Some attribute) = attribute
attribute_or_name None = entry

abbrev pub modifiers : List ℕ → Option (List ℕ) → Option (List ℕ) → SearchModifiers
modifiers context attribute sort =
    record (value_of (attribute_or_name attribute))
    { make_context = Some (followed context); sort = option_map sorted_by sort }

abbrev pub watch : List ℕ → List ℕ → Option (List ℕ) → Option (List ℕ) → Command
watch dataset context attribute sort =
    search dataset (modifiers context attribute sort) (Not (is_named []))

-- an entry, and its values if they are wanted
abbrev pub cells : Form → Bool → List Datum → List ℕ
cells form wanted items = if wanted then flat_map (cell form) (values items) else []

abbrev pub row : Form → Bool → List ℕ → List Datum → List ℕ
row form wanted entry items = printed_by form entry ++ cells form wanted items ++ codes "\n"

-- a position, which is less than 2^32 in a list that fits memory, and a TAB
abbrev pub position : ℕ → List ℕ
position n = (if nat_le n 4294967295 then decimal n else codes "?") ++ codes "\t"

abbrev pub change : Form → Bool → Line → List ℕ
change form wanted (AddTo context entry at items) = codes "+\t" ++ position at ++ row form wanted entry items
change form wanted (RemoveFrom context entry at) =
    codes "-\t" ++ position at ++ printed_by form entry ++ codes "\n"
change form wanted (Change context entry old new items) =
    codes "=\t" ++ position old ++ position new ++ row form wanted entry items
change form wanted _ = []
