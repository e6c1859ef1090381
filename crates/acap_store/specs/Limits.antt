-- What is too much for the store [RFC 2244 section 3.6].
use Rattle.std.specs.Prelude.{ℕ, List, length, Bool, false, ◌||◌, nat_lt}
use Rattle.std.specs.List.{list_any}
use Rattle.std.specs.FinMap as table
use Rattle.acap_entries.specs.Store.{Stored, Written, after_writes}
use Rattle.acap_entries.specs.declared.record.Cell.TheVariants.{Nil, Single, Multi}
use Rattle.acap_entries.specs.declared.change.RecordEdit.{RecordEdit}
use Rattle.acap_entries.specs.declared.change.RecordEdit.TheVariants as edit
use Rattle.acap_commands.specs.declared.store.Given.{Given}
use Rattle.acap_commands.specs.declared.store.Given.TheVariants.{Put, Default}
use Rattle.acap_commands.specs.declared.store.StoreEntry.{StoreEntry}

-- how many octets a string may have, strings a list, cells a record, and records the store, those of deleted
-- entries included
abbrev pub string_octets : ℕ
string_octets = 65_536

abbrev pub list_strings : ℕ
list_strings = 256

abbrev pub record_cells : ℕ
record_cells = 256

abbrev pub store_records : ℕ
store_records = 65_536

-- a string that is too long
abbrev pub is_long : List ℕ → Bool
is_long text = nat_lt string_octets (length text)

-- such a string, or too many strings
abbrev pub is_large : Given → Bool
is_large (Put Nil) = false
is_large (Put (Single value)) = is_long value
is_large (Put (Multi values)) = nat_lt list_strings (length values) || list_any is_long values
is_large Default = false

abbrev pub gives_large : List StoreEntry → Bool
gives_large entries = list_any (λ e. list_any (λ item. is_large item.given) e.items) entries

-- a record with too many cells
abbrev pub is_crowded : RecordEdit → Bool
is_crowded (edit.Put entry) = nat_lt record_cells (table.len entry.cells)
is_crowded edit.Remove = false

abbrev pub writes_crowded : Written → Bool
writes_crowded written = list_any (λ w. is_crowded w.1) (table.entries written)

-- too many records afterwards
unfoldable pub is_full_after : Stored → Written → Bool
is_full_after records written =
    nat_lt store_records (table.len (after_writes (table.entries written) records))

-- too much is given, as said, or too much is written
abbrev pub is_too_much : Stored → Bool → Written → Bool
is_too_much records is_given_large written =
    is_given_large || writes_crowded written || is_full_after records written
