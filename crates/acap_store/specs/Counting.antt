-- How many records writes make, and how many they remove: the ledger of what there is afterwards.
use Rattle.std.specs.Prelude.{Bool, true, false, ◌&&◌, is_none, is_some}
use Rattle.std.specs.FinMap as table
use Rattle.acap_entries.specs.Store.{Stored}
use Rattle.acap_entries.specs.declared.change.RecordEdit.{RecordEdit}
use Rattle.acap_entries.specs.declared.change.RecordEdit.TheVariants as edit
use Rattle.acap_entries.specs.declared.path.Path.{Path}

abbrev pub is_put : RecordEdit → Bool
is_put (edit.Put entry) = true
is_put edit.Remove = false

abbrev pub is_removal : RecordEdit → Bool
is_removal (edit.Put entry) = false
is_removal edit.Remove = true

-- a record where there was none
abbrev pub is_new : Stored → Path × RecordEdit → Bool
is_new records w = is_put w.1 && is_none (table.get records w.0)

-- the removal of one that there was
abbrev pub is_gone : Stored → Path × RecordEdit → Bool
is_gone records w = is_removal w.1 && is_some (table.get records w.0)
