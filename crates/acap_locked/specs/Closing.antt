-- What is reported when a book is closed.
use Rattle.std.specs.Prelude.{◌≡◌, List, map, Result, Ok, Err}
use Rattle.acap_locked.specs.declared.close_fault.CloseFault.{CloseFault}
use Rattle.acap_locked.specs.declared.close_fault.CloseFault.TheVariants as fault
use Rattle.acap_locked.specs.declared.item.PassContents.{PassContents}
use Rattle.acap_locked.specs.declared.report.Report.{Report}
use Rattle.acap_locked.specs.Epochs.{held_in}
use Rattle.acap_locked.specs.Passes.{HereBelow, IsMissing, SameBelow, IsUnequal}
use Rattle.acap_locked.specs.Shelf.{Shelf}

-- all 64 seats have a pass, and each pass its seat's calls
pub record IsWhole (passes : List PassContents) (shelf : Shelf) : Type 0 where
  pub here : HereBelow passes 64
  pub same : SameBelow passes shelf.epoch shelf.history shelf.retired 64

-- then the report has what the book has, and what each pass holds in its epoch
pub record IsReport (passes : List PassContents) (shelf : Shelf) (report : Report) : Type 0 where
  pub whole : IsWhole passes shelf
  pub epoch : report.epoch ≡ shelf.epoch
  pub base : report.base.value.machine ≡ shelf.base
  pub history : report.history ≡ shelf.history
  pub retired : report.retired ≡ shelf.retired
  pub passes_are : report.passes ≡ map (held_in shelf.epoch) passes

-- else the least seat without a pass; else the least whose pass differs; or memory was refused for the report
abbrev pub IsClosed : List PassContents → Shelf → Result Report CloseFault → Type 0
IsClosed passes shelf (Ok report) = IsReport passes shelf report
IsClosed passes shelf (Err (fault.PassMissing seat)) = IsMissing passes seat
IsClosed passes shelf (Err (fault.Unequal seat)) =
    HereBelow passes 64 × IsUnequal passes shelf.epoch shelf.history shelf.retired seat
IsClosed passes shelf (Err fault.Memory) = IsWhole passes shelf

-- before the report is made
abbrev pub IsCompared : List PassContents → Shelf → Result (Unit {0}) CloseFault → Type 0
IsCompared passes shelf (Ok same) = IsWhole passes shelf
IsCompared passes shelf (Err fault) = IsClosed passes shelf (Err fault)
