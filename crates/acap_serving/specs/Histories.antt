-- What a server begins with, and what it reports at its end.
use Rattle.std.specs.Prelude.{◌≡◌, ◌<◌, ◌+◌, ℕ, List, length, sum}
use Rattle.std.specs.declared.sync.ledger.Blank.{Blank}
use Rattle.acap_locked.specs.Closing.{IsReport}
use Rattle.acap_locked.specs.History.{IsLegal}
use Rattle.acap_locked.specs.Passes.{calls_of}
use Rattle.acap_locked.specs.Shelf.{Shelf}
use Rattle.acap_locked.specs.declared.item.PassContents.{PassContents}
use Rattle.acap_locked.specs.declared.report.Report.{Report}
use Rattle.acap_machine.specs.Machine.{Machine, new_machine}
use Rattle.acap_settings.specs.declared.settings.Settings.{Settings}

-- The machine that a server begins with.
abbrev pub first_machine : Settings → Machine
first_machine settings =
    new_machine (record { administrators = settings.administrators; groups = settings.groups })

-- Of these two blanks a site of 64 seats with that machine can be made, and a ledger for the steps of its
-- searches.
abbrev pub IsBlankFor : ℕ → ℕ → Machine → ℕ → ℕ → Blank → Machine → Blank → Type 0
IsBlankFor name parts base counter_name counter_parts blank machine counter =
    (blank.name ≡ name) × (blank.parts ≡ parts) × (blank.parts ≡ 64) × (machine ≡ base)
    × (counter.name ≡ counter_name) × (counter.parts ≡ counter_parts) × (0 < counter_parts)

-- A book that began with this machine, whose history is legal. Its 64 passes hold exactly the calls of their
-- seats, and each call that was ever made is one of the history or is counted among those before it.
pub record IsReported (first : Machine) (report : Report) : Type 0 where
  pub passes : List PassContents
  pub shelf : Shelf
  pub legal : IsLegal first shelf
  pub is : IsReport passes shelf report
  pub number : length passes ≡ 64
  pub counted : calls_of passes ≡ sum shelf.retired + length shelf.history
