-- What the devices of a server report: none of what the system gives and takes, but how often that failed
-- or was not ready.
use Rattle.std.specs.Prelude.{None, false}
use Rattle.acap_task.specs.Kept.{IsUntold}
use Rattle.acap_task.specs.Told.{BellTold, SourceTold, WireTold, new_desk}

-- nothing was done yet at a wire that reports its counts alone,
abbrev pub silent_wire : WireTold
silent_wire = record {
  taken = None;
  put = None;
  ended = false;
  read_faults = 0;
  write_faults = 0;
  read_waits = 0;
  write_waits = 0;
}

-- at a bell that reports no ring,
abbrev pub silent_bell : BellTold
silent_bell = record { rings = None; ended = false; waits = 0 }

-- and at a source, whatever it gave
abbrev pub silent_source : SourceTold
silent_source = record { moments = None; nonces = None }

-- a session is ready whose wire and source have reported nothing yet, at any desk and bell that haven't
-- either
abbrev pub IsReady : WireTold → SourceTold → Type 0
IsReady wire source = IsUntold wire new_desk source silent_bell
