-- Devices that have reported nothing yet.
use Rattle.std.proofs.Common.{◌≡◌, Some, [], refl}
use Rattle.acap_serving.specs.Devices.{silent_bell, silent_source, silent_wire}
use Rattle.acap_task.specs.Kept.{IsUntold}
use Rattle.acap_task.specs.Told.{BellTold, DeskTold, SourceTold, WireTold, new_desk}

-- those of a server
pub untold : (w : WireTold) (d : DeskTold) (b : BellTold) → w ≡ silent_wire → d.calls ≡ Some [] → d.faults ≡ 0 → b ≡ silent_bell
    → IsUntold w d silent_source b
untold w d b wire calls faults bell = rw (wire, bell) (record {
  taken = tt;
  put = tt;
  ended = refl;
  read_faults = refl;
  write_faults = refl;
  calls = rw calls refl;
  faults = faults;
  moments = tt;
  nonces = tt;
  rings = tt;
})

-- those of a session that was ready before its desk and its bell were
pub untold_with : (w : WireTold) (d : DeskTold) (s : SourceTold) (b : BellTold) → IsUntold w new_desk s silent_bell → d.calls ≡ Some []
    → d.faults ≡ 0 → b ≡ silent_bell → IsUntold w d s b
untold_with w d s b told calls faults bell = rw bell (record {
  taken = told.taken;
  put = told.put;
  ended = told.ended;
  read_faults = told.read_faults;
  write_faults = told.write_faults;
  calls = rw calls refl;
  faults = faults;
  moments = told.moments;
  nonces = told.nonces;
  rings = tt;
})
