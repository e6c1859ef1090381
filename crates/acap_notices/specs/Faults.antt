-- Words of the contracts on faults.
use Rattle.std.specs.Prelude.{◌≡◌, Result, Err}
use Rattle.acap_notices.specs.declared.held_fault.HeldFault.{HeldFault}
use Rattle.acap_notices.specs.declared.held_fault.HeldFault.TheVariants.{Misfit}

-- a notice is refused that doesn't fit what is held
abbrev pub IsMisfit : {A : Type 0} → Result A HeldFault → Type 0
IsMisfit result = result ≡ Err Misfit
