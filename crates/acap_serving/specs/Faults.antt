-- Which faults of a server the faults below it are.
use Rattle.std.specs.Prelude.{◌≡◌, ◌⊎◌}
use Rattle.acap_locked.specs.declared.close_fault.CloseFault.{CloseFault}
use Rattle.acap_locked.specs.declared.close_fault.CloseFault.TheVariants as closing
use Rattle.acap_settings.specs.declared.fault.SettingsFault.{SettingsFault}
use Rattle.acap_settings.specs.declared.fault.SettingsFault.TheVariants as reading
use Rattle.acap_serving.specs.declared.sessions.RunFault.{RunFault}
use Rattle.acap_serving.specs.declared.sessions.RunFault.TheVariants.{TooManySessions}
use Rattle.acap_serving.specs.declared.fault.ServeFault.{ServeFault}
use Rattle.acap_serving.specs.declared.fault.ServeFault.TheVariants as fault

abbrev pub of_settings : SettingsFault → ServeFault
of_settings reading.NotToml = fault.Settings
of_settings (reading.BadKey name) = fault.Settings
of_settings reading.Memory = fault.Memory

abbrev pub of_close : CloseFault → ServeFault
of_close (closing.PassMissing seat) = fault.Unequal
of_close (closing.Unequal seat) = fault.Unequal
of_close closing.Memory = fault.Memory

-- those of a file that can't be read,
abbrev pub IsOfReading : ServeFault → Type 0
IsOfReading f = (f ≡ fault.Read) ⊎ (f ≡ fault.Memory)

-- of a socket that doesn't listen,
abbrev pub IsOfListening : ServeFault → Type 0
IsOfListening f = (f ≡ fault.Listen) ⊎ (f ≡ fault.Memory)

-- and of a settings file with its start file
abbrev pub IsOfSetup : ServeFault → Type 0
IsOfSetup f = (f ≡ fault.Read) ⊎ (f ≡ fault.Settings) ⊎ (f ≡ fault.Memory)

-- what holds where there are more sessions than passes
abbrev pub IfTooMany : RunFault → Type 0 → Type 0
IfTooMany f P = (f ≡ TooManySessions) → P
