-- What a wire, a desk, a source and a bell report of their past. Counts stop at the last number of 64 bits.
use Rattle.std.specs.Prelude.{ℕ, ℤ, ◌+◌, min, List, [], ◌∷◌, ◌++◌, take, Option, Some, Result, Ok, Err, Bool}
use Rattle.std.specs.Prelude.{false, true, ◌||◌, ◌==◌, if◌then◌else◌}
use Rattle.std.specs.Option.{option_map}
use Rattle.futures.specs.declared.task.Poll.{Poll}
use Rattle.futures.specs.declared.task.Poll.TheVariants.{Ready, Pending}
use Rattle.acap_commands.specs.declared.event.Event.{Event}
use Rattle.acap_commands.specs.declared.event.Fault.{Fault}
use Rattle.acap_locked.specs.Notes.{call_of}
use Rattle.acap_locked.specs.declared.call.Answer.{Answer}
use Rattle.acap_locked.specs.declared.call.Call.{Call}
use Rattle.acap_task.specs.declared.bell.Ring.{Ring}
use Rattle.acap_task.specs.declared.bell.Ring.TheVariants as ring
use Rattle.acap_task.specs.declared.wire.WireFault.{WireFault}

-- the last number of a count
abbrev pub last : ℕ
last = 18446744073709551615

-- one more, up to the last number
abbrev pub up : ℕ → ℕ
up n = min (n + 1) last

-- more at the end, where it is reported
abbrev pub adds : {A : Type 0} → Option (List A) → List A → Option (List A)
adds told more = option_map (λ xs. xs ++ more) told

-- ---- a wire

-- The octets that were read and written, where they are reported; whether the reader reported its end; how
-- often the reader and the writer failed, and how often they were not ready.
pub record WireTold : Type 0 where
  pub taken : Option (List ℕ)
  pub put : Option (List ℕ)
  pub ended : Bool
  pub read_faults : ℕ
  pub write_faults : ℕ
  pub read_waits : ℕ
  pub write_waits : ℕ

-- nothing was done yet, and all is reported
abbrev pub new_wire : WireTold
new_wire = record {
  taken = Some [];
  put = Some [];
  ended = false;
  read_faults = 0;
  write_faults = 0;
  read_waits = 0;
  write_waits = 0;
}

-- after a poll of the reader, after which the buffer holds this
abbrev pub after_read : WireTold → Poll (Result ℕ WireFault) → List ℕ → WireTold
after_read w (Ready (Ok n)) buffer =
    record w { taken = adds w.taken (take n buffer); ended = w.ended || n == 0 }
after_read w (Ready (Err fault)) buffer = record w { read_faults = up w.read_faults }
after_read w Pending buffer = record w { read_waits = up w.read_waits }

-- after a poll of the writer with these octets; a writer that takes none of them has failed
abbrev pub after_write : WireTold → Poll (Result ℕ WireFault) → List ℕ → WireTold
after_write w (Ready (Ok n)) octets = record w {
  put = adds w.put (take n octets);
  write_faults = if n == 0 then up w.write_faults else w.write_faults;
}
after_write w (Ready (Err fault)) octets = record w { write_faults = up w.write_faults }
after_write w Pending octets = record w { write_waits = up w.write_waits }

-- ---- a desk

-- the calls that were answered with replies, where they are reported, and how many were answered with a fault
pub record DeskTold : Type 0 where
  pub calls : Option (List Call)
  pub faults : ℕ

abbrev pub new_desk : DeskTold
new_desk = record { calls = Some []; faults = 0 }

-- after a call
abbrev pub after_call : DeskTold → Event → ℤ → Result Answer Fault → DeskTold
after_call d event moment (Ok answer) =
    record d { calls = adds d.calls (call_of event moment answer.reply ∷ []) }
after_call d event moment (Err fault) = record d { faults = up d.faults }

-- ---- a source

-- the moments and the nonces that it gave, where they are reported
pub record SourceTold : Type 0 where
  pub moments : Option (List ℤ)
  pub nonces : Option (List ℕ)

abbrev pub new_source : SourceTold
new_source = record { moments = Some []; nonces = Some [] }

-- after it gave a moment
abbrev pub gives_moment : SourceTold → ℤ → SourceTold
gives_moment s moment = record s { moments = adds s.moments (moment ∷ []) }

-- after it gave a nonce
abbrev pub gives_nonce : SourceTold → ℕ → SourceTold
gives_nonce s nonce = record s { nonces = adds s.nonces (nonce ∷ []) }

-- ---- a bell

-- how often it rang, where that is reported; whether it ended; how often it was not ready
pub record BellTold : Type 0 where
  pub rings : Option ℕ
  pub ended : Bool
  pub waits : ℕ

abbrev pub new_bell : BellTold
new_bell = record { rings = Some 0; ended = false; waits = 0 }

-- after a poll of it
abbrev pub after_ring : BellTold → Poll Ring → BellTold
after_ring b (Ready ring.Rung) = record b { rings = option_map up b.rings }
after_ring b (Ready ring.End) = record b { ended = true }
after_ring b Pending = record b { waits = up b.waits }
