-- Examples of what devices report, by the definitions alone.
use Rattle.std.specs.Prelude.{◌≡◌, ℕ, ℤ, [], ◌∷◌, Some, Ok, Err, true}
use Rattle.futures.specs.declared.task.Poll.TheVariants.{Ready, Pending}
use Rattle.acap_commands.specs.declared.event.Event.{Event}
use Rattle.acap_commands.specs.declared.event.Fault.TheVariants as fault
use Rattle.acap_locked.specs.Notes.{call_of}
use Rattle.acap_locked.specs.declared.call.Answer.{Answer}
use Rattle.acap_task.specs.Told.{after_call, after_read, after_ring, after_write, gives_moment, gives_nonce}
use Rattle.acap_task.specs.Told.{new_bell, new_desk, new_source, new_wire, up}
use Rattle.acap_task.specs.declared.bell.Ring.TheVariants as ring
use Rattle.acap_task.specs.declared.wire.WireFault.{WireFault}

pub record ToldExamples : Type 0 where
  -- two octets are read, of a buffer of three, and then one; the reader is not ready; it reports its end
  pub reads :
      after_read (after_read (after_read (after_read new_wire
      (Ready (Ok 2)) (7 ∷ 8 ∷ 0 ∷ [])) (Ready (Ok 1)) (9 ∷ 8 ∷ 0 ∷ [])) Pending []) (Ready (Ok 0)) (9 ∷ [])
      ≡ record new_wire { taken = Some (7 ∷ 8 ∷ 9 ∷ []); ended = true; read_waits = 1 }
  -- of three octets two are written; the writer fails
  pub writes : (f : WireFault) →
      after_write (after_write new_wire (Ready (Ok 2)) (7 ∷ 8 ∷ 9 ∷ [])) (Ready (Err f)) (9 ∷ [])
      ≡ record new_wire { put = Some (7 ∷ 8 ∷ []); write_faults = 1 }
  -- a writer that takes nothing has failed
  pub stuck : after_write new_wire (Ready (Ok 0)) (7 ∷ []) ≡ record new_wire { write_faults = 1 }
  pub calls : (e : Event) (now : ℤ) (answer : Answer) →
      after_call (after_call new_desk e now (Err fault.Memory)) e now (Ok answer)
      ≡ record { calls = Some (call_of e now answer.reply ∷ []); faults = 1 }
  pub gives : (one two : ℤ) (nonce : ℕ) → gives_moment (gives_nonce (gives_moment new_source one) nonce) two
      ≡ record { moments = Some (one ∷ two ∷ []); nonces = Some (nonce ∷ []) }
  pub rings : after_ring (after_ring (after_ring new_bell (Ready ring.Rung)) Pending) (Ready ring.End)
      ≡ record { rings = Some 1; ended = true; waits = 1 }
  -- a count stops at the last number
  pub last : up 18446744073709551615 ≡ 18446744073709551615
