-- Lines that are sent, one after the other.
use Rattle.std.proofs.Common.{◌≡◌, ℕ, List, ◌++◌, Result, Ok, Err, IsErr, OnErr, OnOk, ap, ◌∙◌, append_assoc}
use Rattle.std.specs.Io.KnownBytes.{Appends}
use Rattle.acap_session.specs.Streams.{HasEndedWrites, HasTaken, IfTold, SendsFront}
use Rattle.acap_session.specs.declared.output.WriteFailed.{WriteFailed}
use Rattle.acap_session.proofs.Sending.{appends_then, front_then}
use Rattle.acap_session.proofs.Writing.{ended_then, taken_then}
use Rattle.acap_calls.specs.Printing.{Prints, Sends, Writer}

pub sends_by : (line : List ℕ) (old new : Writer) (r : Result (Unit {0}) WriteFailed) → OnOk r (Appends old.contents new.contents line) → OnErr r (SendsFront old.contents new.contents line)
    → OnOk r (IfTold HasTaken old.told new.told) → OnErr r (IfTold HasEndedWrites old.told new.told) → Sends line old new r
sends_by line old new (Ok done) sent front taken failed = (sent, taken)
sends_by line old new (Err x) sent front taken failed = (front, failed)

pub sends_then : (first later : List ℕ) (old mid new : Writer) (r : Result (Unit {0}) WriteFailed) → Sends first old mid (Ok tt) → Sends later mid new r → Sends (first ++ later) old new r
sends_then first later old mid new (Ok done) h k =
    (appends_then old.contents mid.contents new.contents first later h.0 k.0, taken_then old.told mid.told new.told h.1 k.1)
sends_then first later old mid new (Err x) h k =
    (front_then old.contents mid.contents new.contents first later h.0 k.0, ended_then old.told mid.told new.told h.1 k.1)

-- the writer failed before the rest
pub sends_less : (first later : List ℕ) (old new : Writer) (x : WriteFailed) (r : Result (Unit {0}) WriteFailed) → IsErr r → Sends first old new (Err x) → Sends (first ++ later) old new r
sends_less first later old new x (Ok done) p h = absurd cc
sends_less first later old new x (Err y) p h =
    (record { front = h.0.front; rest = h.0.rest ++ later; is = ap (λ ys. ys ++ later) h.0.is ∙ append_assoc h.0.front h.0.rest later; sent = h.0.sent }, h.1)

pub prints_less : (line : List ℕ) (status : ℕ) (old new : Writer) (x : WriteFailed) (r : Result ℕ WriteFailed) → IsErr r → Sends line old new (Err x) → Prints line status old new r
prints_less line status old new x (Ok n) p h = absurd cc
prints_less line status old new x (Err y) p h = h
