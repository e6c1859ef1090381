-- What is known of standard input, output and error, and what it is to print a line.
use Rattle.std.specs.Prelude.{◌≡◌, ℕ, List, Option, Result, Ok, Err}
use Rattle.std.specs.Io.KnownBytes.{Appends}
use Rattle.acap_session.specs.Streams.{HasEndedWrites, HasTaken, IfTold, ReaderTold, SendsFront, WriterTold}
use Rattle.acap_session.specs.declared.output.WriteFailed.{WriteFailed}

-- the octets that reads will give, and how often it was asked and failed, each where it is known
pub record Reader : Type 0 where
  pub remaining : Option (List ℕ)
  pub told : Option ReaderTold

-- the octets that it has, and how often it was asked and failed
pub record Writer : Type 0 where
  pub contents : Option (List ℕ)
  pub told : Option WriterTold

abbrev pub reader_of : {R : Type 0} → (R → Option (List ℕ)) → (R → Option ReaderTold) → R → Reader
reader_of remaining told r = record { remaining = remaining r; told = told r }

abbrev pub writer_of : {W : Type 0} → (W → Option (List ℕ)) → (W → Option WriterTold) → W → Writer
writer_of contents told w = record { contents = contents w; told = told w }

-- standard input, standard output and standard error
pub record Streams : Type 0 where
  pub input : Reader
  pub output : Writer
  pub errors : Writer

abbrev pub streams : Reader → Writer → Writer → Streams
streams input output errors = record { input = input; output = output; errors = errors }

-- a line is sent, and no write failed; or a prefix of it, and one did
abbrev pub Sends : List ℕ → Writer → Writer → Result (Unit {0}) WriteFailed → Type 0
Sends line old new (Ok done) = Appends old.contents new.contents line × IfTold HasTaken old.told new.told
Sends line old new (Err failed) =
    SendsFront old.contents new.contents line × IfTold HasEndedWrites old.told new.told

-- and that ends with a status
abbrev pub Prints : List ℕ → ℕ → Writer → Writer → Result ℕ WriteFailed → Type 0
Prints line status old new (Ok n) = (n ≡ status) × Sends line old new (Ok tt)
Prints line status old new (Err failed) = Sends line old new (Err failed)

-- the same of a writer, as it was and as it is left
abbrev pub SendsTo : {W : Type 0} → (W → Option (List ℕ)) → (W → Option WriterTold) →
    List ℕ → W → W → Result (Unit {0}) WriteFailed → Type 0
SendsTo contents told line old new result =
    Sends line (writer_of contents told old) (writer_of contents told new) result

abbrev pub PrintsTo : {W : Type 0} → (W → Option (List ℕ)) → (W → Option WriterTold) →
    List ℕ → ℕ → W → W → Result ℕ WriteFailed → Type 0
PrintsTo contents told line status old new result =
    Prints line status (writer_of contents told old) (writer_of contents told new) result
