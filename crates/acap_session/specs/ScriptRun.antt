-- What a script that is read writes, by how it ends.
use Rattle.std.specs.Prelude.{◌≡◌, ◌⊎◌, ℕ, ◌+◌, ◌<◌, ◌==◌, Bool, true, false, List, [], ◌∷◌, ◌++◌, length}
use Rattle.std.specs.Prelude.{take, slice_index, flat_map, Option, Result, Ok, Err}
use Rattle.std.specs.Io.KnownBytes.{Appends, Consumes, IsAtEnd}
use Rattle.std.specs.List.{list_any}
use Rattle.acap_session.specs.Script.{AreDone, IsDone, begins, is_wrong}
use Rattle.acap_session.specs.Streams.{HasEndedReads, HasEndedWrites, HasGiven, HasTaken, IfTold, SendsFront}
use Rattle.acap_session.specs.Streams.{ReaderTold, WriterTold}
use Rattle.acap_session.specs.declared.script.ScriptProgress.{ScriptProgress}
use Rattle.acap_session.specs.declared.script.Script.{Script}
use Rattle.acap_session.specs.declared.script_fault.ScriptFault.{ScriptFault}
use Rattle.acap_session.specs.declared.script_fault.ScriptFault.TheVariants as faults

-- ---- lines

abbrev pub is_feed : ℕ → Bool
is_feed octet = octet == 10

-- none of them has an LF
abbrev pub IsLine : List ℕ → Type 0
IsLine text = list_any is_feed text ≡ false

-- the first LF stands there
abbrev pub EndsAt : List ℕ → ℕ → Type 0
EndsAt text place = (place < length text) × (slice_index text place ≡ 10) × IsLine (take place text)

abbrev pub AreLines : List (List ℕ) → Type 0
AreLines [] = Unit {0}
AreLines (text ∷ texts) = IsLine text × AreLines texts

-- lines, each with its LF
abbrev pub lines_of : List (List ℕ) → List ℕ
lines_of texts = flat_map (λ text. text ++ 10 ∷ []) texts

-- a text in lines, and what stands after the last LF
pub record HasLines (text : List ℕ) (lines : List (List ℕ)) (rest : List ℕ) : Type 0 where
  pub is : text ≡ lines_of lines ++ rest
  pub are_lines : AreLines lines
  pub is_line : IsLine rest

-- which is a line too, if there is anything
abbrev pub with_last : List (List ℕ) → List ℕ → List (List ℕ)
with_last lines [] = lines
with_last lines (c ∷ rest) = lines ++ (c ∷ rest) ∷ []

-- ---- how it ends

-- all was read, and each line was done
pub record HasEnded (unread left old new : Option (List ℕ)) : Type 0 where
  pub read : List ℕ
  pub consumed : Consumes unread left read
  pub at_end : IsAtEnd left
  pub lines : List (List ℕ)
  pub rest : List ℕ
  pub in_lines : HasLines read lines rest
  pub written : List ℕ
  pub last : Script
  pub done : AreDone (with_last lines rest) begins written last
  pub sent : Appends old new written

-- the reader failed: the lines that had ended were done
pub record HasStopped (unread left old new : Option (List ℕ)) : Type 0 where
  pub read : List ℕ
  pub consumed : Consumes unread left read
  pub lines : List (List ℕ)
  pub rest : List ℕ
  pub in_lines : HasLines read lines rest
  pub written : List ℕ
  pub last : Script
  pub done : AreDone lines begins written last
  pub sent : Appends old new written

-- a line ends at an LF, or where all was read
abbrev pub EndsLine : Option (List ℕ) → List ℕ → Type 0
EndsLine left [] = IsAtEnd left
EndsLine left (c ∷ behind) = c ≡ 10

-- a line was wrong, and those before it were done; lines are counted from 1
pub record HasFailed (number : ℕ) (unread left old new : Option (List ℕ)) : Type 0 where
  pub read : List ℕ
  pub consumed : Consumes unread left read
  pub before : List (List ℕ)
  pub wrong : List ℕ
  pub behind : List ℕ
  pub is : read ≡ lines_of before ++ (wrong ++ behind)
  pub are_lines : AreLines before
  pub is_line : IsLine wrong
  pub ends : EndsLine left behind
  pub counted : number ≡ length before + 1
  pub written : List ℕ
  pub last : Script
  pub done : AreDone before begins written last
  pub is_wrong : is_wrong wrong last ≡ true
  pub sent : Appends old new written

-- The writer failed, or memory was refused: a prefix of the lines was done, the last one perhaps without an
-- LF, and what they say was sent so.
pub record HasBegun (unread left : Option (List ℕ)) (Sent : List ℕ → Type 0) : Type 0 where
  pub read : List ℕ
  pub consumed : Consumes unread left read
  pub lines : List (List ℕ)
  pub behind : List ℕ
  pub is : read ≡ lines_of lines ++ behind
  pub are_lines : AreLines lines
  pub texts : List (List ℕ)
  pub texts_are : (texts ≡ lines) ⊎ (IsAtEnd left × IsLine behind × (texts ≡ with_last lines behind))
  pub written : List ℕ
  pub last : Script
  pub done : AreDone texts begins written last
  pub sent : Sent written

-- By how it ended. All that the lines say is written; where the writer failed it has a prefix of that.
abbrev pub Runs : Option (List ℕ) → Option (List ℕ) → Option (List ℕ) → Option (List ℕ)
    → Result (Unit {0}) ScriptFault → Type 0
Runs unread left old new (Ok done) = HasEnded unread left old new
Runs unread left old new (Err (faults.Line n)) = HasFailed n unread left old new
Runs unread left old new (Err faults.Read) = HasStopped unread left old new
Runs unread left old new (Err faults.Write) = HasBegun unread left (SendsFront old new)
Runs unread left old new (Err faults.Memory) = HasBegun unread left (Appends old new)

-- of a reader and a writer, as they were and as they are left
abbrev pub RunsFrom : {R W : Type 0} → (R → Option (List ℕ)) → R → R → (W → Option (List ℕ)) → W → W
    → Result (Unit {0}) ScriptFault → Type 0
RunsFrom remaining unread left contents old new =
    Runs (remaining unread) (remaining left) (contents old) (contents new)

-- It answers that the reader failed only where it did, or where reads came to their bound, and where it did
-- it answers nothing else.
abbrev pub ScriptReads : Option ReaderTold → Option ReaderTold → Result (Unit {0}) ScriptFault → Type 0
ScriptReads old new (Err faults.Read) = IfTold HasEndedReads old new
ScriptReads old new other = IfTold HasGiven old new

-- It answers that the writer failed only where it did, and where it did it answers nothing else.
abbrev pub ScriptWrites : Option WriterTold → Option WriterTold → Result (Unit {0}) ScriptFault → Type 0
ScriptWrites old new (Err faults.Write) = IfTold HasEndedWrites old new
ScriptWrites old new other = IfTold HasTaken old new

-- ---- words of the contracts of its parts

-- nothing was read yet
pub record IsUnread (p : ScriptProgress) : Type 0 where
  pub script_is : p.script ≡ begins
  pub none_held : p.held.items ≡ []
  pub none_counted : p.number ≡ 0

-- a line was done, and what it says was written
pub record HasRunLine (text : List ℕ) (s t : Script) (old new : Option (List ℕ)) : Type 0 where
  pub said : List ℕ
  pub done : IsDone text s said t
  pub sent : Appends old new said

-- or a prefix of it
pub record HasPartLine (text : List ℕ) (s : Script) (old new : Option (List ℕ)) : Type 0 where
  pub said : List ℕ
  pub last : Script
  pub done : IsDone text s said last
  pub sent : SendsFront old new said

abbrev pub RunsLine : List ℕ → ℕ → Script → Script → Option (List ℕ) → Option (List ℕ)
    → Result (Unit {0}) ScriptFault → Type 0
RunsLine text number s t old new (Ok done) = HasRunLine text s t old new
RunsLine text number s t old new (Err (faults.Line n)) = (n ≡ number) × (is_wrong text s ≡ true) × (new ≡ old)
RunsLine text number s t old new (Err faults.Read) = ⊥
RunsLine text number s t old new (Err faults.Write) = HasPartLine text s old new
RunsLine text number s t old new (Err faults.Memory) = new ≡ old

abbrev pub RunsLineTo : {W : Type 0} → List ℕ → ℕ → Script → Script → (W → Option (List ℕ)) → W → W
    → Result (Unit {0}) ScriptFault → Type 0
RunsLineTo text number s t contents old new = RunsLine text number s t (contents old) (contents new)

-- what stands after the last LF was done, if there is anything
abbrev pub RunsLast : List ℕ → ℕ → Script → Script → Option (List ℕ) → Option (List ℕ)
    → Result (Unit {0}) ScriptFault → Type 0
RunsLast [] number s t old new result = (result ≡ Ok tt) × (t ≡ s) × (new ≡ old)
RunsLast (c ∷ text) number s t old new result = RunsLine (c ∷ text) number s t old new result

abbrev pub RunsLastTo : {W : Type 0} → List ℕ → ℕ → Script → Script → (W → Option (List ℕ)) → W → W
    → Result (Unit {0}) ScriptFault → Type 0
RunsLastTo text number s t contents old new = RunsLast text number s t (contents old) (contents new)

-- lines that a piece ended were done, and what they say was written
pub record HasRunLines (text rest : List ℕ) (number later : ℕ) (s t : Script) (old new : Option (List ℕ))
    : Type 0 where
  pub lines : List (List ℕ)
  pub in_lines : HasLines text lines rest
  pub counted : later ≡ number + length lines
  pub said : List ℕ
  pub done : AreDone lines s said t
  pub sent : Appends old new said

-- or one of them was wrong
pub record HasFailedIn (text : List ℕ) (number n : ℕ) (s : Script) (old new : Option (List ℕ)) : Type 0 where
  pub before : List (List ℕ)
  pub wrong : List ℕ
  pub behind : List ℕ
  pub is : text ≡ lines_of before ++ (wrong ++ 10 ∷ behind)
  pub are_lines : AreLines before
  pub is_line : IsLine wrong
  pub counted : n ≡ number + length before + 1
  pub said : List ℕ
  pub last : Script
  pub done : AreDone before s said last
  pub is_wrong : is_wrong wrong last ≡ true
  pub sent : Appends old new said

-- or some were done, and what they say was sent so
pub record HasPartLines (text : List ℕ) (s : Script) (Sent : List ℕ → Type 0) : Type 0 where
  pub lines : List (List ℕ)
  pub behind : List ℕ
  pub is : text ≡ lines_of lines ++ behind
  pub are_lines : AreLines lines
  pub said : List ℕ
  pub last : Script
  pub done : AreDone lines s said last
  pub sent : Sent said

abbrev pub RunsLines : List ℕ → List ℕ → ℕ → ℕ → Script → Script → Option (List ℕ) → Option (List ℕ)
    → Result (Unit {0}) ScriptFault → Type 0
RunsLines text rest number later s t old new (Ok done) = HasRunLines text rest number later s t old new
RunsLines text rest number later s t old new (Err (faults.Line n)) = HasFailedIn text number n s old new
RunsLines text rest number later s t old new (Err faults.Read) = ⊥
RunsLines text rest number later s t old new (Err faults.Write) = HasPartLines text s (SendsFront old new)
RunsLines text rest number later s t old new (Err faults.Memory) = HasPartLines text s (Appends old new)

-- what is held goes before the piece
abbrev pub RunsPiece : {W : Type 0} → List ℕ → ScriptProgress → ScriptProgress → (W → Option (List ℕ)) → W
    → W → Result (Unit {0}) ScriptFault → Type 0
RunsPiece piece p q contents old new =
    RunsLines
    (p.held.items ++ piece) q.held.items p.number q.number p.script q.script (contents old) (contents new)
