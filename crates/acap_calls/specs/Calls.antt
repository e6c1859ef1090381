-- What the words after the program's name ask for, what is
-- done then, and with which status and line that ends.
use Rattle.std.specs.Prelude.{◌≡◌, ℕ, List, [], ◌∷◌, map, string_bytes, Bool, true, false, ◌&&◌, codes}
use Rattle.std.specs.Prelude.{Option, Some, None, Result, Ok, Err}
use Rattle.std.specs.declared.alloc.Global.{Global}
use Rattle.std.specs.declared.io.ErrorKind.{ErrorKind}
use Rattle.std.specs.declared.io.ErrorKind.TheVariants as kind
use Rattle.std.specs.declared.string.String.{String}
use Rattle.std.specs.declared.vec.Vec.{Vec}
use Rattle.acap_entries.specs.Names.{is_user_name}
use Rattle.acap_entries.specs.Orders.{octets_eq}
use Rattle.acap_session.specs.Piping.{PipeReads, PipeWrites, Pipes}
use Rattle.acap_session.specs.ScriptRun.{Runs, ScriptReads, ScriptWrites}
use Rattle.acap_session.specs.Streams.{WriterTold}
use Rattle.acap_session.specs.declared.output.WriteFailed.{WriteFailed}
use Rattle.acap_session.specs.declared.pipe_fault.PipeFault.{PipeFault}
use Rattle.acap_session.specs.declared.script_fault.ScriptFault.{ScriptFault}
use Rattle.acap_serving.specs.declared.fault.ServeFault.{ServeFault}
use Rattle.acap_calls.specs.Faults.{line_of, of_pipe, of_script, of_server, usage}
use Rattle.acap_calls.specs.Printing.{Prints, Streams, Writer, writer_of}
use Rattle.acap_calls.specs.declared.call.Call.{Call}
use Rattle.acap_calls.specs.declared.call.Call.TheVariants as call
use Rattle.acap_calls.specs.declared.fault.Fault.{Fault}
use Rattle.acap_calls.specs.declared.fault.Fault.TheVariants as fault

-- ---- what is asked for

-- `pipe USER` of a user that has a name
abbrev pub is_pipe : List (List ℕ) → Bool
is_pipe (verb ∷ user ∷ []) = octets_eq verb (codes "pipe") && is_user_name user
is_pipe _ = false

-- `script` alone
abbrev pub is_script : List (List ℕ) → Bool
is_script (verb ∷ []) = octets_eq verb (codes "script")
is_script _ = false

-- `serve FILE`
abbrev pub is_serve : List (List ℕ) → Bool
is_serve (verb ∷ file ∷ []) = octets_eq verb (codes "serve")
is_serve _ = false

-- a session of that user, a script, a server with that file,
-- nothing where the words are no such call, or memory was refused
abbrev pub IsCall : List (List ℕ) → Call → Type 0
IsCall words call.Nothing = (is_pipe words ≡ false) × (is_script words ≡ false) × (is_serve words ≡ false)
IsCall words call.Script = words ≡ codes "script" ∷ []
IsCall words (call.Pipe user) = (words ≡ codes "pipe" ∷ user ∷ []) × (is_user_name user ≡ true)
IsCall words (call.Serve file) = words ≡ codes "serve" ∷ string_bytes file ∷ []
IsCall words (call.Refused f) = f ≡ fault.Memory

-- words that can't be read ask for nothing, but where memory is refused
abbrev pub IsUnread : ErrorKind → Call → Type 0
IsUnread kind.OutOfMemory asked = asked ≡ call.Refused fault.Memory
IsUnread _ asked = asked ≡ call.Nothing

abbrev pub IsCallOf : Result (List (List ℕ)) ErrorKind → Call → Type 0
IsCallOf (Ok words) asked = IsCall words asked
IsCallOf (Err why) asked = IsUnread why asked

abbrev pub words_of : {A B : Type 0} → Result (Vec (String A) B) ErrorKind → Result (List (List ℕ)) ErrorKind
words_of (Ok words) = Ok (map (λ word. string_bytes word) words.items)
words_of (Err why) = Err why

-- ---- how it ends

-- With status 0 and nothing printed, or with status 1 and the line of a fault; of which a prefix is printed
-- where standard error fails. Nothing else is a failure.
abbrev pub Ends : Option Fault → Writer → Writer → Result ℕ WriteFailed → Type 0
Ends None old new (Ok status) = (status ≡ 0) × (new ≡ old)
Ends None old new (Err failed) = ⊥
Ends (Some f) old new result = Prints (line_of f) 1 old new result

abbrev pub EndsIn : {W : Type 0} → (W → Option (List ℕ)) → (W → Option WriterTold) →
    Option Fault → W → W → Result ℕ WriteFailed → Type 0
EndsIn contents told f old new result =
    Ends f (writer_of contents told old) (writer_of contents told new) result

-- the fault in which something ended, if it did
abbrev pub fault_in : {F : Type 0} → (F → Fault) → Result (Unit {0}) F → Option Fault
fault_in of_fault (Ok done) = None
fault_in of_fault (Err f) = Some (of_fault f)

-- one session of a user, or a script, and how that ended, also where standard error fails then
pub record DoesPipe (user : List ℕ) (old new : Streams) (result : Result ℕ WriteFailed) : Type 0 where
  pub done : Result (Unit {0}) PipeFault
  pub pipes : Pipes user old.input.remaining new.input.remaining old.output.contents new.output.contents done
  pub reads : PipeReads old.input.told new.input.told done
  pub writes : PipeWrites old.output.told new.output.told done
  pub ends : Ends (fault_in of_pipe done) old.errors new.errors result

pub record DoesScript (old new : Streams) (result : Result ℕ WriteFailed) : Type 0 where
  pub done : Result (Unit {0}) ScriptFault
  pub runs : Runs old.input.remaining new.input.remaining old.output.contents new.output.contents done
  pub reads : ScriptReads old.input.told new.input.told done
  pub writes : ScriptWrites old.output.told new.output.told done
  pub ends : Ends (fault_in of_script done) old.errors new.errors result

-- a server that can end so, called with that file, and how it ended
abbrev pub Server : Type 1
Server = String Global → Result (Unit {0}) ServeFault → Type 0

pub record DoesServe (server : Server) (file : String Global) (old new : Writer)
    (result : Result ℕ WriteFailed) : Type 0 where
  pub done : Result (Unit {0}) ServeFault
  pub served : server file done
  pub ends : Ends (fault_in of_server done) old new result

-- nothing is read, nor written to standard output
abbrev pub IsUntouched : Streams → Streams → Type 0
IsUntouched old new = (new.input ≡ old.input) × (new.output ≡ old.output)

-- what is asked for is done, or the line of a wrong call or of a fault is printed
abbrev pub Does : Server → Call → Streams → Streams → Result ℕ WriteFailed → Type 0
Does server call.Nothing old new result = IsUntouched old new × Prints usage 2 old.errors new.errors result
Does server call.Script old new result = DoesScript old new result
Does server (call.Pipe user) old new result = DoesPipe user old new result
Does server (call.Serve file) old new result =
    IsUntouched old new × DoesServe server file old.errors new.errors result
Does server (call.Refused f) old new result = IsUntouched old new × Ends (Some f) old.errors new.errors result

-- By the server and the words of a call: what it makes of the streams, and its status, or that standard error
-- failed.
pub record Calls (server : Server) (words : Result (List (List ℕ)) ErrorKind) (old new : Streams)
    (result : Result ℕ WriteFailed) : Type 0 where
  pub asked : Call
  pub is : IsCallOf words asked
  pub does : Does server asked old new result
