-- What one session of a user writes for what it reads, with a machine of its own whose clock shows 0
-- [RFC 2244 section 2].
use Rattle.std.specs.Prelude.{◌≡◌, ◌⊎◌, ◌<◌, ◌≤◌, ◌+◌, ℕ, pos, List, [], ◌∷◌, ◌++◌, length, flat_map, Bool}
use Rattle.std.specs.Prelude.{true, false, Option, Some, None, codes, Result, Ok, Err, ⊤}
use Rattle.std.specs.Io.KnownBytes.{Appends}
use Rattle.acap_lexer.specs.Holding.{held_limit}
use Rattle.acap_login.specs.Login.{User}
use Rattle.acap_machine.specs.Machine.{Machine, new_machine}
use Rattle.acap_rights.specs.declared.realm.Realm.{Realm}
use Rattle.acap_dialogue.specs.Session.{session_next, is_closed, is_hearing}
use Rattle.acap_session.specs.Streams.{HasEndedReads, HasEndedWrites, HasGiven, HasTaken, IfTold, SendsFront}
use Rattle.acap_session.specs.Streams.{ReaderTold, WriterTold}
use Rattle.acap_dialogue.specs.Talking.{Talking, beginning}
use Rattle.acap_session.specs.Turning.{Scene, scene, turn_of, IsTurn}
use Rattle.acap_dialogue.specs.declared.next.Next.TheVariants as next
use Rattle.acap_session.specs.declared.occasion.Occasion.{Occasion}
use Rattle.acap_session.specs.declared.pipe_fault.PipeFault.{PipeFault}
use Rattle.acap_session.specs.declared.pipe_fault.PipeFault.TheVariants as faults
use Rattle.acap_session.specs.declared.pipe.PipeState.{PipeState}
use Rattle.acap_session.specs.declared.occasion.Turn.{Turn}

-- nobody is an administrator
abbrev pub without_administrators : Realm
without_administrators = record { administrators = []; groups = [] }

-- the one seat, at the start of 1970; nobody logs in, so that no nonce is sent
abbrev pub always : Occasion
always = record { seat = 0; clock = pos 0; nonce = 0 }

-- a user's session, before it has said anything
abbrev pub begins : List ℕ → Scene
begins user = scene (new_machine without_administrators) (beginning (codes "localhost") (Some user)) []

-- its first turn: the user enters, and is greeted
unfoldable pub after_enter : List ℕ → Scene
after_enter user = (turn_of [] always false (begins user)).1

-- turns, one for each of a list that says whether the step that it may ask is refused memory
abbrev pub turns : List User → List Bool → Scene → Scene
turns users [] s = s
turns users (refused ∷ more) s = turns users more (turn_of users always refused s).1

-- octets come after those that are held
abbrev pub hears : List ℕ → Scene → Scene
hears octets s =
    record s { talk = record s.talk { held = record s.talk.held { text = s.talk.held.text ++ octets } } }

-- a piece, and the turns that follow it
abbrev pub Fed : Type 0
Fed = List ℕ × List Bool

abbrev pub after_piece : List User → Fed → Scene → Scene
after_piece users x s = turns users x.1 (hears x.0 s)

abbrev pub fed_all : List User → List Fed → Scene → Scene
fed_all users [] s = s
fed_all users (x ∷ xs) s = fed_all users xs (after_piece users x s)

-- nothing is next: all turns were made that the octets allow
abbrev pub IsQuiet : List User → Scene → Type 0
IsQuiet users s = (session_next users 0 (pos 0) s.talk).0 ≡ next.More

-- a session that isn't closed, and has room for octets
abbrev pub MayTake : List ℕ → Talking → Type 0
MayTake octets t = (is_closed t.stage ≡ false) × (length t.held.text + length octets ≤ held_limit)

-- each piece is given while there is room for it; all turns are made before the next one is heard, and after
-- the last
abbrev pub AreAnswered : List User → List Fed → Scene → Type 0
AreAnswered users [] s = Unit {0}
AreAnswered users (x ∷ xs) s =
    MayTake x.0 s.talk × IsQuiet users (after_piece users x s) × AreAnswered users xs (after_piece users x s)

abbrev pub octets_of_pieces : List Fed → List ℕ
octets_of_pieces pieces = flat_map (λ x. x.0) pieces

-- What is written for octets that are read: the user has entered, the octets came in some pieces, and after
-- each of them all turns were made. Which of the steps after the first are refused memory is given beside the
-- pieces.
pub record IsWritten (user read written : List ℕ) : Type 0 where
  pub pieces : List Fed
  pub joined_is : read ≡ octets_of_pieces pieces
  pub answered : AreAnswered [] pieces (after_enter user)
  pub is : written ≡ (fed_all [] pieces (after_enter user)).out

-- and nothing of the input is left out but after a close
pub record IsWhole (user input written : List ℕ) : Type 0 where
  pub read : List ℕ
  pub unread : List ℕ
  pub input_is : input ≡ read ++ unread
  pub made : IsWritten user read written
  pub whole : (unread ≡ []) ⊎ (is_closed (fed_all [] made.pieces (after_enter user)).talk.stage ≡ true)

-- ---- the same of a reader and a writer whose octets are known

-- what was written is what is to be written for all that was to be read, up to a close
abbrev pub HasEnded : List ℕ → Option (List ℕ) → Option (List ℕ) → Option (List ℕ) → Type 0
HasEnded user None old new = Unit {0}
HasEnded user (Some input) old new = (written : List ℕ) × IsWhole user input written × Appends old new written

-- it is what is to be written for the octets that the reader no longer has
abbrev pub HasRead : List ℕ → Option (List ℕ) → Option (List ℕ) → Option (List ℕ) → Option (List ℕ) → Type 0
HasRead user None left old new = Unit {0}
HasRead user (Some input) None old new = ⊥
HasRead user (Some input) (Some left) old new =
    (read : List ℕ)
    × (written : List ℕ)
    × (input ≡ read ++ left)
    × IsWritten user read written
    × Appends old new written

-- What was said by a moment amid the turns: some pieces were answered, one more was given while there was
-- room for it, and some turns were made after it.
pub record HasSaid (users : List User) (heard : List ℕ) (old : Scene) (said : List ℕ) : Type 0 where
  pub pieces : List Fed
  pub last : Fed
  pub joined_is : heard ≡ octets_of_pieces pieces ++ last.0
  pub answered : AreAnswered users pieces old
  pub fits : 0 < length last.0 → MayTake last.0 (fed_all users pieces old).talk
  pub is : said ≡ (after_piece users last (fed_all users pieces old)).out

-- A session is cut short by a fault: not even its first turn was made, or what it has said since was sent so.
-- What it heard is a prefix of those octets that the reader no longer has.
pub record IsCutShort (user input left : List ℕ) (Sent : List ℕ → Type 0) : Type 0 where
  pub heard : List ℕ
  pub unheard : List ℕ
  pub input_is : input ≡ heard ++ (unheard ++ left)
  pub said : List ℕ
  pub made : ((heard ≡ []) × (said ≡ [])) ⊎ HasSaid [] heard (after_enter user) said
  pub sent : Sent said

abbrev pub CutsShort : List ℕ → Option (List ℕ) → Option (List ℕ) → (List ℕ → Type 0) → Type 0
CutsShort user None left Sent = Unit {0}
CutsShort user (Some input) None Sent = ⊥
CutsShort user (Some input) (Some left) Sent = IsCutShort user input left Sent

-- By how it ended. Where memory is refused all that was said before is written; where the writer failed it
-- has a prefix of what was said.
abbrev pub Pipes : List ℕ → Option (List ℕ) → Option (List ℕ) → Option (List ℕ) → Option (List ℕ)
    → Result (Unit {0}) PipeFault → Type 0
Pipes user input left old new (Ok done) = HasEnded user input old new
Pipes user input left old new (Err faults.Read) = HasRead user input left old new
Pipes user input left old new (Err faults.Write) = CutsShort user input left (SendsFront old new)
Pipes user input left old new (Err faults.Memory) = CutsShort user input left (Appends old new)

-- of a reader and a writer, as they were and as they are left
abbrev pub PipesFrom : {R W : Type 0} → List ℕ → (R → Option (List ℕ)) → R → R → (W → Option (List ℕ)) → W
    → W → Result (Unit {0}) PipeFault → Type 0
PipesFrom user remaining unread left contents old new =
    Pipes user (remaining unread) (remaining left) (contents old) (contents new)

-- It answers that the reader failed only where it did, or where reads came to their bound, and where it did
-- it answers nothing else.
abbrev pub PipeReads : Option ReaderTold → Option ReaderTold → Result (Unit {0}) PipeFault → Type 0
PipeReads old new (Err faults.Read) = IfTold HasEndedReads old new
PipeReads old new other = IfTold HasGiven old new

-- It answers that the writer failed only where it did, and where it did it answers nothing else.
abbrev pub PipeWrites : Option WriterTold → Option WriterTold → Result (Unit {0}) PipeFault → Type 0
PipeWrites old new (Err faults.Write) = IfTold HasEndedWrites old new
PipeWrites old new other = IfTold HasTaken old new

-- ---- words of the contracts of the loops

-- a session that isn't closed hears what comes next
abbrev pub Goes : Talking → Type 0
Goes t = is_closed t.stage ≡ false → is_hearing t.stage ≡ true

-- and has room for more octets
abbrev pub HasRoom : Talking → Type 0
HasRoom t = is_closed t.stage ≡ false → (is_hearing t.stage ≡ true) × (length t.held.text < held_limit)

pub record IsSettled (users : List User) (old new : Scene) : Type 0 where
  pub refused : List Bool
  pub is : new ≡ turns users refused old
  pub quiet : IsQuiet users new
  pub room : HasRoom new.talk

-- a piece was heard in parts, as there was room, up to a close
pub record IsFed (users : List User) (piece : List ℕ) (old new : Scene) : Type 0 where
  pub parts : List Fed
  pub rest : List ℕ
  pub joined_is : piece ≡ octets_of_pieces parts ++ rest
  pub answered : AreAnswered users parts old
  pub is : new ≡ fed_all users parts old
  pub room : HasRoom new.talk
  pub all : is_closed new.talk.stage ≡ false → rest ≡ []

-- what isn't written of what was said: something where the writer failed, nothing where memory was refused
abbrev pub MayLack : PipeFault → List ℕ → Type 0
MayLack faults.Read lacking = ⊥
MayLack faults.Write lacking = ⊤
MayLack faults.Memory lacking = lacking ≡ []

-- what some turns said, up to a fault
pub record Says (fault : PipeFault) (users : List User) (old : Scene) (said : List ℕ) : Type 0 where
  pub refused : List Bool
  pub lacking : List ℕ
  pub is : (turns users refused old).out ≡ said ++ lacking
  pub lacks : MayLack fault lacking

-- what is said to a piece that was heard in parts, up to a fault
pub record SaysTo (fault : PipeFault) (users : List User) (piece : List ℕ) (old : Scene)
    (said : List ℕ) : Type 0 where
  pub heard : List ℕ
  pub rest : List ℕ
  pub lacking : List ℕ
  pub piece_is : piece ≡ heard ++ rest
  pub made : HasSaid users heard old (said ++ lacking)
  pub lacks : MayLack fault lacking

-- What is said is written or waits to be. This holds of all of it, of which so much waits, where a prefix is
-- written by now.
pub record IsOut (old new : Option (List ℕ)) (waits : List ℕ) (Holds : List ℕ → Type 0) : Type 0 where
  pub front : List ℕ
  pub sent : Appends old new front
  pub is : Holds (front ++ waits)

-- one turn was made, and the session goes on
pub record HasTurned (users : List User) (old new : Scene) : Type 0 where
  pub came : Turn
  pub made : IsTurn users always old came new
  pub going : is_closed new.talk.stage ≡ false

-- a piece was heard, and what was said to it was written
pub record HasAnswered (users : List User) (piece : List ℕ) (old new : Option (List ℕ)) (m : Machine)
    (t : Talking) (new_m : Machine) (new_t : Talking) : Type 0 where
  pub said : List ℕ
  pub heard : IsFed users piece (scene m t []) (scene new_m new_t said)
  pub sent : Appends old new said

-- or what was said up to a fault
pub record HasPartlyAnswered (fault : PipeFault) (users : List User) (piece : List ℕ)
    (old new : Option (List ℕ)) (m : Machine) (t : Talking) : Type 0 where
  pub front : List ℕ
  pub said : SaysTo fault users piece (scene m t []) front
  pub sent : Appends old new front

-- a fault of the writer or of memory
abbrev pub IsLater : PipeFault → Type 0
IsLater faults.Read = ⊥
IsLater faults.Write = ⊤
IsLater faults.Memory = ⊤

-- what was written so far is what is to be written for the pieces that came
pub record SoFar (user input rest : List ℕ) (w0 w : Option (List ℕ)) (m : Machine) (t : Talking)
    : Type 0 where
  pub pieces : List Fed
  pub written : List ℕ
  pub input_is : input ≡ octets_of_pieces pieces ++ rest
  pub answered : AreAnswered [] pieces (after_enter user)
  pub is : fed_all [] pieces (after_enter user) ≡ scene m t written
  pub appends : Appends w0 w written

abbrev pub IsSoFar : List ℕ → Option (List ℕ) → Option (List ℕ) → Option (List ℕ) → Option (List ℕ)
    → Machine → Talking → Type 0
IsSoFar user None r w0 w m t = Unit {0}
IsSoFar user (Some input) None w0 w m t = ⊥
IsSoFar user (Some input) (Some rest) w0 w m t = SoFar user input rest w0 w m t

-- ---- the same of a session and its machine in memory

abbrev pub scene_of : PipeState → Scene
scene_of pipe = scene pipe.state.machine pipe.session pipe.out.items

-- a user's session, before it has said anything
pub record IsBegun (pipe : PipeState) : Type 0 where
  pub user : List ℕ
  pub is : scene_of pipe ≡ begins user

-- the last `waits` of these octets wait, and those before them are written
abbrev pub IsUnderWay : {W : Type 0} → (W → Option (List ℕ)) → W → W → List ℕ → List ℕ → Type 0
IsUnderWay contents w0 w waits octets = IsOut (contents w0) (contents w) waits (λ said. said ≡ octets)

-- all turns were made that can be made; at a fault what some said is written or waits
abbrev pub Settles : {W : Type 0} → List User → (W → Option (List ℕ)) → W → W → PipeState → PipeState
    → Result (Unit {0}) PipeFault → Type 0
Settles users contents w0 w old new (Ok done) =
    IsOut
    (contents w0) (contents w) new.out.items
    (λ said. IsSettled users (scene_of old) (scene new.state.machine new.session said))
Settles users contents w0 w old new (Err fault) =
    IsOut (contents w0) (contents w) new.out.items (Says fault users (scene_of old))

-- a piece was heard, and at a fault so of that
abbrev pub Takes : {W : Type 0} → List User → List ℕ → (W → Option (List ℕ)) → W → W → PipeState
    → PipeState → Result (Unit {0}) PipeFault → Type 0
Takes users piece contents w0 w old new (Ok done) =
    IsOut
    (contents w0) (contents w) new.out.items
    (λ said. IsFed users piece (scene_of old) (scene new.state.machine new.session said))
Takes users piece contents w0 w old new (Err fault) =
    IsOut (contents w0) (contents w) new.out.items (SaysTo fault users piece (scene_of old))

-- and what is said to it, or what was said up to a fault, was written
abbrev pub Answers : {W : Type 0} → List User → List ℕ → (W → Option (List ℕ)) → W → W → PipeState
    → PipeState → Result (Unit {0}) PipeFault → Type 0
Answers users piece contents w0 w old new (Ok done) =
    HasAnswered users piece
    (contents w0) (contents w) old.state.machine old.session new.state.machine new.session
Answers users piece contents w0 w old new (Err fault) =
    HasPartlyAnswered fault users piece (contents w0) (contents w) old.state.machine old.session

-- what is written for a user's session, from its first turn on
abbrev pub Serves : {R W : Type 0} → (R → Option (List ℕ)) → R → R → (W → Option (List ℕ)) → W → W
    → PipeState → Result (Unit {0}) PipeFault → Type 0
Serves remaining unread left contents old new pipe result =
    (user : List ℕ) → scene_of pipe ≡ begins user
    → PipesFrom user remaining unread left contents old new result
