-- What a script does and writes, line by line.
use Rattle.std.specs.Prelude.{◌≡◌, ◌≢◌, ◌⊎◌, ℕ, pos, List, [], ◌∷◌, ◌++◌, ◌<◌, length, drop, Bool, true}
use Rattle.std.specs.Prelude.{false, not, Option, Some, None, Result, Ok, Err, IsSome, Vec, codes}
use Rattle.std.specs.Option.{is_some}
use Rattle.std.specs.declared.alloc.Global.{Global}
use Rattle.acap_grammar.specs.Replies.{crlf}
use Rattle.acap_lexer.specs.Holding.{held_limit}
use Rattle.acap_rights.specs.declared.realm.Realm.{Realm}
use Rattle.acap_session.specs.Places.{SeatSession, place_at}
use Rattle.acap_script.specs.Lines.{line_of}
use Rattle.acap_session.specs.ScriptOutput.{Shows}
use Rattle.acap_dialogue.specs.Session.{is_hearing, session_next}
use Rattle.acap_session.specs.World as world
use Rattle.acap_session.specs.World.{World, HasTurnedAt, IsStep, did, new_world, open_at, output_taken}
use Rattle.acap_session.specs.World.{room_of, said_before}
use Rattle.acap_script.specs.declared.line_fault.LineFault.{LineFault}
use Rattle.acap_script.specs.declared.line_fault.LineFault.TheVariants as faults
use Rattle.acap_dialogue.specs.declared.next.Next.TheVariants as next
use Rattle.acap_session.specs.declared.occasion.Occasion.{Occasion}
use Rattle.acap_script.specs.declared.script_line.ScriptLine.{ScriptLine}
use Rattle.acap_script.specs.declared.script_line.ScriptLine.TheVariants as line
use Rattle.acap_script.specs.declared.seat_line.SeatLine.{SeatLine}
use Rattle.acap_script.specs.declared.seat_line.SeatLine.TheVariants as act
use Rattle.acap_session.specs.declared.script.ScriptStage.{ScriptStage}
use Rattle.acap_session.specs.declared.script.ScriptStage.TheVariants as standing
use Rattle.acap_session.specs.declared.script.Script.{Script}
use Rattle.acap_session.specs.declared.world_fault.WorldFault.{WorldFault}
use Rattle.acap_session.specs.declared.world_fault.WorldFault.TheVariants as unmade
use Rattle.acap_session.specs.Setup.{Setup}

-- ---- what a client sends

-- turns of a seat's session, one for each of a list that says whether the event that it may ask is refused
-- memory
abbrev pub turns : Occasion → List Bool → World → World
turns o [] w = w
turns o (refused ∷ more) w = turns o more (did o refused world.Turn w)

-- nothing is next for what stands at the seat
abbrev pub IsQuietFor : Occasion → World → Option SeatSession → Type 0
IsQuietFor o w None = Unit {0}
IsQuietFor o w (Some place) = (session_next w.users o.nonce o.clock place.talk).0 ≡ next.More

abbrev pub IsQuiet : Occasion → World → Type 0
IsQuiet o w = IsQuietFor o w (place_at w.places o.seat)

-- what a session doesn't take of a piece
abbrev pub left_by : Option SeatSession → List ℕ → List ℕ
left_by None piece = piece
left_by (Some place) piece = drop (room_of place.talk piece) piece

-- all was taken, or the session is closed
abbrev pub IsOver : ℕ → List ℕ → World → Type 0
IsOver seat rest w = (rest ≡ []) ⊎ (open_at w seat ≡ None)

abbrev pub GoesOn : ℕ → List ℕ → World → Type 0
GoesOn seat rest w = (rest ≢ []) × IsSome (open_at w seat)

-- A piece is offered, and turns are made until nothing is next; what wasn't taken is offered again, with
-- turns after it, until all is taken or the session is closed. For each time there is a list of turns.
abbrev pub Hears : List (List Bool) → Occasion → List ℕ → World → World → Type 0
Hears [] o piece old new = ⊥
Hears (refused ∷ more) o piece old new =
    let rest = left_by (open_at old o.seat) piece in
    let w = turns o refused (did o false (world.Piece piece) old) in
    IsQuiet o w
    × ((IsOver o.seat rest w × (more ≡ []) × (new ≡ w)) ⊎ (GoesOn o.seat rest w × Hears more o rest w new))

pub record HasHeard (o : Occasion) (piece : List ℕ) (old new : World) : Type 0 where
  pub refused : List (List Bool)
  pub heard : Hears refused o piece old new

-- ---- what is done at a seat

-- a session opens where none is open, and all else is about one that is open
abbrev pub may : SeatLine → Bool → Bool
may act.Open is_open = not is_open
may (act.Enter user) is_open = not is_open
may (act.Send text) is_open = is_open
may (act.Raw octets) is_open = is_open
may (act.Piece octets) is_open = is_open
may act.Turn is_open = is_open
may act.Drain is_open = is_open
may act.Leave is_open = is_open

-- no challenge is sent by a session that opens, a drain or an end
abbrev pub without_nonce : Occasion → Occasion
without_nonce o = record o { nonce = 0 }

-- Each is a step of the world, or some. No entering of a user and no drain is refused memory.
abbrev pub Acts : SeatLine → Occasion → World → World → Type 0
Acts act.Open o old new = new ≡ did (without_nonce o) false (world.Open None) old
Acts (act.Enter user) o old new = new ≡ did (without_nonce o) false (world.Open (Some user)) old
Acts (act.Send text) o old new = HasHeard o (text ++ crlf) old new
Acts (act.Raw octets) o old new = HasHeard o octets old new
Acts (act.Piece octets) o old new = new ≡ did o false (world.Piece octets) old
Acts act.Turn o old new = IsStep o world.Turn old new
Acts act.Drain o old new = new ≡ did (without_nonce o) false world.Drain old
Acts act.Leave o old new = new ≡ did (without_nonce o) false world.Leave old

-- ---- lines

-- before its first line: nobody may log in, the clock shows the start of 1970
abbrev pub begins : Script
begins =
    record {
      standing = standing.Before (record {
        users = [];
        administrators = [];
        groups = [];
        host = codes
            "localhost";
      });
      clock = pos 0;
      nonce = 0;
    }

abbrev pub realm_of : Setup → Realm
realm_of s = record { administrators = s.administrators; groups = s.groups }

-- the world, which is made of what was set for it where something is first done at a seat
abbrev pub world_of : ScriptStage → World
world_of (standing.Before s) = new_world (realm_of s) s.users s.host
world_of (standing.Since w) = w

abbrev pub is_before : ScriptStage → Bool
is_before (standing.Before s) = true
is_before (standing.Since w) = false

abbrev pub with_setup : (Setup → Setup) → ScriptStage → ScriptStage
with_setup f (standing.Before s) = standing.Before (f s)
with_setup f (standing.Since w) = standing.Since w

abbrev pub with_user : List ℕ → List ℕ → Setup → Setup
with_user name secret s = record s { users = s.users ++ (name, secret) ∷ [] }

abbrev pub with_administrator : List ℕ → Setup → Setup
with_administrator name s = record s { administrators = s.administrators ++ name ∷ [] }

-- groups of one name are one, so a member comes as a group of its own
abbrev pub with_member : List ℕ → List ℕ → Setup → Setup
with_member name member s =
    record s { groups = s.groups ++ record { name = name; members = member ∷ [] } ∷ [] }

abbrev pub with_host : List ℕ → Setup → Setup
with_host text s = record s { host = text }

-- where a line may stand
abbrev pub fits : ScriptLine → ScriptStage → Bool
fits line.Pass s = true
fits (line.User name secret) s = is_before s
fits (line.Admin name) s = is_before s
fits (line.Group name member) s = is_before s
fits (line.Host text) s = is_before s
fits (line.Clock moment) s = true
fits (line.Nonce nonce) s = true
fits (line.At seat act) s = may act (is_some (open_at (world_of s) seat))

-- a line that sets something says nothing
abbrev pub Sets : (Setup → Setup) → Script → List ℕ → Script → Type 0
Sets f old out new = (out ≡ []) × (new ≡ record old { standing = with_setup f old.standing })

-- something is done at a seat; what is said there then is written, and is said no more
pub record Speaks (seat : ℕ) (does : SeatLine) (old : Script) (out : List ℕ) (new : Script) : Type 0 where
  pub after : World
  pub acts :
      Acts does (record { seat = seat; clock = old.clock; nonce = old.nonce }) (world_of old.standing) after
  pub shown : Shows seat (said_before (place_at after.places seat)) out
  pub left : new ≡ record old { standing = standing.Since (output_taken after seat) }

-- what a line writes and leaves
abbrev pub Does : ScriptLine → Script → List ℕ → Script → Type 0
Does line.Pass old out new = (out ≡ []) × (new ≡ old)
Does (line.User name secret) old out new = Sets (with_user name secret) old out new
Does (line.Admin name) old out new = Sets (with_administrator name) old out new
Does (line.Group name member) old out new = Sets (with_member name member) old out new
Does (line.Host text) old out new = Sets (with_host text) old out new
Does (line.Clock moment) old out new = (out ≡ []) × (new ≡ record old { clock = moment })
Does (line.Nonce nonce) old out new = (out ≡ []) × (new ≡ record old { nonce = nonce })
Does (line.At seat act) old out new = Speaks seat act old out new

-- the text of a line is a line's, which may stand there and is done
pub record IsDone (text : List ℕ) (old : Script) (out : List ℕ) (new : Script) : Type 0 where
  pub line : ScriptLine
  pub is : line_of text ≡ Some line
  pub may_stand : fits line old.standing ≡ true
  pub does : Does line old out new

-- or it is none, or may not stand there
abbrev pub is_wrong_at : ScriptStage → Option ScriptLine → Bool
is_wrong_at s None = true
is_wrong_at s (Some line) = not (fits line s)

abbrev pub is_wrong : List ℕ → Script → Bool
is_wrong text s = is_wrong_at s.standing (line_of text)

-- lines are done one after the other
pub record AndThen (rest : List ℕ → Script → Type 0) (text : List ℕ) (old : Script) (out : List ℕ)
    : Type 0 where
  pub first : List ℕ
  pub later : List ℕ
  pub between : Script
  pub out_is : out ≡ first ++ later
  pub done : IsDone text old first between
  pub then_done : rest later between

abbrev pub AreDone : List (List ℕ) → Script → List ℕ → Script → Type 0
AreDone [] old out new = (out ≡ []) × (new ≡ old)
AreDone (text ∷ texts) old out new = AndThen (λ later between. AreDone texts between later new) text old out

-- ---- words of the contracts

-- a session that is open at a seat hears what comes next
abbrev pub Listens : ℕ → World → Type 0
Listens seat w = (place : SeatSession) → open_at w seat ≡ Some place → is_hearing place.talk.stage ≡ true

-- and holds less than it may, so that it takes some octets of any piece that has some
abbrev pub HasRoomAt : ℕ → World → Type 0
HasRoomAt seat w =
    (place : SeatSession) → open_at w seat ≡ Some place → length place.talk.held.text < held_limit

abbrev pub TakesSome : ℕ → List ℕ → World → ℕ → Type 0
TakesSome seat piece w taken = HasRoomAt seat w → 0 < length piece → 0 < taken

-- a turn was made, or none where no session is open
abbrev pub HasTurned : Occasion → Bool → World → World → Type 0
HasTurned o goes old new =
    HasTurnedAt o goes old new ⊎ ((goes ≡ false) × (open_at old o.seat ≡ None) × (new ≡ old))

-- all turns were made that can be made
pub record HasSettled (o : Occasion) (old new : World) : Type 0 where
  pub refused : List Bool
  pub is : new ≡ turns o refused old
  pub quiet : IsQuiet o new

-- a piece was offered once
pub record HasOffered (o : Occasion) (piece : List ℕ) (old new : World) (rest : List ℕ) : Type 0 where
  pub rest_is : rest ≡ left_by (open_at old o.seat) piece
  pub settled : HasSettled o (did o false (world.Piece piece) old) new

-- what a fault of the world says of a line
abbrev pub fault_of : WorldFault → LineFault
fault_of unmade.NoSeat = faults.Wrong
fault_of unmade.Taken = faults.Wrong
fault_of unmade.Memory = faults.Memory

-- what may be done is done, and what may not is wrong; nothing is said where memory is refused
abbrev pub Done : {A : Type 0} → Bool → (A → Type 0) → Result A LineFault → Type 0
Done may does (Ok a) = (may ≡ true) × does a
Done may does (Err faults.Wrong) = may ≡ false
Done may does (Err faults.Memory) = Unit {0}

-- so a session opens, something is done at a seat, or octets are offered there
abbrev pub MayOpen : Option (List ℕ) → Occasion → World → World → Result (Unit {0}) LineFault → Type 0
MayOpen user o old new =
    Done (not (is_some (open_at old o.seat)))
    (λ done. new ≡ did (without_nonce o) false (world.Open user) old)

abbrev pub MayAct : SeatLine → Occasion → World → World → Result (Unit {0}) LineFault → Type 0
MayAct does o old new = Done (may does (is_some (open_at old o.seat))) (λ done. Acts does o old new)

abbrev pub MayOffer : List ℕ → Occasion → World → World → Result ℕ LineFault → Type 0
MayOffer piece o old new =
    Done (is_some (open_at old o.seat)) (λ taken. HasOffered o piece old new (drop taken piece))

-- what is said at a seat then is given, and is said no more
pub record Says (does : SeatLine) (o : Occasion) (old : World) (out : List ℕ) (new : World) : Type 0 where
  pub after : World
  pub acts : Acts does o old after
  pub shown : Shows o.seat (said_before (place_at after.places o.seat)) out
  pub left : new ≡ output_taken after o.seat

abbrev pub MaySay : SeatLine → Occasion → World → World → Result (Vec ℕ Global) LineFault → Type 0
MaySay does o old new = Done (may does (is_some (open_at old o.seat))) (λ out. Says does o old out.items new)

-- and a line sets something, or does something at a seat, and gives what it says
abbrev pub MaySet : (Setup → Setup) → Script → Script → Result (Vec ℕ Global) LineFault → Type 0
MaySet change old new = Done (is_before old.standing) (λ out. Sets change old out.items new)

abbrev pub MaySpeak : ℕ → SeatLine → Script → Script → Result (Vec ℕ Global) LineFault → Type 0
MaySpeak seat does old new =
    Done
    (may does (is_some (open_at (world_of old.standing) seat))) (λ out. Speaks seat does old out.items new)
