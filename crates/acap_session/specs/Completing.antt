-- Completions: each command gets one, under its tag, in the order of the commands [RFC 2244 sections 2.2 and
-- 6.2].
use Rattle.std.specs.Prelude.{◌≡◌, ◌⊎◌, ◌==◌, ◌||◌, ℕ, List, [], ◌∷◌, ◌++◌, flat_map, map, replicate, codes}
use Rattle.std.specs.Prelude.{Bool, true, false, not, Option, Some, None, IsSome, option_map, Result, Ok}
use Rattle.std.specs.Prelude.{if◌then◌else◌}
use Rattle.std.specs.List.{list_all}
use Rattle.acap_lexer.specs.Held.{next_of}
use Rattle.acap_lexer.specs.Holding.{Held}
use Rattle.acap_lexer.specs.declared.fault.LexFault.{LexFault}
use Rattle.acap_lexer.specs.declared.fault.LexFault.TheVariants as lexical
use Rattle.acap_lexer.specs.declared.lexed.Lexed.{Lexed}
use Rattle.acap_lexer.specs.declared.lexed.Lexed.TheVariants as lexed
use Rattle.acap_lexer.specs.declared.lexed.Mode.TheVariants as mode
use Rattle.acap_login.specs.Login.{User}
use Rattle.acap_commands.specs.Statuses.{status_of}
use Rattle.acap_grammar.specs.Grammar.{command_of}
use Rattle.acap_grammar.specs.Refusals.{of_lexical}
use Rattle.acap_grammar.specs.Replies.{crlf, greeting, octets_of, tag_of as spelled_tag}
use Rattle.acap_commands.specs.declared.command.Command.{Command}
use Rattle.acap_commands.specs.declared.command.Command.TheVariants as command
use Rattle.acap_commands.specs.declared.refusal.Refusal.TheVariants as refusals
use Rattle.acap_commands.specs.declared.reply.Reply.{Reply}
use Rattle.acap_commands.specs.declared.said.Said.{Said}
use Rattle.acap_commands.specs.declared.said.Said.TheVariants as said
use Rattle.acap_commands.specs.declared.refusal.Status.{Status}
use Rattle.acap_commands.specs.declared.refusal.Status.TheVariants as status
use Rattle.acap_commands.specs.declared.command.Verb.TheVariants as verb
use Rattle.acap_grammar.specs.declared.command_fault.CommandFault.{CommandFault}
use Rattle.acap_machine.specs.Completing.{completes}
use Rattle.acap_rights.specs.declared.realm.Realm.{Realm}
use Rattle.acap_dialogue.specs.Hearing.{tag_of}
use Rattle.acap_session.specs.PipeSteps.{step_of}
use Rattle.acap_session.specs.Piping.{without_administrators}
use Rattle.acap_session.specs.Places.{SeatSession, place_at}
use Rattle.acap_session.specs.World as world
use Rattle.acap_session.specs.World.{World, Action, Step, did, new_world, open_at, world_after}
use Rattle.acap_dialogue.specs.declared.stage.Stage.{Stage}
use Rattle.acap_dialogue.specs.declared.stage.Stage.TheVariants as stage

-- ---- which commands are heard

-- its tag, or none where a line has none and is answered under `*`; and whether it is a login
pub record Call : Type 0 where
  pub tag : Option (List ℕ)
  pub is_login : Bool

abbrev pub plain_call : Option (List ℕ) → Call
plain_call tag = record { tag = tag; is_login = false }

abbrev pub login_call : Option (List ℕ) → Call
login_call tag = record { tag = tag; is_login = true }

-- AUTHENTICATE is one
abbrev pub is_login : Result Command CommandFault → Bool
is_login (Ok (command.Authenticate mechanism)) = true
is_login other = false

-- a line that can't be read is a command too, under its tag if it has one; one that is too long ends the
-- session
abbrev pub called_wrong : LexFault → Option (List ℕ) → List Call
called_wrong lexical.BadTag tag = plain_call tag ∷ []
called_wrong lexical.BadToken tag = plain_call tag ∷ []
called_wrong lexical.BadLiteral tag = plain_call tag ∷ []
called_wrong lexical.CommandTooLong tag = []
called_wrong lexical.LineTooLong tag = []

abbrev pub calls_in : Lexed → List Call
calls_in lexed.More = []
calls_in lexed.Plus = []
calls_in (lexed.Line tokens) = record { tag = tag_of tokens; is_login = is_login (command_of tokens) } ∷ []
calls_in (lexed.Bad fault tag) = called_wrong fault tag
calls_in (lexed.Fatal fault) = []

-- the client's answer to a challenge is no command
abbrev pub called_at : Stage → Held → List Call
called_at stage.Ready held = calls_in (next_of mode.Command held).0
called_at other held = []

-- what is heard where the session of a seat makes a turn
abbrev pub called_by : Action → Option SeatSession → List Call
called_by world.Turn (Some place) = called_at place.talk.stage place.talk.held
called_by action now = []

abbrev pub called_in : ℕ → Step → World → List Call
called_in seat x w = if x.occasion.seat == seat then called_by x.action (open_at w seat) else []

-- the tags of all commands that a seat's session hears in a run
abbrev pub all_called : ℕ → List Step → World → List Call
all_called seat [] w = []
all_called seat (x ∷ xs) w = called_in seat x w ++ all_called seat xs (did x.occasion x.refused x.action w)

-- ---- which are completed

-- the tag of a reply whose last line is an OK, NO or BAD, or none where `*` stands for it: BYE completes no
-- command
abbrev pub completed_by : Reply → List (Option (List ℕ))
completed_by reply = if completes reply.said then reply.tag ∷ [] else []

abbrev pub completed_tags : List Reply → List (Option (List ℕ))
completed_tags replies = flat_map completed_by replies

-- a login goes on: its command is completed after the client's answer
abbrev pub going_on : Stage → List Call
going_on (stage.Challenged tag challenge) = login_call tag ∷ []
going_on other = []

-- What is left without a completion: a login that goes on; and where a session was closed nothing, or the
-- login whose answer could not be read, as the input was too long.
abbrev pub IsLeft : Option LexFault → Stage → List Call → Type 0
IsLeft fatal stage.Closed left =
    (left ≡ []) ⊎ (IsSome fatal × ((tag : Option (List ℕ)) × (left ≡ login_call tag ∷ [])))
IsLeft fatal other left = left ≡ going_on other

-- what is said last where a session is closed for an input that is too long: a BYE, which answers no command
abbrev pub farewell : LexFault → List ℕ
farewell fault = octets_of (record { tag = None; said = said.Refused (of_lexical fault) })

abbrev pub IsEnd : Option LexFault → Stage → List ℕ → Type 0
IsEnd fatal stage.Closed end =
    (end ≡ []) ⊎ ((fault : LexFault) × (fatal ≡ Some fault) × (end ≡ farewell fault))
IsEnd fatal other end = end ≡ []

-- What was said is replies, as they are printed, and what is said last. The completions among them are those
-- of the commands, each once and in their order, up to what is left.
pub record AreCompleted (commands : List Call) (said : List ℕ) (fatal : Option LexFault) (at : Stage)
    : Type 0 where
  pub replies : List Reply
  pub done : List Call
  pub left : List Call
  pub end : List ℕ
  pub said_is : said ≡ flat_map octets_of replies ++ end
  pub all_are : commands ≡ done ++ left
  pub in_order : map (λ c. c.tag) done ≡ completed_tags replies
  pub left_is : IsLeft fatal at left
  pub end_is : IsEnd fatal at end

-- ---- the law

-- what goes on with a session that is open: it takes octets, makes turns and drains
abbrev pub goes_on : Action → Bool
goes_on (world.Open user) = false
goes_on (world.Piece octets) = true
goes_on world.Turn = true
goes_on world.Drain = true
goes_on world.Leave = false

-- in these steps a seat's session neither opens nor is ended by its client
abbrev pub all_go_on : ℕ → List Step → Bool
all_go_on seat steps = list_all (λ x. not (x.occasion.seat == seat) || goes_on x.action) steps

-- what a session has said since it stood so, and how it stands then
pub record HasCompleted (commands : List Call) (old : SeatSession) (standing : Option SeatSession)
    : Type 0 where
  pub now : SeatSession
  pub said : List ℕ
  pub stands : standing ≡ Some now
  pub out_is : now.out ≡ old.out ++ said
  pub made : AreCompleted commands said now.talk.held.fatal now.talk.stage

-- Whatever the other sessions do between: of the login that goes on, if one does, and the commands that a
-- session then hears each has its completion in what it says.
abbrev pub CompletionLaw : Type 0
CompletionLaw =
    (realm : Realm)
    (users : List User) (host : List ℕ) (before steps : List Step) (seat : ℕ) (old : SeatSession) →
    let w = world_after before (new_world realm users host) in
    open_at w seat ≡ Some old → all_go_on seat steps ≡ true →
    HasCompleted
    (going_on old.talk.stage ++ all_called seat steps w) old (place_at (world_after steps w).places seat)

-- ---- how a completion is printed

-- how a completion begins after its tag
abbrev pub status_word : Status → List ℕ
status_word status.No = codes "NO"
status_word status.Bad = codes "BAD"
status_word status.Bye = codes "BYE"

abbrev pub word_of : Said → List ℕ
word_of (said.Refused refusal) = status_word (status_of refusal)
word_of other = codes "OK"

-- the last line of a reply that completes a command is `tag OK ..`, `tag NO ..` or `tag BAD ..`
pub record EndsIn (reply : Reply) : Type 0 where
  pub lines : List ℕ
  pub text : List ℕ
  pub is :
      octets_of reply
      ≡ lines
      ++ (spelled_tag reply.tag ++ (codes " " ++ (word_of reply.said ++ (codes " " ++ (text ++ crlf)))))

abbrev pub CompletionForm : Type 0
CompletionForm = (reply : Reply) → completes reply.said ≡ true → EndsIn reply

-- ---- examples

-- the world in which nobody sits, and may log in, with some pieces and turns of a session at seat 0
abbrev pub empty_world : World
empty_world = new_world without_administrators [] (codes "localhost")

abbrev pub opening_step : Step
opening_step = step_of (world.Open None) false

abbrev pub some_turns : ℕ → List Step
some_turns n = replicate n (step_of world.Turn false)

abbrev pub piece_and_turns : List ℕ → ℕ → List Step
piece_and_turns octets n = step_of (world.Piece octets) false ∷ some_turns n

-- the commands that are heard there, and what is said
abbrev pub heard_there : List Step → List Call
heard_there steps = all_called 0 steps (world_after (opening_step ∷ []) empty_world)

abbrev pub said_there : List Step → Option (List ℕ)
said_there steps =
    option_map (λ place. place.out) (place_at (world_after (opening_step ∷ steps) empty_world).places 0)

abbrev pub lines_of : List (List ℕ) → Option (List ℕ)
lines_of lines = Some (greeting ++ flat_map (λ line. line ++ crlf) lines)

abbrev pub under : Option (List ℕ) → Said → Reply
under tag words = record { tag = tag; said = words }

abbrev pub a1 : Option (List ℕ)
a1 = Some (codes "A1")

abbrev pub a2 : Option (List ℕ)
a2 = Some (codes "A2")

pub record CompletionExamples : Type 0 where
  -- two commands of one piece; the second is completed after its BYE
  pub two :
      heard_there (piece_and_turns (codes "A1 NOOP\r\nA2 LOGOUT\r\n") 2) ≡ plain_call a1 ∷ plain_call a2 ∷ []
  pub two_said :
      said_there (piece_and_turns (codes "A1 NOOP\r\nA2 LOGOUT\r\n") 2)
      ≡ lines_of
      (codes "A1 OK \"NOOP done\"" ∷ codes "* BYE \"Good bye\"" ∷ codes "A2 OK \"LOGOUT done\"" ∷ [])
  -- a command that isn't whole is none; a line that can't be read is one, under its tag or without
  pub unfinished : heard_there (piece_and_turns (codes "A1 NOOP\r\nA2 NO") 2) ≡ plain_call a1 ∷ []
  pub wrong :
      heard_there (piece_and_turns (codes "A1 \"NOOP\r\n+ NOOP\r\n") 2) ≡ plain_call a1 ∷ plain_call None ∷ []
  pub wrong_said :
      said_there (piece_and_turns (codes "A1 \"NOOP\r\n+ NOOP\r\n") 2)
      ≡ lines_of (codes "A1 BAD \"Bad token\"" ∷ codes "* BAD \"Bad tag\"" ∷ [])
  -- a login is completed after the line that answers its challenge, which is no command
  pub login :
      heard_there (piece_and_turns (codes "A1 AUTHENTICATE \"CRAM-MD5\"\r\n*\r\nA2 NOOP\r\n") 3)
      ≡ login_call a1 ∷ plain_call a2 ∷ []
  pub login_said : said_there (piece_and_turns (codes "A1 AUTHENTICATE \"CRAM-MD5\"\r\n*\r\nA2 NOOP\r\n") 3)
      ≡ lines_of
      (codes "+ \"<0.0@localhost>\"" ∷ codes "A1 BAD \"Login cancelled\"" ∷ codes "A2 OK \"NOOP done\""
      ∷ [])
  -- an input that is too long is answered by a BYE, which completes nothing
  pub too_long :
      heard_there (piece_and_turns (codes "A1 NOOP\r\nA2 NOOP {262144}\r\n") 3) ≡ plain_call a1 ∷ []
  pub too_long_said :
      said_there (piece_and_turns (codes "A1 NOOP\r\nA2 NOOP {262144}\r\n") 3)
      ≡ lines_of (codes "A1 OK \"NOOP done\"" ∷ codes "* BYE \"Command too long\"" ∷ [])
  -- a refusal under `*` answers a line without a tag; neither a challenge nor a BYE answers one
  pub completions :
      completed_tags
      (under None said.Greeting ∷ under a1 (said.Done verb.Noop) ∷ under a1 (said.Challenge [])
      ∷ under None (said.Refused refusals.BadTag)
      ∷ under a1 (said.Refused refusals.Memory) ∷ under None (said.Refused refusals.LineTooLong)
      ∷ under a1 said.GoodBye ∷ under None (said.Drained []) ∷ []) ≡ a1 ∷ None ∷ a1 ∷ a1 ∷ []
