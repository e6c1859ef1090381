-- What the client of a seat sends and reads, step by step [RFC 2244 sections 2.2 and 6].
use Rattle.std.specs.Prelude.{◌≡◌, ℕ, ◌==◌, List, [], ◌∷◌, ◌++◌, length, drop, flat_map, Option, Some}
use Rattle.std.specs.Prelude.{None, option_map, Result, Ok, Err, if◌then◌else◌}
use Rattle.std.specs.List.{AllByRecursion}
use Rattle.acap_lexer.specs.Held.{next_of}
use Rattle.acap_lexer.specs.Holding.{Held}
use Rattle.acap_lexer.specs.declared.lexed.Lexed.{Lexed}
use Rattle.acap_lexer.specs.declared.lexed.Lexed.TheVariants as lexed
use Rattle.acap_lexer.specs.declared.lexed.Mode.TheVariants as mode
use Rattle.acap_commands.specs.declared.command.Command.{Command}
use Rattle.acap_commands.specs.declared.event.Event.{Event}
use Rattle.acap_commands.specs.declared.said.Said.{Said}
use Rattle.acap_grammar.specs.Grammar.{command_of}
use Rattle.acap_grammar.specs.Lines.{Line}
use Rattle.acap_grammar.specs.Listening.{hears}
use Rattle.acap_grammar.specs.Readable.{after}
use Rattle.acap_grammar.specs.Sayable.{FitsU64, numbers_of}
use Rattle.acap_grammar.specs.declared.command_fault.CommandFault.{CommandFault}
use Rattle.acap_dialogue.specs.Hearing.{tag_of}
use Rattle.acap_dialogue.specs.declared.stage.Stage.{Stage}
use Rattle.acap_dialogue.specs.declared.stage.Stage.TheVariants as stage
use Rattle.acap_client.specs.Following.{Follower, new, ask, follow_all}
use Rattle.acap_session.specs.Live.{told_in}
use Rattle.acap_session.specs.Places.{SeatSession, place_at}
use Rattle.acap_session.specs.World as world
use Rattle.acap_session.specs.World.{World, Action, Step, did, open_at, said_before}

-- ---- a step, and what stands at its seat before it

abbrev pub after_step : World → Step → World
after_step w x = did x.occasion x.refused x.action w

abbrev pub now_at : World → Step → Option SeatSession
now_at w x = open_at w x.occasion.seat

-- ---- what is sent: a command, under its tag, that the session takes from its client's octets

abbrev pub sent_as : Option (List ℕ) → Result Command CommandFault → Option (List ℕ × Command)
sent_as tag (Ok c) = option_map (λ t. (t, c)) tag
sent_as tag (Err fault) = None

abbrev pub sent_line : Lexed → Option (List ℕ × Command)
sent_line lexed.More = None
sent_line lexed.Plus = None
sent_line (lexed.Line tokens) = sent_as (tag_of tokens) (command_of tokens)
sent_line (lexed.Bad fault tag) = None
sent_line (lexed.Fatal fault) = None

abbrev pub sent_at : Stage → Held → Option (List ℕ × Command)
sent_at stage.Ready held = sent_line (next_of mode.Command held).0
sent_at other held = None

abbrev pub sent_by : Action → Option SeatSession → Option (List ℕ × Command)
sent_by world.Turn (Some place) = sent_at place.talk.stage place.talk.held
sent_by action now = None

abbrev pub sent_in : World → Step → Option (List ℕ × Command)
sent_in w x = sent_by x.action (now_at w x)

-- ---- what is said: the octets that are at the seat after the step, and were not there before

abbrev pub out_at : World → ℕ → List ℕ
out_at w seat = said_before (place_at w.places seat)

abbrev pub said_in : World → Step → List ℕ
said_in w x = drop (length (out_at w x.occasion.seat)) (out_at (after_step w x) x.occasion.seat)

-- the lines that a client hears in octets which begin a line; one that says nothing is passed over
abbrev pub says : Option Line → List Line
says None = []
says (Some line) = line ∷ []

abbrev pub lines_in : List ℕ → List Line
lines_in octets = flat_map says (hears (after []) octets).lines

-- of the octets of a session that opens nothing was there before
abbrev pub so_far : {A : Type 0} → Action → Option SeatSession → List A → List A
so_far (world.Open user) None before = []
so_far action now before = before

-- with what a step adds to it at its seat
abbrev pub with_more : {A : Type 0} → World → Step → List A → List A → List A
with_more w x before more = so_far x.action (now_at w x) before ++ more

-- all octets that are said at a seat from the greeting of its present session on
abbrev pub octets_in : ℕ → List Step → World → List ℕ → List ℕ
octets_in seat [] w octets = octets
octets_in seat (x ∷ xs) w octets =
    let more = with_more w x octets (said_in w x) in
    octets_in seat xs (after_step w x) (if x.occasion.seat == seat then more else octets)

-- and the lines in them, step by step
abbrev pub lines_read : ℕ → List Step → World → List Line → List Line
lines_read seat [] w lines = lines
lines_read seat (x ∷ xs) w lines =
    let more = with_more w x lines (lines_in (said_in w x)) in
    lines_read seat xs (after_step w x) (if x.occasion.seat == seat then more else lines)

-- ---- the follower of a seat

-- it begins anew with each session
abbrev pub begun : Action → Option SeatSession → Follower → Follower
begun (world.Open user) None f = new
begun action now f = f

-- is given a command before it reads what is said to it
abbrev pub asking : Option (List ℕ × Command) → Follower → Follower
asking None f = f
asking (Some sent) f = ask sent.0 sent.1 f

abbrev pub before_lines : World → Step → Follower → Follower
before_lines w x f = asking (sent_in w x) (begun x.action (now_at w x) f)

-- and reads all lines: what it then is, and the contexts of the lines that didn't fit
abbrev pub after_lines : World → Step → Follower → Follower × List (List ℕ)
after_lines w x f = follow_all (lines_in (said_in w x)) (before_lines w x f)

-- over a list of steps
abbrev pub follower_in : ℕ → List Step → World → Follower → Follower
follower_in seat [] w f = f
follower_in seat (x ∷ xs) w f =
    let read = (after_lines w x f).0 in
    follower_in seat xs (after_step w x) (if x.occasion.seat == seat then read else f)

-- ---- what can be read: the numbers that are said, and how many octets there are, have 64 bits

abbrev pub numbers_told : Option (Event × Said) → List ℕ
numbers_told None = []
numbers_told (Some told) = numbers_of told.1

pub record IsPrintable (w : World) (x : Step) : Type 0 where
  pub numbers : AllByRecursion FitsU64 (numbers_told (told_in w x))
  pub fits : FitsU64 (length (said_in w x))

abbrev pub ArePrintable : ℕ → List Step → World → Type 0
ArePrintable seat [] w = Unit {0}
ArePrintable seat (x ∷ xs) w =
    (x.occasion.seat ≡ seat → IsPrintable w x) × ArePrintable seat xs (after_step w x)
