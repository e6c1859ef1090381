-- What a session says to an answer of its lexer, without the machine, or what it asks the machine then
-- [RFC 2244 sections 2.2, 2.6.3, 6.2 and 6.3.1; RFC 2195 section 2].
use Rattle.std.specs.Prelude.{ℕ, ℤ, pos, negsuc, ◌/◌, List, [], ◌∷◌, ◌++◌, Option, Some, None, is_some}
use Rattle.std.specs.Prelude.{Result, Ok, Err, option_map, slice_get, codes, if◌then◌else◌}
use Rattle.std.specs.Option.{option_and_then}
use Rattle.std.specs.Str.{bytes_eq, str_eq_ignore_ascii_case}
use Rattle.acap_lexer.specs.declared.kind.Kind.{Kind}
use Rattle.acap_lexer.specs.declared.kind.Kind.TheVariants as kind
use Rattle.acap_lexer.specs.declared.lexed.Lexed.{Lexed}
use Rattle.acap_lexer.specs.declared.lexed.Lexed.TheVariants as lexed
use Rattle.acap_lexer.specs.Token.{Token}
use Rattle.acap_login.specs.Login.{User, challenge_of, answering_user, name_at}
use Rattle.acap_grammar.specs.Grammar.{command_of}
use Rattle.acap_grammar.specs.Refusals.{of_lexical, of_grammar}
use Rattle.acap_grammar.specs.Replies.{octets_of, crlf}
use Rattle.acap_commands.specs.declared.command.Command.{Command}
use Rattle.acap_commands.specs.declared.command.Command.TheVariants as command
use Rattle.acap_grammar.specs.declared.command_fault.CommandFault.{CommandFault}
use Rattle.acap_commands.specs.declared.refusal.Refusal.{Refusal}
use Rattle.acap_commands.specs.declared.refusal.Refusal.TheVariants as refusals
use Rattle.acap_commands.specs.declared.said.Said.{Said}
use Rattle.acap_commands.specs.declared.said.Said.TheVariants as said
use Rattle.acap_commands.specs.declared.command.Verb.TheVariants as verb
use Rattle.acap_commands.specs.declared.event.Event.TheVariants as event
use Rattle.acap_dialogue.specs.Listening.{Listening}
use Rattle.acap_dialogue.specs.declared.next.Next.{Next}
use Rattle.acap_dialogue.specs.declared.next.Next.TheVariants as next
use Rattle.acap_dialogue.specs.declared.stage.Stage.{Stage}
use Rattle.acap_dialogue.specs.declared.stage.Stage.TheVariants as stage

-- words are said under a tag, and the session is ready again, or closed
abbrev pub says : Option (List ℕ) → Said → Next × Stage
says tag words = (next.Say (octets_of (record { tag = tag; said = words })), stage.Ready)

abbrev pub closes : Option (List ℕ) → Said → Next × Stage
closes tag words = (next.Close (octets_of (record { tag = tag; said = words })), stage.Closed)

abbrev pub refuses : Option (List ℕ) → Refusal → Next × Stage
refuses tag refusal = says tag (said.Refused refusal)

-- a command that concerns the store is the machine's, if there is a user
abbrev pub asks : Option (List ℕ) → Option (List ℕ) → Command → Next × Stage
asks None tag command = refuses tag refusals.NotLoggedIn
asks (Some user) tag command = (next.Ask (event.Command command), stage.Asked tag)

-- how many whole seconds a moment is after the start of 1970, and none where it lies before
abbrev pub seconds_of : ℤ → ℕ
seconds_of (pos micros) = micros / 1000000
seconds_of (negsuc n) = 0

-- the client is to answer this challenge
abbrev pub challenges : Option (List ℕ) → List ℕ → Next × Stage
challenges tag challenge = (
  next.Say (octets_of (record { tag = None; said = said.Challenge challenge })),
  stage.Challenged tag challenge,
)

-- the one mechanism, in any case
abbrev pub mechanism_name : List ℕ
mechanism_name = codes "CRAM-MD5"

abbrev pub challenge_or_refusal : Listening → Option (List ℕ) → List ℕ → Next × Stage
challenge_or_refusal l tag mechanism =
    if str_eq_ignore_ascii_case mechanism mechanism_name
    then challenges tag (challenge_of l.nonce (seconds_of l.clock) l.host)
    else refuses tag refusals.NoMechanism

-- a user who is logged in needs no mechanism, whatever it is
abbrev pub login_or_refusal : Listening → Option (List ℕ) → List ℕ → Next × Stage
login_or_refusal l tag mechanism =
    if is_some l.user then refuses tag refusals.LoggedIn else challenge_or_refusal l tag mechanism

unfoldable pub heard_command : Listening → Option (List ℕ) → Command → Next × Stage
heard_command l tag command.Noop = says tag (said.Done verb.Noop)
heard_command l tag command.Logout = closes tag said.GoodBye
heard_command l tag (command.Authenticate mechanism) = login_or_refusal l tag mechanism
heard_command l tag wanted = asks l.user tag wanted

abbrev pub heard_line : Listening → Option (List ℕ) → Result Command CommandFault → Next × Stage
heard_line l tag (Ok command) = heard_command l tag command
heard_line l tag (Err fault) = refuses tag (of_grammar fault)

-- the tag of a line is its first token
abbrev pub tag_of : List Token → Option (List ℕ)
tag_of tokens = option_map (λ t. t.value) (slice_get tokens 0)

-- the continuation that a waiting literal is due
abbrev pub ready_line : List ℕ
ready_line = codes "+ \"Ready\"" ++ crlf

-- what a session says to what it hears while no answer is awaited
unfoldable pub response_to : Listening → Lexed → Next × Stage
response_to l lexed.More = (next.More, stage.Ready)
response_to l lexed.Plus = (next.Say ready_line, stage.Ready)
response_to l (lexed.Line tokens) = heard_line l (tag_of tokens) (command_of tokens)
response_to l (lexed.Bad fault tag) = refuses tag (of_lexical fault)
response_to l (lexed.Fatal fault) = closes None (said.Refused (of_lexical fault))

-- ---- the client's answer to a challenge

-- whom an answer logs in
abbrev pub who : List User → List ℕ → List ℕ → Option (List ℕ)
who users challenge answer =
    option_and_then (λ place. name_at users place) (answering_user users challenge answer)

-- who is logged in asks to enter
abbrev pub logs_in : Option (List ℕ) → Option (List ℕ) → Next × Stage
logs_in tag None = refuses tag refusals.LoginFailed
logs_in tag (Some user) = (next.Ask (event.Enter user), stage.LoggingIn tag user)

-- why a token that is no string is refused: the word `*` gives the login up
abbrev pub refusal_of : Kind → List ℕ → Refusal
refusal_of kind.Word text = if bytes_eq text (codes "*") then refusals.Cancelled else refusals.Arguments
refusal_of other text = refusals.Arguments

-- an answer is a string
abbrev pub answer_token : List User → Option (List ℕ) → List ℕ → Kind → List ℕ → Next × Stage
answer_token users tag challenge kind.Quoted answer = logs_in tag (who users challenge answer)
answer_token users tag challenge kind.Literal answer = logs_in tag (who users challenge answer)
answer_token users tag challenge other text = refuses tag (refusal_of other text)

-- it stands alone in its line
abbrev pub answer_line : List User → Option (List ℕ) → List ℕ → List Token → Next × Stage
answer_line users tag challenge (token ∷ []) = answer_token users tag challenge token.kind token.value
answer_line users tag challenge [] = refuses tag refusals.Arguments
answer_line users tag challenge (token ∷ other ∷ tokens) = refuses tag refusals.Arguments

-- what a session says to what it hears while the answer to a challenge is awaited
unfoldable pub heard_answer : List User → Option (List ℕ) → List ℕ → Lexed → Next × Stage
heard_answer users tag challenge lexed.More = (next.More, stage.Challenged tag challenge)
heard_answer users tag challenge lexed.Plus = (next.Say ready_line, stage.Challenged tag challenge)
heard_answer users tag challenge (lexed.Line tokens) = answer_line users tag challenge tokens
heard_answer users tag challenge (lexed.Bad fault other) = refuses tag refusals.Arguments
heard_answer users tag challenge (lexed.Fatal fault) = closes None (said.Refused (of_lexical fault))

-- how a session begins: without a user it says the greeting, and a user's session first asks to enter
unfoldable pub opening : Option (List ℕ) → Next × Stage
opening None = says None said.Greeting
opening (Some user) = (next.Ask (event.Enter user), stage.Entering)
