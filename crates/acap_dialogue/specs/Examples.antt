-- Examples of what a session says, by the definitions alone [RFC
-- 2244 sections 2.2, 2.6.3, 3.6, 6.2 and 6.3.1; RFC 2195 section 2].
use Rattle.std.specs.Prelude.{◌≡◌, ℕ, List, [], ◌∷◌, ◌++◌, map, replicate, codes, pos, negsuc, Bool, true}
use Rattle.std.specs.Prelude.{false, Option, Some, None, Ok, Err}
use Rattle.acap_lexer.specs.Token.{Token}
use Rattle.acap_lexer.specs.declared.fault.LexFault.TheVariants as lexical
use Rattle.acap_lexer.specs.declared.kind.Kind.TheVariants as kind
use Rattle.acap_lexer.specs.declared.lexed.Lexed.{Lexed}
use Rattle.acap_lexer.specs.declared.lexed.Lexed.TheVariants as lexed
use Rattle.acap_login.specs.Login.{User}
use Rattle.acap_grammar.specs.Replies.{greeting, crlf}
use Rattle.acap_commands.specs.declared.command.Command.TheVariants as command
use Rattle.acap_commands.specs.declared.reply.Reply.{Reply}
use Rattle.acap_commands.specs.declared.said.Said.{Said}
use Rattle.acap_commands.specs.declared.said.Said.TheVariants as said
use Rattle.acap_commands.specs.declared.command.Verb.TheVariants as verb
use Rattle.acap_commands.specs.declared.event.Event.TheVariants as event
use Rattle.acap_commands.specs.declared.event.Fault.TheVariants as fault
use Rattle.acap_dialogue.specs.Hearing.{response_to, heard_answer, opening, seconds_of}
use Rattle.acap_dialogue.specs.Running.{At, Did, Drain, Leave, Outcome, Piece, Turn, after_steps, start}
use Rattle.acap_dialogue.specs.Session.{after_answer, is_asked, session_next, session_drain}
use Rattle.acap_dialogue.specs.Talking.{Talking}
use Rattle.acap_dialogue.specs.declared.next.Next.{Next}
use Rattle.acap_dialogue.specs.declared.next.Next.TheVariants as next
use Rattle.acap_dialogue.specs.declared.stage.Stage.{Stage}
use Rattle.acap_dialogue.specs.declared.stage.Stage.TheVariants as stage

-- a line is said, and the session goes on; or it is said and the session is closed
abbrev pub says : List ℕ → Next × Stage
says line = (next.Say (line ++ crlf), stage.Ready)

abbrev pub ends : List ℕ → Next × Stage
ends text = (next.Close text, stage.Closed)

abbrev pub plain : Said → Reply
plain words = record { tag = None; said = words }

-- a command under the tag `A1` that waits for its answer
abbrev pub waiting : Stage
waiting = stage.Asked (Some (codes "A1"))

abbrev pub joe : Option (List ℕ)
joe = Some (codes "joe")

-- a session at a stage, with a text that it holds
abbrev pub talking : Option (List ℕ) → Stage → List ℕ → Talking
talking user stage text =
    record {
      host = codes "postoffice.reston.mci.net";
      user = user;
      held = record { text = text; told = 0; fatal = None };
      stage = stage;
    }

-- and the same with what is said
abbrev pub then_says : Option (List ℕ) → List ℕ → Next × Talking
then_says user line = (next.Say (line ++ crlf), talking user stage.Ready [])

abbrev pub then_ends : Option (List ℕ) → List ℕ → Next × Talking
then_ends user text = (next.Close text, talking user stage.Closed [])

-- ---- what is said to the machine's answer

abbrev pub logging : Stage
logging = stage.LoggingIn (Some (codes "A1")) (codes "tim")

pub record AnswerExamples : Type 0 where
  pub asked : map is_asked (stage.Opening ∷ stage.Entering ∷ stage.Ready ∷ waiting ∷ stage.Challenged None []
      ∷ logging ∷ stage.Draining ∷ stage.Closed ∷ [])
      ≡ false ∷ true ∷ false ∷ true ∷ false ∷ true ∷ true ∷ false ∷ []
  pub enters : after_answer (talking joe stage.Entering []) (Ok (plain said.Greeting))
      ≡ (next.Say greeting, talking joe stage.Ready [])
  pub may_not_enter : map (λ f. after_answer (talking joe stage.Entering []) (Err f))
      (fault.Memory ∷ fault.NotEntered ∷ fault.AlreadyEntered ∷ fault.HistoryFull ∷ [])
      ≡ replicate 4 (then_ends joe [])
  pub done : after_answer (talking joe waiting []) (Ok (plain (said.Done verb.Store)))
      ≡ then_says joe (codes "A1 OK \"STORE done\"")
  pub no_memory : after_answer (talking joe waiting []) (Err fault.Memory)
      ≡ then_says joe (codes "A1 NO (TRYLATER) \"No memory\"")
  pub history_full : after_answer (talking joe waiting []) (Err fault.HistoryFull)
      ≡ then_says joe (codes "A1 NO (TRYLATER) \"History is full\"")
  pub not_entered : map (λ f. after_answer (talking joe waiting []) (Err f))
      (fault.NotEntered ∷ fault.AlreadyEntered ∷ []) ≡ replicate 2 (then_ends joe [])
  -- who has entered after a login is the session's user; where that was refused there is none
  pub logged_in : after_answer (talking None logging []) (Ok (plain said.Greeting))
      ≡ then_says (Some (codes "tim")) (codes "A1 OK \"AUTHENTICATE done\"")
  pub login_no_memory : after_answer (talking None logging []) (Err fault.Memory)
      ≡ then_says None (codes "A1 NO (TRYLATER) \"No memory\"")
  pub login_history_full : after_answer (talking None logging []) (Err fault.HistoryFull)
      ≡ then_says None (codes "A1 NO (TRYLATER) \"History is full\"")
  pub login_seat : map (λ f. after_answer (talking None logging []) (Err f))
      (fault.NotEntered ∷ fault.AlreadyEntered ∷ []) ≡ replicate 2 (then_ends None [])
  -- a drain that is refused says nothing, and where the seat isn't the session's own it ends
  pub drained : map (after_answer (talking joe stage.Draining []))
      (Ok (plain (said.Drained [])) ∷ Err fault.Memory ∷ Err fault.HistoryFull ∷ [])
      ≡ replicate 3 (next.Say [], talking joe stage.Ready [])
  pub drain_seat : map (λ f. after_answer (talking joe stage.Draining []) (Err f))
      (fault.NotEntered ∷ fault.AlreadyEntered ∷ []) ≡ replicate 2 (then_ends joe [])

-- ---- what is said to an answer of the lexer

abbrev pub token : List ℕ → Token
token text = record { kind = kind.Word; value = text; start = 0; end = 0 }

abbrev pub string : List ℕ → Token
string text = record { kind = kind.Quoted; value = text; start = 0; end = 0 }

-- the line `A1 ..`
abbrev pub line : List Token → Lexed
line tokens = lexed.Line (record { kind = kind.Tag; value = codes "A1"; start = 0; end = 2 } ∷ tokens)

-- `FREECONTEXT` and a name, which concerns the store
abbrev pub free : List ℕ → Lexed
free name = line (token (codes "FREECONTEXT") ∷ string name ∷ [])

abbrev pub authenticate : List ℕ → Lexed
authenticate mechanism = line (token (codes "AUTHENTICATE") ∷ string mechanism ∷ [])

-- a host, a nonce and a moment
abbrev pub hears : Option (List ℕ) → Lexed → Next × Stage
hears user x =
    response_to
    (record {
      host = codes "postoffice.reston.mci.net";
      user = user;
      nonce = 1896;
      clock = pos 697170952000000;
    }) x

abbrev pub rfc_challenge : List ℕ
rfc_challenge = codes "<1896.697170952@postoffice.reston.mci.net>"

abbrev pub challenge_stage : Stage
challenge_stage = stage.Challenged (Some (codes "A1")) rfc_challenge

pub record HearingExamples : Type 0 where
  pub begins : opening None ≡ (next.Say greeting, stage.Ready)
  pub enters : opening joe ≡ (next.Ask (event.Enter (codes "joe")), stage.Entering)
  pub nothing : hears joe lexed.More ≡ (next.More, stage.Ready)
  pub continues : hears joe lexed.Plus ≡ says (codes "+ \"Ready\"")
  pub bad : hears joe (lexed.Bad lexical.BadToken (Some (codes "A1"))) ≡ says (codes "A1 BAD \"Bad token\"")
  pub bad_tag : hears joe (lexed.Bad lexical.BadTag None) ≡ says (codes "* BAD \"Bad tag\"")
  pub too_long : hears joe (lexed.Fatal lexical.LineTooLong) ≡ ends (codes "* BYE \"Line too long\"" ++ crlf)
  pub noop : hears None (line (token (codes "NOOP") ∷ [])) ≡ says (codes "A1 OK \"NOOP done\"")
  pub logout : hears None (line (token (codes "LOGOUT") ∷ []))
      ≡ ends (codes "* BYE \"Good bye\"" ++ crlf ++ codes "A1 OK \"LOGOUT done\"" ++ crlf)
  -- the machine is asked only for a user, and what is wrong with a line is answered before that
  pub asks : hears joe (free (codes "c"))
      ≡ (next.Ask (event.Command (command.FreeContext (codes "c"))), waiting)
  pub log_in : hears None (free (codes "c")) ≡ says (codes "A1 BAD \"Log in first\"")
  pub fault_first : hears None (free []) ≡ says (codes "A1 BAD \"Bad name\"")
  -- a login begins with a challenge; who is logged in needs none, whatever the mechanism
  pub challenge : hears None (authenticate (codes "cram-md5"))
      ≡ (next.Say (codes "+ \"<1896.697170952@postoffice.reston.mci.net>\"" ++ crlf), challenge_stage)
  pub no_mechanism : hears None (authenticate (codes "PLAIN"))
      ≡ says (codes "A1 NO \"Mechanism not offered\"")
  pub logged_in : map (λ m. hears joe (authenticate m)) (codes "CRAM-MD5" ∷ codes "PLAIN" ∷ [])
      ≡ replicate 2 (says (codes "A1 BAD \"Already logged in\""))
  pub seconds : map seconds_of (negsuc 0 ∷ pos 0 ∷ pos 999999 ∷ pos 1000000 ∷ []) ≡ 0 ∷ 0 ∷ 0 ∷ 1 ∷ []

-- ---- what is said to the answer to a challenge

abbrev pub tims : List User
tims = (codes "tim", codes "tanstaaftanstaaf") ∷ []

abbrev pub hears_answer : Lexed → Next × Stage
hears_answer x = heard_answer tims (Some (codes "A1")) rfc_challenge x

abbrev pub answer : Token → Lexed
answer t = lexed.Line (t ∷ [])

pub record LoginExamples : Type 0 where
  pub accepted : hears_answer (answer (string (codes "tim b913a602c7eda7a495b4e6e7334d3890")))
      ≡ (next.Ask (event.Enter (codes "tim")), stage.LoggingIn (Some (codes "A1")) (codes "tim"))
  pub refused : hears_answer (answer (string (codes "tim B913A602C7EDA7A495B4E6E7334D3890")))
      ≡ says (codes "A1 NO \"Login failed\"")
  -- a word is no answer, and `*` gives the login up; the string `*` is an answer
  pub cancelled : hears_answer (answer (token (codes "*"))) ≡ says (codes "A1 BAD \"Login cancelled\"")
  pub other_word : hears_answer (answer (token (codes "tim"))) ≡ says (codes "A1 BAD \"Bad arguments\"")
  pub star : hears_answer (answer (string (codes "*"))) ≡ says (codes "A1 NO \"Login failed\"")
  -- any other line ends the login: two tokens, none, one that can't be read
  pub two : hears_answer (lexed.Line (token (codes "A2") ∷ token (codes "LOGOUT") ∷ []))
      ≡ says (codes "A1 BAD \"Bad arguments\"")
  pub none : hears_answer (lexed.Line []) ≡ says (codes "A1 BAD \"Bad arguments\"")
  pub bad : hears_answer (lexed.Bad lexical.BadToken None) ≡ says (codes "A1 BAD \"Bad arguments\"")
  pub too_long : hears_answer (lexed.Fatal lexical.LineTooLong)
      ≡ ends (codes "* BYE \"Line too long\"" ++ crlf)
  pub waits : hears_answer lexed.More ≡ (next.More, challenge_stage)
  pub continues : hears_answer lexed.Plus ≡ (next.Say (codes "+ \"Ready\"" ++ crlf), challenge_stage)

-- ---- what is next

abbrev pub nexts : Talking → Next × Talking
nexts t = session_next tims 1896 (pos 697170952000000) t

pub record NextExamples : Type 0 where
  -- a session that awaits the machine's answer, or is closed, hears nothing
  pub entering : (text : List ℕ)
      → nexts (talking joe stage.Entering text) ≡ (next.More, talking joe stage.Entering text)
  pub asking : (text : List ℕ) → nexts (talking joe waiting text) ≡ (next.More, talking joe waiting text)
  pub logging_in : (text : List ℕ)
      → nexts (talking None logging text) ≡ (next.More, talking None logging text)
  pub draining : (text : List ℕ)
      → nexts (talking joe stage.Draining text) ≡ (next.More, talking joe stage.Draining text)
  pub closed : (text : List ℕ) → nexts (talking joe stage.Closed text)
      ≡ (next.More, talking joe stage.Closed text)
  pub opens : (text : List ℕ) → nexts (talking joe stage.Opening text)
      ≡ (next.Ask (event.Enter (codes "joe")), talking joe stage.Entering text)
  pub hears : nexts (talking joe stage.Ready (codes "A1 NOOP" ++ crlf ++ codes "A2"))
      ≡ (next.Say (codes "A1 OK \"NOOP done\"" ++ crlf), talking joe stage.Ready (codes "A2"))
  -- the line after an AUTHENTICATE is its answer, though it was sent before the challenge
  pub challenge : nexts
      (talking None stage.Ready (codes "A1 AUTHENTICATE \"CRAM-MD5\"" ++ crlf ++ codes "*" ++ crlf))
      ≡ (
        next.Say (codes "+ \"<1896.697170952@postoffice.reston.mci.net>\"" ++ crlf),
        talking None challenge_stage (codes "*" ++ crlf),
      )
  pub sent_ahead : nexts (talking None challenge_stage (codes "*" ++ crlf))
      ≡ then_says None (codes "A1 BAD \"Login cancelled\"")
  -- what is pending is asked for by a user's session that awaits nothing
  pub drains : session_drain (talking joe stage.Ready [])
      ≡ (next.Ask event.Drain, talking joe stage.Draining [])
  pub nobody_drains : session_drain (talking None stage.Ready []) ≡ (next.More, talking None stage.Ready [])
  pub no_drain : session_drain (talking joe waiting []) ≡ (next.More, talking joe waiting [])

-- ---- runs

-- what a run of a session comes to, of that user if there is one
abbrev pub runs : Option (List ℕ) → List Did → Option At
runs user dids = after_steps tims dids (start (codes "postoffice.reston.mci.net") user)

-- where it stands then
abbrev pub stands : Option (List ℕ) → Stage → List ℕ → Bool → Option At
stands user stage out seated = Some (record { talk = talking user stage []; out = out; seated = seated })

abbrev pub replies : Said → Outcome
replies words = Some (Ok (plain words))

-- a turn at the beginning of 1970
abbrev pub turn : Outcome → Outcome → Did
turn asked left = Turn (pos 0) 0 asked left

abbrev pub logout : Did
logout = Piece (codes "A1 LOGOUT" ++ crlf)

abbrev pub farewell : List ℕ
farewell = codes "* BYE \"Good bye\"" ++ crlf ++ codes "A1 OK \"LOGOUT done\"" ++ crlf

pub record RunExamples : Type 0 where
  -- a user enters, and is heard
  pub enters : runs joe (turn (replies said.Greeting) None ∷ []) ≡ stands joe stage.Ready greeting true
  -- who is closed leaves the seat in the same turn, and that Leave is answered
  pub leaves : runs joe (turn (replies said.Greeting) None ∷ logout ∷ turn None (replies said.Left) ∷ [])
      ≡ stands joe stage.Closed (greeting ++ farewell) false
  pub must_leave : runs joe (turn (replies said.Greeting) None ∷ logout ∷ turn None None ∷ []) ≡ None
  -- who never entered has nothing to leave
  pub nothing_left : runs None (turn None None ∷ logout ∷ turn None None ∷ [])
      ≡ stands None stage.Closed (greeting ++ farewell) false
  pub no_leave : runs None (turn None None ∷ logout ∷ turn None (replies said.Left) ∷ []) ≡ None
  pub refused : runs joe (turn (Some (Err fault.AlreadyEntered)) None ∷ []) ≡ stands joe stage.Closed [] false
  -- an event that is asked is answered, and nothing else is
  pub unanswered : runs joe (turn None None ∷ []) ≡ None
  pub not_asked : runs None (turn (replies said.Greeting) None ∷ []) ≡ None
  -- a drain before a login asks nothing
  pub drains : runs joe (turn (replies said.Greeting) None ∷ Drain (pos 0) (replies (said.Drained [])) None
      ∷ []) ≡ stands joe stage.Ready greeting true
  pub nobody_drains : runs None (turn None None ∷ Drain (pos 0) None None ∷ [])
      ≡ stands None stage.Ready greeting false
  pub no_drain : runs None (turn None None ∷ Drain (pos 0) (replies (said.Drained [])) None ∷ []) ≡ None
  -- a session ends without a word
  pub ends : runs joe (turn (replies said.Greeting) None ∷ Leave (pos 0) (replies said.Left) ∷ [])
      ≡ stands joe stage.Closed greeting false
