-- What a session says in a turn: nothing, a continuation, or the octets of one reply.
use Rattle.std.proofs.Common.{◌≡◌, ◌⊎◌, inl, inr, ℕ, Bool, true, false, List, [], ◌∷◌, Option, Some, None, Result, Ok, Err, refl, ap, if◌then◌else◌}
use Rattle.std.specs.Prelude.{is_some}
use Rattle.std.specs.Str.{str_eq_ignore_ascii_case}
use Rattle.acap_lexer.specs.Held.{next_of}
use Rattle.acap_lexer.specs.Holding.{Held}
use Rattle.acap_lexer.specs.Token.{Token}
use Rattle.acap_lexer.specs.declared.kind.Kind.{Kind}
use Rattle.acap_lexer.specs.declared.kind.Kind.TheVariants as kind
use Rattle.acap_lexer.specs.declared.lexed.Lexed.{Lexed}
use Rattle.acap_lexer.specs.declared.lexed.Lexed.TheVariants as lexed
use Rattle.acap_lexer.specs.declared.lexed.Mode.TheVariants as mode
use Rattle.acap_login.specs.Login.{User}
use Rattle.acap_commands.specs.Statuses.{status_of}
use Rattle.acap_commands.specs.declared.command.Command.{Command}
use Rattle.acap_commands.specs.declared.command.Command.TheVariants as command
use Rattle.acap_commands.specs.declared.event.Event.{Event}
use Rattle.acap_commands.specs.declared.event.Event.TheVariants as event
use Rattle.acap_commands.specs.declared.event.Fault.{Fault}
use Rattle.acap_commands.specs.declared.event.Fault.TheVariants as fault
use Rattle.acap_commands.specs.declared.refusal.Refusal.TheVariants as refusals
use Rattle.acap_commands.specs.declared.reply.Reply.{Reply}
use Rattle.acap_commands.specs.declared.said.Said.{Said}
use Rattle.acap_commands.specs.declared.said.Said.TheVariants as said
use Rattle.acap_commands.specs.declared.command.Verb.TheVariants as verb
use Rattle.acap_dialogue.specs.Hearing.{response_to, heard_line, heard_command, heard_answer, answer_line, answer_token, login_or_refusal, challenges, mechanism_name, logs_in, who, asks, opening, tag_of, ready_line}
use Rattle.acap_dialogue.specs.Listening.{Listening}
use Rattle.acap_dialogue.specs.Session.{answer_said, command_said, drain_said, is_closed, login_said, welcome_said}
use Rattle.acap_dialogue.specs.declared.next.Next.{Next}
use Rattle.acap_dialogue.specs.declared.next.Next.TheVariants as next
use Rattle.acap_dialogue.specs.declared.stage.Stage.{Stage}
use Rattle.acap_dialogue.specs.declared.stage.Stage.TheVariants as stage
use Rattle.acap_grammar.specs.Grammar.{command_of}
use Rattle.acap_grammar.specs.Marks.{word_at}
use Rattle.acap_grammar.specs.Replies.{octets_of, said_form}
use Rattle.acap_grammar.specs.declared.command_fault.CommandFault.{CommandFault}
use Rattle.acap_machine.specs.Completing.{is_answer}
use Rattle.acap_session.specs.Live.{told_with}
use Rattle.acap_session.specs.Places.{SeatSession}
use Rattle.acap_session.specs.World as world
use Rattle.acap_session.specs.World.{Action}
use Rattle.acap_wire.specs.Seat.{sent_as, sent_line, sent_at}
use Rattle.acap_wire.proofs.Replies.{asks_context, is_plain}

-- ---- the tag that a step answers under

-- the tag of what is answered: that of the line that is heard, or of the login that goes on
abbrev pub tag_of_line : Lexed → Option (List ℕ)
tag_of_line lexed.More = None
tag_of_line lexed.Plus = None
tag_of_line (lexed.Line tokens) = tag_of tokens
tag_of_line (lexed.Bad fault tag) = tag
tag_of_line (lexed.Fatal fault) = None

abbrev pub login_tag : Lexed → Option (List ℕ) → Option (List ℕ)
login_tag lexed.More tag = None
login_tag lexed.Plus tag = None
login_tag (lexed.Line tokens) tag = tag
login_tag (lexed.Bad fault other) tag = tag
login_tag (lexed.Fatal fault) tag = None

abbrev pub tag_at : Stage → Held → Option (List ℕ)
tag_at stage.Ready held = tag_of_line (next_of mode.Command held).0
tag_at (stage.Challenged tag challenge) held = login_tag (next_of mode.Answer held).0 tag
tag_at other held = None

abbrev pub tag_by : Action → Option SeatSession → Option (List ℕ)
tag_by world.Turn (Some place) = tag_at place.talk.stage place.talk.held
tag_by action now = None

-- ---- how what is said goes with the command that was sent, and with what the machine said

abbrev pub Fails : Said → Type 0
Fails (said.Refused why) = is_answer (status_of why) ≡ true
Fails other = ⊥

-- a command that the machine answers nothing to
abbrev pub IsUnanswered : Command → Said → Type 0
IsUnanswered c words = Fails words ⊎ ((asks_context c ≡ false) × (is_plain words ≡ true))

-- what is said where the machine said something to an event that is no command
abbrev pub IsEvent : Event → Said → Said → Type 0
IsEvent (event.Enter user) words spoken = words ≡ said.Greeting → is_plain spoken ≡ true
IsEvent event.Drain words spoken = words ≡ spoken
IsEvent (event.Command c) words spoken = ⊥
IsEvent event.Leave words spoken = ⊥

abbrev pub Fitting : Option (List ℕ × Command) → Option (Event × Said) → Option (List ℕ) → Said → Type 0
Fitting (Some sent) (Some told) tag spoken = (tag ≡ Some sent.0) × (told.0 ≡ event.Command sent.1) × (told.1 ≡ spoken)
Fitting (Some sent) None tag spoken = (tag ≡ Some sent.0) × IsUnanswered sent.1 spoken
Fitting None (Some told) tag spoken = IsEvent told.0 told.1 spoken
Fitting None None tag spoken = is_plain spoken ≡ true

-- nothing, as where the session is cut off; a continuation; or a reply
pub data Speech (sent : Option (List ℕ × Command)) (told : Option (Event × Said)) (tag : Option (List ℕ)) (octets : List ℕ) (closed : Bool) : Type 0 where
  Silent : octets ≡ [] → told ≡ None → (closed ≡ false → sent ≡ None) → Speech sent told tag octets closed
  Ready : octets ≡ ready_line → sent ≡ None → told ≡ None → Speech sent told tag octets closed
  Says : (words : Said) → octets ≡ octets_of (record { tag = tag; said = words }) → Fitting sent told tag words → Speech sent told tag octets closed

-- ---- a turn, by what is next, and by what the machine answers to the event that is asked

abbrev pub said_by : Next → List ℕ
said_by next.More = []
said_by (next.Say octets) = octets
said_by (next.Ask event) = []
said_by (next.Close octets) = octets

abbrev pub octets_by : Next × Stage → (Event → Result Reply Fault) → List ℕ
octets_by (next.More, s) r = []
octets_by (next.Say octets, s) r = octets
octets_by (next.Ask event, s) r = said_by (answer_said s (r event)).0
octets_by (next.Close octets, s) r = octets

abbrev pub told_by : Next × Stage → (Event → Result Reply Fault) → Option (Event × Said)
told_by (next.More, s) r = None
told_by (next.Say octets, s) r = None
told_by (next.Ask event, s) r = told_with event (r event)
told_by (next.Close octets, s) r = None

abbrev pub closed_by : Next × Stage → (Event → Result Reply Fault) → Bool
closed_by (next.More, s) r = is_closed s
closed_by (next.Say octets, s) r = is_closed s
closed_by (next.Ask event, s) r = is_closed (answer_said s (r event)).1
closed_by (next.Close octets, s) r = is_closed s

abbrev pub Spoken : Option (List ℕ × Command) → Option (List ℕ) → Next × Stage → (Event → Result Reply Fault) → Type 0
Spoken sent tag x r = Speech sent (told_by x r) tag (octets_by x r) (closed_by x r)

-- ---- what is answered to an event

asked_said : (t : List ℕ) (c : Command) (r : Result Reply Fault)
    → Speech (Some (t, c)) (told_with (event.Command c) r) (Some t) (said_by (command_said (Some t) r).0) (is_closed (command_said (Some t) r).1)
asked_said t c (Ok reply) = Says reply.said refl (refl, refl, refl)
asked_said t c (Err fault.Memory) = Says (said.Refused refusals.Memory) refl (refl, inl refl)
asked_said t c (Err fault.HistoryFull) = Says (said.Refused refusals.HistoryFull) refl (refl, inl refl)
asked_said t c (Err fault.NotEntered) = Silent refl refl (λ e. absurd cc)
asked_said t c (Err fault.AlreadyEntered) = Silent refl refl (λ e. absurd cc)

quiet_greeting : (words : Said) → words ≡ said.Greeting → is_plain words ≡ true
quiet_greeting words e = ap is_plain e

entered_said : (user : List ℕ) (r : Result Reply Fault)
    → Speech None (told_with (event.Enter user) r) None (said_by (welcome_said r).0) (is_closed (welcome_said r).1)
entered_said user (Ok reply) = Says reply.said refl (quiet_greeting reply.said)
entered_said user (Err f) = Silent refl refl (λ e. refl)

login_fails : (tag : Option (List ℕ)) (user : List ℕ) (f : Fault)
    → Speech None None tag (said_by (command_said tag (Err f)).0) (is_closed (command_said tag (Err f)).1)
login_fails tag user fault.Memory = Says (said.Refused refusals.Memory) refl refl
login_fails tag user fault.HistoryFull = Says (said.Refused refusals.HistoryFull) refl refl
login_fails tag user fault.NotEntered = Silent refl refl (λ e. refl)
login_fails tag user fault.AlreadyEntered = Silent refl refl (λ e. refl)

logged_said : (tag : Option (List ℕ)) (user : List ℕ) (r : Result Reply Fault)
    → Speech None (told_with (event.Enter user) r) tag (said_by (login_said tag r).0) (is_closed (login_said tag r).1)
logged_said tag user (Ok reply) = Says (said.Done verb.Authenticate) refl (λ e. refl)
logged_said tag user (Err f) = login_fails tag user f

pub drained_said : (r : Result Reply Fault) → Speech None (told_with event.Drain r) None (said_by (drain_said r).0) (is_closed (drain_said r).1)
drained_said (Ok reply) = Says reply.said refl refl
drained_said (Err fault.Memory) = Silent refl refl (λ e. refl)
drained_said (Err fault.HistoryFull) = Silent refl refl (λ e. refl)
drained_said (Err fault.NotEntered) = Silent refl refl (λ e. refl)
drained_said (Err fault.AlreadyEntered) = Silent refl refl (λ e. refl)

-- ---- a turn, by the stage

abbrev pub turn_at : List User → Listening → Option (List ℕ) → Stage → Held → Next × Stage
turn_at users l user stage.Opening held = opening user
turn_at users l user stage.Ready held = response_to l (next_of mode.Command held).0
turn_at users l user (stage.Challenged tag challenge) held = heard_answer users tag challenge (next_of mode.Answer held).0
turn_at users l user other held = (next.More, other)

-- ---- a command that is heard

module _ (r : Event → Result Reply Fault) where
  asks_said : (user : Option (List ℕ)) (t : List ℕ) (c : Command) → Spoken (Some (t, c)) (Some t) (asks user (Some t) c) r
  asks_said None t c = Says (said.Refused refusals.NotLoggedIn) refl (refl, inl refl)
  asks_said (Some user) t c = asked_said t c (r (event.Command c))

  -- octets of a challenge have no tag
  challenge_said : (t : List ℕ) (c : Command) (challenge : List ℕ) → asks_context c ≡ false → Spoken (Some (t, c)) (Some t) (challenges (Some t) challenge) r
  unfolding octets_of said_form
  challenge_said t c challenge e = Says (said.Challenge challenge) refl (refl, inr (e, refl))

  if_spoken : (sent : Option (List ℕ × Command)) (tag : Option (List ℕ)) (b : Bool) (x y : Next × Stage) → Spoken sent tag x r → Spoken sent tag y r → Spoken sent tag (if b then x else y) r
  if_spoken sent tag true x y p q = p
  if_spoken sent tag false x y p q = q

  login_said_as : (l : Listening) (t mechanism : List ℕ) → Spoken (Some (t, command.Authenticate mechanism)) (Some t) (login_or_refusal l (Some t) mechanism) r
  login_said_as l t mechanism =
      if_spoken _ _ (is_some l.user) _ _ (Says (said.Refused refusals.LoggedIn) refl (refl, inl refl))
      (if_spoken _ _ (str_eq_ignore_ascii_case mechanism mechanism_name) _ _ (challenge_said t (command.Authenticate mechanism) _ refl)
      (Says (said.Refused refusals.NoMechanism) refl (refl, inl refl)))

  command_spoken : (l : Listening) (t : List ℕ) (c : Command) → Spoken (Some (t, c)) (Some t) (heard_command l (Some t) c) r
  unfolding heard_command
  command_spoken l t command.Noop = Says (said.Done verb.Noop) refl (refl, inr (refl, refl))
  command_spoken l t command.Logout = Says said.GoodBye refl (refl, inr (refl, refl))
  command_spoken l t (command.Authenticate mechanism) = login_said_as l t mechanism
  command_spoken l t (command.Store entries) = asks_said l.user t (command.Store entries)
  command_spoken l t (command.Search wanted) = asks_said l.user t (command.Search wanted)
  command_spoken l t (command.SetAcl object identifier rights) = asks_said l.user t (command.SetAcl object identifier rights)
  command_spoken l t (command.DeleteAcl object identifier) = asks_said l.user t (command.DeleteAcl object identifier)
  command_spoken l t (command.MyRights object) = asks_said l.user t (command.MyRights object)
  command_spoken l t (command.ListRights object identifier) = asks_said l.user t (command.ListRights object identifier)
  command_spoken l t (command.DeletedSince dataset since) = asks_said l.user t (command.DeletedSince dataset since)
  command_spoken l t (command.FreeContext name) = asks_said l.user t (command.FreeContext name)
  command_spoken l t (command.UpdateContext names) = asks_said l.user t (command.UpdateContext names)

  line_spoken : (l : Listening) (tag : Option (List ℕ)) (x : Result Command CommandFault) → ((c : Command) → x ≡ Ok c → tag ≡ None → ⊥)
      → Spoken (sent_as tag x) tag (heard_line l tag x) r
  line_spoken l (Some t) (Ok c) tagged = command_spoken l t c
  line_spoken l None (Ok c) tagged = absurd (tagged c refl refl)
  line_spoken l tag (Err f) tagged = Says (said.Refused _) refl refl

  -- a line without a token is no command
  has_tag : (tokens : List Token) (c : Command) → command_of tokens ≡ Ok c → tag_of tokens ≡ None → ⊥
  unfolding command_of word_at
  has_tag [] c e f = cc
  has_tag (token ∷ tokens) c e f = cc

  heard_spoken : (l : Listening) (x : Lexed) → Spoken (sent_line x) (tag_of_line x) (response_to l x) r
  unfolding response_to
  heard_spoken l lexed.More = Silent refl refl (λ e. refl)
  heard_spoken l lexed.Plus = Ready refl refl refl
  heard_spoken l (lexed.Line tokens) = line_spoken l (tag_of tokens) (command_of tokens) (has_tag tokens)
  heard_spoken l (lexed.Bad f tag) = Says (said.Refused _) refl refl
  heard_spoken l (lexed.Fatal f) = Says (said.Refused _) refl refl

  -- ---- the answer to a challenge

  logs_spoken : (tag user : Option (List ℕ)) → Spoken None tag (logs_in tag user) r
  logs_spoken tag None = Says (said.Refused refusals.LoginFailed) refl refl
  logs_spoken tag (Some user) = logged_said tag user (r (event.Enter user))

  token_spoken : (users : List User) (tag : Option (List ℕ)) (challenge : List ℕ) (k : Kind) (text : List ℕ) → Spoken None tag (answer_token users tag challenge k text) r
  token_spoken users tag challenge kind.Quoted text = logs_spoken tag (who users challenge text)
  token_spoken users tag challenge kind.Literal text = logs_spoken tag (who users challenge text)
  token_spoken users tag challenge kind.Word text = Says (said.Refused _) refl refl
  token_spoken users tag challenge kind.Tag text = Says (said.Refused _) refl refl
  token_spoken users tag challenge kind.Open text = Says (said.Refused _) refl refl
  token_spoken users tag challenge kind.Close text = Says (said.Refused _) refl refl

  tokens_spoken : (users : List User) (tag : Option (List ℕ)) (challenge : List ℕ) (tokens : List Token) → Spoken None tag (answer_line users tag challenge tokens) r
  tokens_spoken users tag challenge [] = Says (said.Refused refusals.Arguments) refl refl
  tokens_spoken users tag challenge (token ∷ []) = token_spoken users tag challenge token.kind token.value
  tokens_spoken users tag challenge (token ∷ other ∷ tokens) = Says (said.Refused refusals.Arguments) refl refl

  answer_spoken : (users : List User) (tag : Option (List ℕ)) (challenge : List ℕ) (x : Lexed) → Spoken None (login_tag x tag) (heard_answer users tag challenge x) r
  unfolding heard_answer
  answer_spoken users tag challenge lexed.More = Silent refl refl (λ e. refl)
  answer_spoken users tag challenge lexed.Plus = Ready refl refl refl
  answer_spoken users tag challenge (lexed.Line tokens) = tokens_spoken users tag challenge tokens
  answer_spoken users tag challenge (lexed.Bad f other) = Says (said.Refused refusals.Arguments) refl refl
  answer_spoken users tag challenge (lexed.Fatal f) = Says (said.Refused _) refl refl

  pub opening_spoken : (user : Option (List ℕ)) → Spoken None None (opening user) r
  unfolding opening
  opening_spoken None = Says said.Greeting refl refl
  opening_spoken (Some user) = entered_said user (r (event.Enter user))

  -- ---- a turn, by the stage

  pub turn_spoken : (users : List User) (l : Listening) (user : Option (List ℕ)) (s : Stage) (held : Held) → Spoken (sent_at s held) (tag_at s held) (turn_at users l user s held) r
  turn_spoken users l user stage.Opening held = opening_spoken user
  turn_spoken users l user stage.Entering held = Silent refl refl (λ e. refl)
  turn_spoken users l user stage.Ready held = heard_spoken l (next_of mode.Command held).0
  turn_spoken users l user (stage.Asked tag) held = Silent refl refl (λ e. refl)
  turn_spoken users l user (stage.Challenged tag challenge) held = answer_spoken users tag challenge (next_of mode.Answer held).0
  turn_spoken users l user (stage.LoggingIn tag name) held = Silent refl refl (λ e. refl)
  turn_spoken users l user stage.Draining held = Silent refl refl (λ e. refl)
  turn_spoken users l user stage.Closed held = Silent refl refl (λ e. refl)
