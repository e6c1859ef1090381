-- The events that sessions ask name users and well-formed paths.
use Rattle.std.proofs.Common.{◌≡◌, ℕ, zero, suc, ◌==◌, ℤ, Bool, true, false, List, [], ◌∷◌, Option, Some, None, Result, Ok, Err, refl, sym, ap, subst, ◌∙◌, if◌then◌else◌}
use Rattle.std.specs.Prelude.{is_some, option_map}
use Rattle.std.specs.List.{list_all}
use Rattle.std.specs.Str.{str_eq_ignore_ascii_case}
use Rattle.std.specs.Option.{option_and_then, option_or}
use Rattle.std.proofs.lemmas.Bool.{and_parts, eqb-true, eqb-false}
use Rattle.acap_commands.specs.declared.command.Command.{Command}
use Rattle.acap_commands.specs.declared.command.Command.TheVariants as command
use Rattle.acap_commands.specs.declared.event.Event.{Event}
use Rattle.acap_commands.specs.declared.event.Event.TheVariants as event
use Rattle.acap_commands.specs.declared.event.Fault.{Fault}
use Rattle.acap_commands.specs.declared.event.Fault.TheVariants as fault
use Rattle.acap_commands.specs.declared.refusal.Refusal.TheVariants as refusals
use Rattle.acap_commands.specs.declared.reply.Reply.{Reply}
use Rattle.acap_dialogue.specs.Hearing.{response_to, heard_line, heard_command, heard_answer, answer_line, answer_token, asks, opening, logs_in, login_or_refusal, challenge_or_refusal, challenges, mechanism_name, refuses, seconds_of}
use Rattle.acap_dialogue.specs.Listening.{Listening}
use Rattle.acap_dialogue.specs.Session.{after_answer, answer_said, answer_user, comes_to, listening, next_at, session_next, session_drain, drain_at, drain_for, is_closed}
use Rattle.acap_dialogue.specs.Talking.{Talking, beginning}
use Rattle.acap_dialogue.specs.declared.next.Next.{Next}
use Rattle.acap_dialogue.specs.declared.next.Next.TheVariants as next
use Rattle.acap_dialogue.specs.declared.stage.Stage.{Stage}
use Rattle.acap_dialogue.specs.declared.stage.Stage.TheVariants as stage
use Rattle.acap_entries.specs.Names.{is_user_name}
use Rattle.acap_grammar.specs.Grammar.{command_of}
use Rattle.acap_grammar.specs.declared.command_fault.CommandFault.{CommandFault}
use Rattle.acap_lexer.specs.Held.{next_of}
use Rattle.acap_lexer.specs.Token.{Token}
use Rattle.acap_lexer.specs.declared.kind.Kind.{Kind}
use Rattle.acap_lexer.specs.declared.kind.Kind.TheVariants as kind
use Rattle.acap_lexer.specs.declared.lexed.Lexed.{Lexed}
use Rattle.acap_lexer.specs.declared.lexed.Lexed.TheVariants as lexed
use Rattle.acap_lexer.specs.declared.lexed.Mode.TheVariants as mode
use Rattle.acap_login.specs.Login.{User, name_at, answering_user, challenge_of}
use Rattle.acap_machine.specs.Following.{is_named}
use Rattle.acap_rights.specs.declared.realm.Realm.{Realm}
use Rattle.acap_session.specs.Laws.{OwnStep, asked_by, did_in, maker, own, own_of, place_in}
use Rattle.acap_dialogue.specs.Running as alone
use Rattle.acap_dialogue.specs.Running.{At, Did, Outcome, event_in, is_left, leaving, over, seated_by, after_saying, after_turn}
use Rattle.acap_session.specs.Live.{asked_in, has_name, is_named_action}
use Rattle.acap_session.specs.Places.{SeatSession, place_at, if_open}
use Rattle.acap_session.specs.World as world
use Rattle.acap_session.specs.World.{World, Action, Step, did, new_world, open_at}
use Rattle.acap_session.specs.declared.occasion.Occasion.{Occasion}
use Rattle.acap_session.proofs.Alone.{others_stay, step_alone}

-- ---- a session of a user who has a name

abbrev pub stage_named : Stage → Bool
stage_named (stage.LoggingIn tag user) = is_user_name user
stage_named other = true

pub record NamedTalk (t : Talking) : Type 0 where
  pub user : has_name t.user ≡ true
  pub stage : stage_named t.stage ≡ true

abbrev event_of : Next → Option Event
event_of (next.Ask event) = Some event
event_of other = None

-- what comes next, and at which stage the session then is
record Good (x : Next × Stage) : Type 0 where
  asks : (e : Event) → event_of x.0 ≡ Some e → is_named e ≡ true
  stage : stage_named x.1 ≡ true

record GoodTalk (x : Next × Talking) : Type 0 where
  asks : (e : Event) → event_in x ≡ Some e → is_named e ≡ true
  talk : NamedTalk x.1

comes : (t : Talking) (n : Next) (s : Stage) → has_name t.user ≡ true → Good (n, s) → GoodTalk (comes_to t (n, s))
comes t (next.Ask event) s user good = record { asks = good.asks; talk = record { user = user; stage = good.stage } }
comes t n s user good = record { asks = λ e f. absurd cc; talk = record { user = user; stage = good.stage } }

comes_all : (t : Talking) (x : Next × Stage) → has_name t.user ≡ true → Good x → GoodTalk (comes_to t x)
comes_all t x user good = comes t x.0 x.1 user good

silent : (t : Talking) → NamedTalk t → GoodTalk (next.More, t)
silent t is = record { asks = λ e f. absurd cc; talk = is }

asking : (event : Event) (s : Stage) → is_named event ≡ true → stage_named s ≡ true → Good (next.Ask event, s)
asking event s named good = record { asks = λ e f. (let same : event ≡ e = cc in subst (λ x. is_named x ≡ true) same named); stage = good }

-- ---- how it begins, and how it logs in

opening_good : (user : Option (List ℕ)) → has_name user ≡ true → Good (opening user)
unfolding opening
opening_good None named = record { asks = λ e f. absurd cc; stage = refl }
opening_good (Some user) named = asking (event.Enter user) stage.Entering named refl

named_at : (users : List User) (place : ℕ) → list_all (λ user. is_user_name user.0) users ≡ true → has_name (name_at users place) ≡ true
named_at [] place all = refl
named_at (user ∷ users) zero all = (and_parts _ _ all).0
named_at (user ∷ users) (suc place) all = named_at users place (and_parts _ _ all).1

who_named : (users : List User) (place : Option ℕ) → list_all (λ user. is_user_name user.0) users ≡ true → has_name (option_and_then (λ p. name_at users p) place) ≡ true
who_named users None all = refl
who_named users (Some place) all = named_at users place all

logs_good : (tag : Option (List ℕ)) (user : Option (List ℕ)) → has_name user ≡ true → Good (logs_in tag user)
logs_good tag None named = record { asks = λ e f. absurd cc; stage = refl }
logs_good tag (Some user) named = asking (event.Enter user) (stage.LoggingIn tag user) named named

token_good : (users : List User) (tag : Option (List ℕ)) (challenge : List ℕ) (k : Kind) (answer : List ℕ) → list_all (λ user. is_user_name user.0) users ≡ true
    → Good (answer_token users tag challenge k answer)
token_good users tag challenge kind.Quoted answer all = logs_good tag _ (who_named users (answering_user users challenge answer) all)
token_good users tag challenge kind.Literal answer all = logs_good tag _ (who_named users (answering_user users challenge answer) all)
token_good users tag challenge k answer all = record { asks = λ e f. absurd cc; stage = refl }

line_good : (users : List User) (tag : Option (List ℕ)) (challenge : List ℕ) (tokens : List Token) → list_all (λ user. is_user_name user.0) users ≡ true
    → Good (answer_line users tag challenge tokens)
line_good users tag challenge [] all = record { asks = λ e f. absurd cc; stage = refl }
line_good users tag challenge (token ∷ []) all = token_good users tag challenge token.kind token.value all
line_good users tag challenge (token ∷ other ∷ tokens) all = record { asks = λ e f. absurd cc; stage = refl }

answer_good : (users : List User) (tag : Option (List ℕ)) (challenge : List ℕ) (x : Lexed) → list_all (λ user. is_user_name user.0) users ≡ true → Good (heard_answer users tag challenge x)
unfolding heard_answer
answer_good users tag challenge (lexed.Line tokens) all = line_good users tag challenge tokens all
answer_good users tag challenge x all = record { asks = λ e f. absurd cc; stage = refl }

-- ---- the machine's answers

replied_good : (s : Stage) (r : Result Reply Fault) → stage_named s ≡ true → Good (answer_said s r)
replied_good stage.Opening r named = record { asks = λ e f. absurd cc; stage = refl }
replied_good stage.Entering (Ok reply) named = record { asks = λ e f. absurd cc; stage = refl }
replied_good (stage.Asked tag) (Ok reply) named = record { asks = λ e f. absurd cc; stage = refl }
replied_good (stage.Asked tag) (Err fault.Memory) named = record { asks = λ e f. absurd cc; stage = refl }
replied_good (stage.LoggingIn tag user) (Ok reply) named = record { asks = λ e f. absurd cc; stage = refl }
replied_good (stage.LoggingIn tag user) (Err fault.Memory) named = record { asks = λ e f. absurd cc; stage = refl }
replied_good stage.Draining (Ok reply) named = record { asks = λ e f. absurd cc; stage = refl }
replied_good stage.Draining (Err fault.Memory) named = record { asks = λ e f. absurd cc; stage = refl }
replied_good s r named = record { asks = λ e f. absurd cc; stage = refl }

user_named : (s : Stage) (user : Option (List ℕ)) (r : Result Reply Fault) → stage_named s ≡ true → has_name user ≡ true → has_name (answer_user s user r) ≡ true
user_named (stage.LoggingIn tag name) user (Ok reply) staged named = staged
user_named s user r staged named = named

answered_good : (t : Talking) (r : Result Reply Fault) → NamedTalk t → GoodTalk (after_answer t r)
unfolding after_answer
answered_good t r is = comes_all (record t { user = answer_user t.stage t.user r }) (answer_said t.stage r) (user_named t.stage t.user r is.stage is.user) (replied_good t.stage r is.stage)

-- ---- drains

drain_good : (t : Talking) (s : Stage) (user : Option (List ℕ)) → NamedTalk t → GoodTalk (drain_for user t)
drain_good t s None is = silent t is
drain_good t s (Some user) is = comes t (next.Ask event.Drain) stage.Draining is.user (asking event.Drain stage.Draining refl refl)

drains_good : (t : Talking) (s : Stage) → NamedTalk t → GoodTalk (drain_at s t)
drains_good t stage.Ready is = drain_good t stage.Ready t.user is
drains_good t s is = silent t is

session_drain_good : (t : Talking) → NamedTalk t → GoodTalk (session_drain t)
unfolding session_drain
session_drain_good t is = drains_good t t.stage is

-- ---- what stands at a seat, and a world

abbrev pub NamedPlace : Option SeatSession → Type 0
NamedPlace None = Unit {0}
NamedPlace (Some p) = NamedTalk p.talk

pub record NamedWorld (w : World) : Type 0 where
  pub users : list_all (λ user. is_user_name user.0) w.users ≡ true
  pub places : (q : ℕ) → NamedPlace (place_at w.places q)

pub new_named : (realm : Realm) (users : List User) (host : List ℕ) → list_all (λ user. is_user_name user.0) users ≡ true → NamedWorld (new_world realm users host)
new_named realm users host all = record { users = all; places = λ q. tt }

-- ---- commands

module _ (formed : (tokens : List Token) (c : Command) → command_of tokens ≡ Ok c → is_named (event.Command c) ≡ true) where
  asks_good : (user tag : Option (List ℕ)) (c : Command) → is_named (event.Command c) ≡ true → Good (asks user tag c)
  asks_good None tag c named = record { asks = λ e f. absurd cc; stage = refl }
  asks_good (Some user) tag c named = asking (event.Command c) (stage.Asked tag) named refl

  challenged_good : (l : Listening) (tag : Option (List ℕ)) (mechanism : List ℕ) → Good (login_or_refusal l tag mechanism)
  challenged_good l tag mechanism =
      elim (is_some l.user) as (λ b. Good (if b then refuses tag refusals.LoggedIn else challenge_or_refusal l tag mechanism)) [
        | true ↦ record { asks = λ e f. absurd cc; stage = refl }
        | false ↦ elim (str_eq_ignore_ascii_case mechanism mechanism_name) as (λ b. Good (if b then challenges tag (challenge_of l.nonce (seconds_of l.clock) l.host) else refuses tag refusals.NoMechanism)) [
          | true ↦ record { asks = λ e f. absurd cc; stage = refl }
          | false ↦ record { asks = λ e f. absurd cc; stage = refl }
        ]
      ]

  command_good : (l : Listening) (tag : Option (List ℕ)) (c : Command) → is_named (event.Command c) ≡ true → Good (heard_command l tag c)
  unfolding heard_command
  command_good l tag command.Noop named = record { asks = λ e f. absurd cc; stage = refl }
  command_good l tag command.Logout named = record { asks = λ e f. absurd cc; stage = refl }
  command_good l tag (command.Authenticate mechanism) named = challenged_good l tag mechanism
  command_good l tag c named = asks_good l.user tag _ named

  heard_line_good : (l : Listening) (tag : Option (List ℕ)) (tokens : List Token) (r : Result Command CommandFault) → command_of tokens ≡ r → Good (heard_line l tag r)
  heard_line_good l tag tokens (Ok c) e = command_good l tag c (formed tokens c e)
  heard_line_good l tag tokens (Err fault) e = record { asks = λ e f. absurd cc; stage = refl }

  heard_good : (l : Listening) (x : Lexed) → Good (response_to l x)
  unfolding response_to
  heard_good l (lexed.Line tokens) = heard_line_good l _ tokens (command_of tokens) refl
  heard_good l x = record { asks = λ e f. absurd cc; stage = refl }

  next_good : (users : List User) (nonce : ℕ) (clock : ℤ) (s : Stage) (t : Talking) → list_all (λ user. is_user_name user.0) users ≡ true → NamedTalk t → GoodTalk (next_at users nonce clock s t)
  next_good users nonce clock stage.Opening t all is = comes_all t (opening t.user) is.user (opening_good t.user is.user)
  next_good users nonce clock stage.Ready t all is =
      comes_all (record t { held = (next_of mode.Command t.held).1 }) (response_to (listening t nonce clock) (next_of mode.Command t.held).0) is.user (heard_good (listening t nonce clock) (next_of mode.Command t.held).0)
  next_good users nonce clock (stage.Challenged tag challenge) t all is =
      comes_all (record t { held = (next_of mode.Answer t.held).1 }) (heard_answer users tag challenge (next_of mode.Answer t.held).0) is.user (answer_good users tag challenge (next_of mode.Answer t.held).0 all)
  next_good users nonce clock s t all is = silent t is

  session_next_good : (users : List User) (nonce : ℕ) (clock : ℤ) (t : Talking) → list_all (λ user. is_user_name user.0) users ≡ true → NamedTalk t → GoodTalk (session_next users nonce clock t)
  unfolding session_next
  session_next_good users nonce clock t all is = next_good users nonce clock t.stage t all is

  -- ---- what stands at a seat

  open_named : (old : Option SeatSession) → NamedPlace old → NamedPlace (if_open old)
  open_named None is = tt
  open_named (Some p) is = elim (is_closed p.talk.stage) as (λ b. NamedPlace (if b then None else Some p)) [ true ↦ tt | false ↦ is ]

  begun_named : (host : List ℕ) (user : Option (List ℕ)) → has_name user ≡ true → NamedTalk (beginning host user)
  begun_named host user named = record { user = named; stage = refl }

  abbrev NamedAt : Option At → Type 0
  NamedAt None = Unit {0}
  NamedAt (Some at) = NamedTalk at.talk

  maker_named : (host : List ℕ) (action : Action) (old now : Option SeatSession) → is_named_action action ≡ true → NamedPlace now → NamedAt (maker host action old now)
  maker_named host (world.Open user) old None named is = begun_named host user named
  maker_named host (world.Piece octets) old (Some p) named is = is
  maker_named host world.Turn old (Some p) named is = is
  maker_named host world.Drain old (Some p) named is = is
  maker_named host world.Leave old (Some p) named is = is
  maker_named host action old now named is = tt

  leaving_named : (b : Bool) (left : Outcome) (at : At) → NamedTalk at.talk → NamedAt (leaving b left at)
  leaving_named true None at is = tt
  leaving_named true (Some outcome) at is = is
  leaving_named false None at is = is
  leaving_named false (Some outcome) at is = tt

  said_named : (out : List ℕ) (left : Outcome) (seated : Bool) (n : Next) (t : Talking) → NamedTalk t → NamedAt (leaving (is_left (seated, (n, t))) left (after_saying out (seated, (n, t))))
  said_named out left seated n t is = leaving_named (is_left (seated, (n, t))) left (after_saying out (seated, (n, t))) is

  turned_named : (at : At) (n : Next) (t : Talking) (asked left : Outcome) → GoodTalk (n, t) → NamedAt (after_turn at (n, t) asked left)
  turned_named at next.More t None left good = said_named at.out left at.seated next.More t good.talk
  turned_named at (next.Say octets) t None left good = said_named at.out left at.seated (next.Say octets) t good.talk
  turned_named at (next.Ask event) t (Some r) left good = said_named at.out left (seated_by event r at.seated) (after_answer t r).0 (after_answer t r).1 (answered_good t r good.talk).talk
  turned_named at (next.Close octets) t None left good = said_named at.out left at.seated (next.Close octets) t good.talk
  turned_named at n t asked left good = tt

  did_named : (users : List User) (d : Did) (at : At) → list_all (λ user. is_user_name user.0) users ≡ true → NamedTalk at.talk → NamedAt (alone.did users d at)
  unfolding alone.did
  did_named users (alone.Piece octets) at all is = record { user = is.user; stage = is.stage }
  did_named users (alone.Turn clock nonce asked left) at all is =
      let x = session_next users nonce clock at.talk in turned_named at x.0 x.1 asked left (session_next_good users nonce clock at.talk all is)
  did_named users (alone.Drain clock asked left) at all is =
      let x = session_drain at.talk in turned_named at x.0 x.1 asked left (session_drain_good at.talk is)
  did_named users (alone.Leave clock left) at all is = leaving_named at.seated left (record { talk = over at.talk; out = at.out; seated = false }) (record { user = is.user; stage = refl })

  then_named : (users : List User) (d : Did) (o : Option At) → list_all (λ user. is_user_name user.0) users ≡ true → NamedAt o → NamedAt (option_and_then (alone.did users d) o)
  then_named users d None all is = tt
  then_named users d (Some at) all is = did_named users d at all is

  or_named : (o : Option At) (old : Option SeatSession) → NamedAt o → NamedPlace old → NamedPlace (option_or (option_map place_in o) old)
  or_named None old is was = was
  or_named (Some at) old is was = is

  own_named : (users : List User) (host : List ℕ) (x : OwnStep) (old : Option SeatSession) → list_all (λ user. is_user_name user.0) users ≡ true → is_named_action x.action ≡ true → NamedPlace old → NamedPlace (own users host x old)
  unfolding own
  own_named users host x old all named is =
      or_named _ old (then_named users (did_in x) (maker host x.action old (if_open old)) all (maker_named host x.action old (if_open old) named (open_named old is))) is

  -- ---- a world

  place_named : (w : World) (x : Step) (q : ℕ) (b : Bool) → (x.occasion.seat == q) ≡ b → NamedWorld w → is_named_action x.action ≡ true → NamedPlace (place_at (did x.occasion x.refused x.action w).places q)
  place_named w x q true e is named =
      let k = eqb-true x.occasion.seat q e in
      subst (λ j. NamedPlace (place_at (did x.occasion x.refused x.action w).places j)) k
      (subst NamedPlace (sym (step_alone x w)) (own_named w.users w.host (own_of w x) (place_at w.places x.occasion.seat) is.users named (is.places x.occasion.seat)))
  place_named w x q false e is named = subst NamedPlace (sym ((others_stay x w).0 q (λ s. eqb-false x.occasion.seat q e (sym s)))) (is.places q)

  pub step_named : (w : World) (x : Step) → NamedWorld w → is_named_action x.action ≡ true → NamedWorld (did x.occasion x.refused x.action w)
  step_named w x is named = record {
    users = ap (list_all (λ (user : User). is_user_name user.0)) (others_stay x w).1 ∙ is.users;
    places = λ q. place_named w x q (x.occasion.seat == q) refl is named;
  }

  asks_named : (w : World) (o : Occasion) (refused : Bool) (action : Action) (now : Option SeatSession) → list_all (λ user. is_user_name user.0) w.users ≡ true → is_named_action action ≡ true → NamedPlace now
      → (e : Event) → asked_by w (record { occasion = o; refused = refused; action = action }) now ≡ Some e → is_named e ≡ true
  asks_named w o refused (world.Open user) None all named is = (session_next_good w.users o.nonce o.clock (beginning w.host user) all (begun_named w.host user named)).asks
  asks_named w o refused (world.Piece octets) None all named is = λ e f. absurd cc
  asks_named w o refused world.Turn (Some p) all named is = (session_next_good w.users o.nonce o.clock p.talk all is).asks
  asks_named w o refused world.Drain (Some p) all named is = (session_drain_good p.talk is).asks
  asks_named w o refused world.Leave None all named is = λ e f. absurd cc
  asks_named w o refused action now all named is = λ e f. absurd cc

  pub asked_named : (w : World) (x : Step) → NamedWorld w → is_named_action x.action ≡ true → (e : Event) → asked_in w x ≡ Some e → is_named e ≡ true
  asked_named w x is named =
      asks_named w x.occasion x.refused x.action (open_at w x.occasion.seat) is.users named (open_named (place_at w.places x.occasion.seat) (is.places x.occasion.seat))
