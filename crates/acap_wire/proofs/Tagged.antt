-- The tag that a step answers under is a tag.
use Rattle.std.proofs.Common.{◌≡◌, ℕ, ℤ, ◌==◌, Bool, true, false, cond, List, [], ◌∷◌, Option, Some, None, Result, Ok, Err, refl, sym, subst, if◌then◌else◌}
use Rattle.std.specs.Prelude.{is_some}
use Rattle.std.proofs.lemmas.Bool.{eqb-true, eqb-false, false_from_ne_true}
use Rattle.std.specs.Str.{str_eq_ignore_ascii_case}
use Rattle.acap_lexer.specs.Held.{next_of}
use Rattle.acap_lexer.specs.Holding.{Held}
use Rattle.acap_lexer.specs.Token.{Token}
use Rattle.acap_lexer.specs.declared.kind.Kind.{Kind}
use Rattle.acap_lexer.specs.declared.kind.Kind.TheVariants as kind
use Rattle.acap_lexer.specs.declared.lexed.Lexed.{Lexed}
use Rattle.acap_lexer.specs.declared.lexed.Lexed.TheVariants as lexed
use Rattle.acap_lexer.specs.declared.lexed.Mode.TheVariants as mode
use Rattle.acap_login.specs.Login.{User}
use Rattle.acap_commands.specs.declared.command.Command.{Command}
use Rattle.acap_commands.specs.declared.command.Command.TheVariants as command
use Rattle.acap_commands.specs.declared.event.Fault.{Fault}
use Rattle.acap_commands.specs.declared.event.Fault.TheVariants as fault
use Rattle.acap_commands.specs.declared.reply.Reply.{Reply}
use Rattle.acap_dialogue.specs.Hearing.{response_to, heard_line, heard_command, heard_answer, answer_line, answer_token, mechanism_name, logs_in, who, asks, opening, tag_of}
use Rattle.acap_dialogue.specs.Listening.{Listening}
use Rattle.acap_dialogue.specs.Session.{after_answer, answer_said, drain_at, drain_for, is_closed, listening, session_drain, session_next}
use Rattle.acap_dialogue.specs.Talking.{Talking, beginning}
use Rattle.acap_dialogue.specs.declared.next.Next.{Next}
use Rattle.acap_dialogue.specs.declared.next.Next.TheVariants as next
use Rattle.acap_dialogue.specs.declared.stage.Stage.{Stage}
use Rattle.acap_dialogue.specs.declared.stage.Stage.TheVariants as stage
use Rattle.acap_grammar.specs.Grammar.{command_of}
use Rattle.acap_grammar.specs.Sayable.{IsTagged}
use Rattle.acap_grammar.specs.declared.command_fault.CommandFault.{CommandFault}
use Rattle.acap_session.specs.Places.{SeatSession, place_at, if_open}
use Rattle.acap_session.specs.Turning.{Scene, scene, turn_by, turn_of, drain_of}
use Rattle.acap_session.specs.World as world
use Rattle.acap_session.specs.World.{World, Action, Step, did, ends, open_at, said_before, world_after, scene_of, takes, with_scene}
use Rattle.acap_session.proofs.Alone.{did_by, did_is, others_stay, place_of}
use Rattle.acap_session.proofs.Placing.{placed_there}
use Rattle.acap_wire.proofs.Occasions.{Occasion}
use Rattle.acap_wire.proofs.Speaking.{login_tag, tag_at, tag_by, tag_of_line, turn_at}
use Rattle.acap_wire.proofs.Tags.{IsTaggedLine, tagged_line}
use Rattle.acap_wire.proofs.Turns.{answers_in, next_is}

-- a login that goes on is under a tag
abbrev pub TaggedStage : Stage → Type 0
TaggedStage (stage.Challenged tag challenge) = IsTagged tag
TaggedStage other = Unit {0}

-- ---- what an answer leads to

command_tagged : (tag : Option (List ℕ)) (o : Result Reply Fault) → TaggedStage (answer_said (stage.Asked tag) o).1
command_tagged tag (Ok reply) = tt
command_tagged tag (Err fault.Memory) = tt
command_tagged tag (Err fault.HistoryFull) = tt
command_tagged tag (Err fault.NotEntered) = tt
command_tagged tag (Err fault.AlreadyEntered) = tt

login_tagged : (tag : Option (List ℕ)) (user : List ℕ) (o : Result Reply Fault) → TaggedStage (answer_said (stage.LoggingIn tag user) o).1
login_tagged tag user (Ok reply) = tt
login_tagged tag user (Err fault.Memory) = tt
login_tagged tag user (Err fault.HistoryFull) = tt
login_tagged tag user (Err fault.NotEntered) = tt
login_tagged tag user (Err fault.AlreadyEntered) = tt

entered_tagged : (o : Result Reply Fault) → TaggedStage (answer_said stage.Entering o).1
entered_tagged (Ok reply) = tt
entered_tagged (Err fault) = tt

drained_tagged : (o : Result Reply Fault) → TaggedStage (answer_said stage.Draining o).1
drained_tagged (Ok reply) = tt
drained_tagged (Err fault.Memory) = tt
drained_tagged (Err fault.HistoryFull) = tt
drained_tagged (Err fault.NotEntered) = tt
drained_tagged (Err fault.AlreadyEntered) = tt

answer_tagged : (s : Stage) (o : Result Reply Fault) → TaggedStage s → TaggedStage (answer_said s o).1
answer_tagged stage.Opening o t = tt
answer_tagged stage.Entering o t = entered_tagged o
answer_tagged stage.Ready o t = tt
answer_tagged (stage.Asked tag) o t = command_tagged tag o
answer_tagged (stage.Challenged tag challenge) o t = t
answer_tagged (stage.LoggingIn tag user) o t = login_tagged tag user o
answer_tagged stage.Draining o t = drained_tagged o
answer_tagged stage.Closed o t = tt

-- ---- what a turn leads to

if_tagged : (b : Bool) (x y : Next × Stage) → TaggedStage x.1 → TaggedStage y.1 → TaggedStage (if b then x else y).1
if_tagged true x y p q = p
if_tagged false x y p q = q

asks_tagged : (user tag : Option (List ℕ)) (c : Command) → TaggedStage (asks user tag c).1
asks_tagged None tag c = tt
asks_tagged (Some user) tag c = tt

heard_tagged : (l : Listening) (tag : Option (List ℕ)) (c : Command) → IsTagged tag → TaggedStage (heard_command l tag c).1
unfolding heard_command
heard_tagged l tag command.Noop t = tt
heard_tagged l tag command.Logout t = tt
heard_tagged l tag (command.Authenticate mechanism) t =
    if_tagged (is_some l.user) _ _ tt (if_tagged (str_eq_ignore_ascii_case mechanism mechanism_name) _ _ t tt)
heard_tagged l tag (command.Store entries) t = asks_tagged l.user tag (command.Store entries)
heard_tagged l tag (command.Search wanted) t = asks_tagged l.user tag (command.Search wanted)
heard_tagged l tag (command.SetAcl object identifier rights) t = asks_tagged l.user tag (command.SetAcl object identifier rights)
heard_tagged l tag (command.DeleteAcl object identifier) t = asks_tagged l.user tag (command.DeleteAcl object identifier)
heard_tagged l tag (command.MyRights object) t = asks_tagged l.user tag (command.MyRights object)
heard_tagged l tag (command.ListRights object identifier) t = asks_tagged l.user tag (command.ListRights object identifier)
heard_tagged l tag (command.DeletedSince dataset since) t = asks_tagged l.user tag (command.DeletedSince dataset since)
heard_tagged l tag (command.FreeContext name) t = asks_tagged l.user tag (command.FreeContext name)
heard_tagged l tag (command.UpdateContext names) t = asks_tagged l.user tag (command.UpdateContext names)

line_tagged : (l : Listening) (tag : Option (List ℕ)) (x : Result Command CommandFault) → IsTagged tag → TaggedStage (heard_line l tag x).1
line_tagged l tag (Ok c) t = heard_tagged l tag c t
line_tagged l tag (Err f) t = tt

response_tagged : (l : Listening) (x : Lexed) → IsTaggedLine x → TaggedStage (response_to l x).1
unfolding response_to
response_tagged l lexed.More t = tt
response_tagged l lexed.Plus t = tt
response_tagged l (lexed.Line tokens) t = line_tagged l (tag_of tokens) (command_of tokens) t
response_tagged l (lexed.Bad f tag) t = tt
response_tagged l (lexed.Fatal f) t = tt

logs_tagged : (tag user : Option (List ℕ)) → TaggedStage (logs_in tag user).1
logs_tagged tag None = tt
logs_tagged tag (Some user) = tt

token_tagged : (users : List User) (tag : Option (List ℕ)) (challenge : List ℕ) (k : Kind) (text : List ℕ) → TaggedStage (answer_token users tag challenge k text).1
token_tagged users tag challenge kind.Quoted text = logs_tagged tag (who users challenge text)
token_tagged users tag challenge kind.Literal text = logs_tagged tag (who users challenge text)
token_tagged users tag challenge kind.Word text = tt
token_tagged users tag challenge kind.Tag text = tt
token_tagged users tag challenge kind.Open text = tt
token_tagged users tag challenge kind.Close text = tt

tokens_tagged : (users : List User) (tag : Option (List ℕ)) (challenge : List ℕ) (tokens : List Token) → TaggedStage (answer_line users tag challenge tokens).1
tokens_tagged users tag challenge [] = tt
tokens_tagged users tag challenge (token ∷ []) = token_tagged users tag challenge token.kind token.value
tokens_tagged users tag challenge (token ∷ other ∷ tokens) = tt

challenged_tagged : (users : List User) (tag : Option (List ℕ)) (challenge : List ℕ) (x : Lexed) → IsTagged tag → TaggedStage (heard_answer users tag challenge x).1
unfolding heard_answer
challenged_tagged users tag challenge lexed.More t = t
challenged_tagged users tag challenge lexed.Plus t = t
challenged_tagged users tag challenge (lexed.Line tokens) t = tokens_tagged users tag challenge tokens
challenged_tagged users tag challenge (lexed.Bad f other) t = tt
challenged_tagged users tag challenge (lexed.Fatal f) t = tt

opening_tagged : (user : Option (List ℕ)) → TaggedStage (opening user).1
unfolding opening
opening_tagged None = tt
opening_tagged (Some user) = tt

turn_tagged : (users : List User) (l : Listening) (user : Option (List ℕ)) (s : Stage) (held : Held) → TaggedStage s → TaggedStage (turn_at users l user s held).1
turn_tagged users l user stage.Opening held t = opening_tagged user
turn_tagged users l user stage.Entering held t = tt
turn_tagged users l user stage.Ready held t = response_tagged l (next_of mode.Command held).0 (tagged_line held)
turn_tagged users l user (stage.Asked tag) held t = tt
turn_tagged users l user (stage.Challenged tag challenge) held t = challenged_tagged users tag challenge (next_of mode.Answer held).0 t
turn_tagged users l user (stage.LoggingIn tag name) held t = tt
turn_tagged users l user stage.Draining held t = tt
turn_tagged users l user stage.Closed held t = tt

-- ---- the tag that is answered under

line_tag : (x : Lexed) → IsTaggedLine x → IsTagged (tag_of_line x)
line_tag lexed.More t = tt
line_tag lexed.Plus t = tt
line_tag (lexed.Line tokens) t = t
line_tag (lexed.Bad f tag) t = t
line_tag (lexed.Fatal f) t = tt

answer_tag : (x : Lexed) (tag : Option (List ℕ)) → IsTagged tag → IsTagged (login_tag x tag)
answer_tag lexed.More tag t = tt
answer_tag lexed.Plus tag t = tt
answer_tag (lexed.Line tokens) tag t = t
answer_tag (lexed.Bad f other) tag t = t
answer_tag (lexed.Fatal f) tag t = tt

at_tag : (s : Stage) (held : Held) → TaggedStage s → IsTagged (tag_at s held)
at_tag stage.Ready held t = line_tag (next_of mode.Command held).0 (tagged_line held)
at_tag (stage.Challenged tag challenge) held t = answer_tag (next_of mode.Answer held).0 tag t
at_tag stage.Opening held t = tt
at_tag stage.Entering held t = tt
at_tag (stage.Asked tag) held t = tt
at_tag (stage.LoggingIn tag user) held t = tt
at_tag stage.Draining held t = tt
at_tag stage.Closed held t = tt

-- what stands at a seat, if a session is open there
abbrev pub TaggedPlace : Option SeatSession → Type 0
TaggedPlace None = Unit {0}
TaggedPlace (Some p) = TaggedStage p.talk.stage

pub by_tag : (action : Action) (now : Option SeatSession) → TaggedPlace now → IsTagged (tag_by action now)
by_tag world.Turn (Some p) t = at_tag p.talk.stage p.talk.held t
by_tag world.Turn None t = tt
by_tag (world.Open user) now t = tt
by_tag (world.Piece octets) now t = tt
by_tag world.Drain now t = tt
by_tag world.Leave now t = tt

-- ---- a step of a world

left_tagged : (o : Occasion) (refused : Bool) (s : Scene) (x : Next × Talking) → TaggedStage x.1.stage → TaggedStage (turn_by o refused s x).1.talk.stage
unfolding after_answer
left_tagged o refused s (next.More, t) k = k
left_tagged o refused s (next.Say octets, t) k = k
left_tagged o refused s (next.Ask e, t) k = answer_tagged t.stage (answers_in refused s.machine o e) k
left_tagged o refused s (next.Close octets, t) k = k

next_tagged : (users : List User) (nonce : ℕ) (clock : ℤ) (t : Talking) → TaggedStage t.stage → TaggedStage (session_next users nonce clock t).1.stage
unfolding session_next
next_tagged users nonce clock t k =
    subst (λ (x : Next × Stage). TaggedStage x.1) (sym (next_is users nonce clock t t.stage refl)) (turn_tagged users (listening t nonce clock) t.user t.stage t.held k)

drain_for_tagged : (user : Option (List ℕ)) (t : Talking) → TaggedStage t.stage → TaggedStage (drain_for user t).1.stage
drain_for_tagged None t k = k
drain_for_tagged (Some user) t k = tt

drain_at_tagged : (s : Stage) (t : Talking) → TaggedStage t.stage → TaggedStage (drain_at s t).1.stage
drain_at_tagged stage.Opening t k = k
drain_at_tagged stage.Entering t k = k
drain_at_tagged stage.Ready t k = drain_for_tagged t.user t k
drain_at_tagged (stage.Asked tag) t k = k
drain_at_tagged (stage.Challenged tag challenge) t k = k
drain_at_tagged (stage.LoggingIn tag user) t k = k
drain_at_tagged stage.Draining t k = k
drain_at_tagged stage.Closed t k = k

drain_tagged : (t : Talking) → TaggedStage t.stage → TaggedStage (session_drain t).1.stage
unfolding session_drain
drain_tagged t k = drain_at_tagged t.stage t k

open_tagged : (b : Bool) (p : SeatSession) → TaggedStage p.talk.stage → TaggedPlace (cond b None (Some p))
open_tagged true p k = tt
open_tagged false p k = k

set_tagged : (w : World) (seat : ℕ) (s : Scene) → TaggedStage s.talk.stage → TaggedPlace (open_at (with_scene w seat s) seat)
set_tagged w seat s k =
    subst (λ found. TaggedPlace (if_open found)) (sym (placed_there w.places seat (place_of s))) (open_tagged (is_closed s.talk.stage) (place_of s) k)

by_tagged : (o : Occasion) (refused : Bool) (action : Action) (w : World) (now : Option SeatSession) → open_at w o.seat ≡ now → TaggedPlace now → TaggedPlace (open_at (did_by o refused action w now) o.seat)
unfolding turn_of drain_of
by_tagged o refused (world.Open user) w None e k =
    let s = scene w.machine (beginning w.host user) (said_before (place_at w.places o.seat)) in
    let x = session_next w.users o.nonce o.clock (beginning w.host user) in
    set_tagged w o.seat (turn_by o refused s x).1 (left_tagged o refused s x (next_tagged w.users o.nonce o.clock (beginning w.host user) tt))
by_tagged o refused (world.Open user) w (Some p) e k = subst TaggedPlace (sym e) k
by_tagged o refused (world.Piece octets) w None e k = subst TaggedPlace (sym e) k
by_tagged o refused (world.Piece octets) w (Some p) e k = set_tagged w o.seat (takes octets (scene_of w p)) k
by_tagged o refused world.Turn w None e k = subst TaggedPlace (sym e) k
by_tagged o refused world.Turn w (Some p) e k =
    let x = session_next w.users o.nonce o.clock p.talk in
    set_tagged w o.seat (turn_by o refused (scene_of w p) x).1 (left_tagged o refused (scene_of w p) x (next_tagged w.users o.nonce o.clock p.talk k))
by_tagged o refused world.Drain w None e k = subst TaggedPlace (sym e) k
by_tagged o refused world.Drain w (Some p) e k =
    let x = session_drain p.talk in
    set_tagged w o.seat (turn_by o refused (scene_of w p) x).1 (left_tagged o refused (scene_of w p) x (drain_tagged p.talk k))
by_tagged o refused world.Leave w None e k = subst TaggedPlace (sym e) k
by_tagged o refused world.Leave w (Some p) e k = set_tagged w o.seat (ends o (scene_of w p)) tt

pub step_tagged : (w : World) (x : Step) → TaggedPlace (open_at w x.occasion.seat) → TaggedPlace (open_at (did x.occasion x.refused x.action w) x.occasion.seat)
step_tagged w x k =
    subst (λ (v : World). TaggedPlace (open_at v x.occasion.seat)) (sym (did_is x.occasion x.refused x.action w))
    (by_tagged x.occasion x.refused x.action w (open_at w x.occasion.seat) refl k)

-- ---- all steps

pub apart : (a b : ℕ) → (a == b) ≡ false → (b == a) ≡ false
apart a b e = false_from_ne_true (b == a) (λ t. eqb-false a b e (sym (eqb-true b a t)))

pub seat_tagged : (seat : ℕ) (w : World) (x : Step) → TaggedPlace (open_at w seat) → TaggedPlace (open_at (did x.occasion x.refused x.action w) seat)
seat_tagged seat w x k = elim (x.occasion.seat == seat) as (λ b. (x.occasion.seat == seat) ≡ b → TaggedPlace (open_at (did x.occasion x.refused x.action w) seat)) [
  | true ↦ λ e.
      let at = eqb-true x.occasion.seat seat e in
      subst (λ j. TaggedPlace (open_at w j) → TaggedPlace (open_at (did x.occasion x.refused x.action w) j)) at (step_tagged w x) k
  | false ↦ λ e.
      let place = (others_stay x w).0 seat (eqb-false seat x.occasion.seat (apart x.occasion.seat seat e)) in
      subst (λ found. TaggedPlace (if_open found)) (sym place) k
] refl

pub all_tagged : (seat : ℕ) (steps : List Step) (w : World) → TaggedPlace (open_at w seat) → TaggedPlace (open_at (world_after steps w) seat)
all_tagged seat [] w k = k
all_tagged seat (x ∷ xs) w k = all_tagged seat xs (did x.occasion x.refused x.action w) (seat_tagged seat w x k)
