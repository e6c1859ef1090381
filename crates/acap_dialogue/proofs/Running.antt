-- A run with one more step at its end, and that an Enter stands exactly where the session says that its user has the seat.
use Rattle.std.proofs.Common.{◌≡◌, ℕ, ℤ, ◌+◌, ◌&&◌, Bool, true, false, not, List, [], ◌∷◌, ◌++◌, Option, Some, None, Result, Ok, Err, if◌then◌else◌, refl, sym, ap, subst, ◌∙◌, arith, append_assoc}
use Rattle.std.specs.Prelude.{flat_map, is_some}
use Rattle.std.specs.Option.{option_and_then, option_map_or}
use Rattle.std.specs.Str.{str_eq_ignore_ascii_case}
use Rattle.std.proofs.lemmas.Grind.{flat_map-append}
use Rattle.std.proofs.lemmas.List.{append-nil}
use Rattle.acap_lexer.specs.Held.{next_of}
use Rattle.acap_lexer.specs.Token.{Token}
use Rattle.acap_lexer.specs.declared.kind.Kind.{Kind}
use Rattle.acap_lexer.specs.declared.kind.Kind.TheVariants as kind
use Rattle.acap_lexer.specs.declared.lexed.Lexed.{Lexed}
use Rattle.acap_lexer.specs.declared.lexed.Lexed.TheVariants as lexed
use Rattle.acap_lexer.specs.declared.lexed.Mode.TheVariants as mode
use Rattle.acap_login.specs.Login.{User, challenge_of}
use Rattle.acap_grammar.specs.Grammar.{command_of}
use Rattle.acap_grammar.specs.declared.command_fault.CommandFault.{CommandFault}
use Rattle.acap_commands.specs.declared.command.Command.{Command}
use Rattle.acap_commands.specs.declared.command.Command.TheVariants as command
use Rattle.acap_commands.specs.declared.event.Event.{Event}
use Rattle.acap_commands.specs.declared.event.Event.TheVariants as event
use Rattle.acap_commands.specs.declared.event.Fault.{Fault}
use Rattle.acap_commands.specs.declared.event.Fault.TheVariants as fault
use Rattle.acap_commands.specs.declared.reply.Reply.{Reply}
use Rattle.acap_dialogue.specs.Hearing.{response_to, heard_line, heard_command, heard_answer, answer_line, answer_token, login_or_refusal, mechanism_name, logs_in, who, asks, opening, seconds_of, tag_of}
use Rattle.acap_dialogue.specs.Listening.{Listening}
use Rattle.acap_dialogue.specs.Running.{Outcome, Did, Piece, Turn, Drain, Leave, At, start, closes, seated_by, is_left, leaving, over, after_saying, after_turn, did, after_steps, octets_in, pieces, clocks_in, clocks, nonces_in, nonces, drains_in, drains, faults_in, faults, Call, calls_in, calls, SeatedLaw}
use Rattle.acap_dialogue.specs.Session.{after_answer, answer_said, answer_user, drain_for, drain_at, has_seat, has_seat_at, listening, next_at, session_drain, session_next}
use Rattle.acap_dialogue.specs.Talking.{Talking}
use Rattle.acap_dialogue.specs.declared.next.Next.{Next}
use Rattle.acap_dialogue.specs.declared.next.Next.TheVariants as next
use Rattle.acap_dialogue.specs.declared.stage.Stage.{Stage}
use Rattle.acap_dialogue.specs.declared.stage.Stage.TheVariants as stage

-- ---- one more step

then_some : {A : Type 0} (o : Option A) → option_and_then Some o ≡ o
then_some None = refl
then_some (Some x) = refl

then_then : {A B C : Type 0} (f : A → Option B) (g : B → Option C) (o : Option A) → option_and_then (λ x. option_and_then g (f x)) o ≡ option_and_then g (option_and_then f o)
then_then f g None = refl
then_then f g (Some x) = refl

-- a run of steps after others
pub run_behind : (users : List User) (xs ys : List Did) (at : At) → after_steps users (xs ++ ys) at ≡ option_and_then (after_steps users ys) (after_steps users xs at)
run_behind users [] ys at = refl
run_behind users (x ∷ xs) ys at =
    ap (λ (f : At → Option At). option_and_then f (did users x at)) (λ i a. run_behind users xs ys a i)
    ∙ then_then (after_steps users xs) (after_steps users ys) (did users x at)

pub run_snoc : (users : List User) (xs : List Did) (x : Did) (at : At) → after_steps users (xs ++ x ∷ []) at ≡ option_and_then (did users x) (after_steps users xs at)
run_snoc users xs x at =
    run_behind users xs (x ∷ []) at ∙ ap (λ (f : At → Option At). option_and_then f (after_steps users xs at)) (λ i a. then_some (did users x a) i)

flat_snoc : {X A : Type 0} (f : X → List A) (xs : List X) (x : X) → flat_map f (xs ++ x ∷ []) ≡ flat_map f xs ++ f x
flat_snoc f xs x = flat_map-append f xs (x ∷ []) ∙ ap (λ l. flat_map f xs ++ l) (append-nil (f x))

pub pieces_snoc : (xs : List Did) (x : Did) → pieces (xs ++ x ∷ []) ≡ pieces xs ++ octets_in x
pieces_snoc xs x = flat_snoc octets_in xs x

pub clocks_snoc : (xs : List Did) (x : Did) → clocks (xs ++ x ∷ []) ≡ clocks xs ++ clocks_in x
clocks_snoc xs x = flat_snoc clocks_in xs x

pub nonces_snoc : (xs : List Did) (x : Did) → nonces (xs ++ x ∷ []) ≡ nonces xs ++ nonces_in x
nonces_snoc xs x = flat_snoc nonces_in xs x

pub drains_snoc : (xs : List Did) (x : Did) → drains (xs ++ x ∷ []) ≡ drains xs + drains_in x
drains_snoc [] x = omega arith
drains_snoc (y ∷ ys) x = omega (arith, drains_snoc ys x)

pub faults_snoc : (xs : List Did) (x : Did) → faults (xs ++ x ∷ []) ≡ faults xs + faults_in x
faults_snoc [] x = omega arith
faults_snoc (y ∷ ys) x = omega (arith, faults_snoc ys x)

-- the calls of a step, where the steps before it can be made
abbrev pub calls_then : List User → Did → Option At → List Call
calls_then users x at = option_map_or (calls_in users x) at []

calls_behind : (users : List User) (xs : List Did) (x : Did) (o : Option At) →
    ((at : At) → calls users (xs ++ x ∷ []) at ≡ calls users xs at ++ calls_then users x (after_steps users xs at)) →
    option_map_or (calls users (xs ++ x ∷ [])) o [] ≡ option_map_or (calls users xs) o [] ++ calls_then users x (option_and_then (after_steps users xs) o)
calls_behind users xs x None h = refl
calls_behind users xs x (Some at) h = h at

none_more : (users : List User) (o : Option At) → option_map_or (calls users []) o [] ≡ []
none_more users None = refl
none_more users (Some at) = refl

pub calls_snoc : (users : List User) (xs : List Did) (x : Did) (at : At) → calls users (xs ++ x ∷ []) at ≡ calls users xs at ++ calls_then users x (after_steps users xs at)
calls_snoc users [] x at = ap (λ l. calls_in users x at ++ l) (none_more users (did users x at)) ∙ append-nil (calls_in users x at)
calls_snoc users (y ∷ ys) x at =
    ap (λ l. calls_in users y at ++ l) (calls_behind users ys x (did users y at) (calls_snoc users ys x))
    ∙ sym (append_assoc (calls_in users y at) (option_map_or (calls users ys) (did users y at) []) (calls_then users x (after_steps users (y ∷ ys) at)))

-- ---- who has the seat, by what is next

-- which event is asked, by the stage at which its answer is awaited
abbrev pub AskedAt : Event → Option (List ℕ) → Stage → Type 0
AskedAt e user stage.Entering = (name : List ℕ) × (e ≡ event.Enter name) × (user ≡ Some name)
AskedAt e user (stage.Asked tag) = (c : Command) × (e ≡ event.Command c)
AskedAt e user (stage.LoggingIn tag name) = e ≡ event.Enter name
AskedAt e user stage.Draining = e ≡ event.Drain
AskedAt e user stage.Opening = ⊥
AskedAt e user stage.Ready = ⊥
AskedAt e user (stage.Challenged tag challenge) = ⊥
AskedAt e user stage.Closed = ⊥

-- whether there is a seat then, where there was one or not
abbrev pub Seats : Bool → Option (List ℕ) → Next → Stage → Type 0
Seats seated user next.More s = has_seat_at s user ≡ seated
Seats seated user (next.Say octets) s = has_seat_at s user ≡ seated
Seats seated user (next.Ask e) s = (has_seat_at s user ≡ seated) × AskedAt e user s
Seats seated user (next.Close octets) s = s ≡ stage.Closed

ready_seat : (user : Option (List ℕ)) → has_seat_at stage.Ready user ≡ is_some user
ready_seat None = refl
ready_seat (Some user) = refl

asked_seat : (tag user : Option (List ℕ)) → has_seat_at (stage.Asked tag) user ≡ is_some user
asked_seat tag None = refl
asked_seat tag (Some user) = refl

challenged_seat : (tag : Option (List ℕ)) (challenge : List ℕ) (user : Option (List ℕ)) → has_seat_at (stage.Challenged tag challenge) user ≡ is_some user
challenged_seat tag challenge None = refl
challenged_seat tag challenge (Some user) = refl

logging_seat : (tag : Option (List ℕ)) (name : List ℕ) (user : Option (List ℕ)) → has_seat_at (stage.LoggingIn tag name) user ≡ is_some user
logging_seat tag name None = refl
logging_seat tag name (Some user) = refl

draining_seat : (user : Option (List ℕ)) → has_seat_at stage.Draining user ≡ is_some user
draining_seat None = refl
draining_seat (Some user) = refl

abbrev Fine : Option (List ℕ) → Next × Stage → Type 0
Fine user x = Seats (is_some user) user x.0 x.1

if_fine : (b : Bool) (user : Option (List ℕ)) (x y : Next × Stage) → Fine user x → Fine user y → Fine user (if b then x else y)
if_fine true user x y p q = p
if_fine false user x y p q = q

authenticated_fine : (l : Listening) (tag : Option (List ℕ)) (m : List ℕ) → Fine l.user (login_or_refusal l tag m)
authenticated_fine l tag m =
    if_fine (is_some l.user) l.user _ _ (ready_seat l.user)
    (if_fine (str_eq_ignore_ascii_case m mechanism_name) l.user _ _ (challenged_seat tag (challenge_of l.nonce (seconds_of l.clock) l.host) l.user) (ready_seat l.user))

asks_fine : (user tag : Option (List ℕ)) (c : Command) → Fine user (asks user tag c)
asks_fine None tag c = refl
asks_fine (Some user) tag c = (refl, (c, refl))

command_fine : (l : Listening) (tag : Option (List ℕ)) (c : Command) → Fine l.user (heard_command l tag c)
unfolding heard_command
command_fine l tag command.Noop = ready_seat l.user
command_fine l tag command.Logout = refl
command_fine l tag (command.Authenticate mechanism) = authenticated_fine l tag mechanism
command_fine l tag (command.Store entries) = asks_fine l.user tag (command.Store entries)
command_fine l tag (command.Search wanted) = asks_fine l.user tag (command.Search wanted)
command_fine l tag (command.SetAcl object identifier rights) = asks_fine l.user tag (command.SetAcl object identifier rights)
command_fine l tag (command.DeleteAcl object identifier) = asks_fine l.user tag (command.DeleteAcl object identifier)
command_fine l tag (command.MyRights object) = asks_fine l.user tag (command.MyRights object)
command_fine l tag (command.ListRights object identifier) = asks_fine l.user tag (command.ListRights object identifier)
command_fine l tag (command.DeletedSince dataset since) = asks_fine l.user tag (command.DeletedSince dataset since)
command_fine l tag (command.FreeContext name) = asks_fine l.user tag (command.FreeContext name)
command_fine l tag (command.UpdateContext names) = asks_fine l.user tag (command.UpdateContext names)

line_fine : (l : Listening) (tag : Option (List ℕ)) (r : Result Command CommandFault) → Fine l.user (heard_line l tag r)
line_fine l tag (Ok c) = command_fine l tag c
line_fine l tag (Err f) = ready_seat l.user

heard_fine : (l : Listening) (x : Lexed) → Fine l.user (response_to l x)
unfolding response_to
heard_fine l lexed.More = ready_seat l.user
heard_fine l lexed.Plus = ready_seat l.user
heard_fine l (lexed.Line tokens) = line_fine l (tag_of tokens) (command_of tokens)
heard_fine l (lexed.Bad f tag) = ready_seat l.user
heard_fine l (lexed.Fatal f) = refl

logs_fine : (tag user name : Option (List ℕ)) → Fine user (logs_in tag name)
logs_fine tag user None = ready_seat user
logs_fine tag user (Some name) = (logging_seat tag name user, refl)

token_fine : (users : List User) (tag user : Option (List ℕ)) (challenge : List ℕ) (k : Kind) (text : List ℕ) → Fine user (answer_token users tag challenge k text)
token_fine users tag user challenge kind.Quoted text = logs_fine tag user (who users challenge text)
token_fine users tag user challenge kind.Literal text = logs_fine tag user (who users challenge text)
token_fine users tag user challenge kind.Word text = ready_seat user
token_fine users tag user challenge kind.Tag text = ready_seat user
token_fine users tag user challenge kind.Open text = ready_seat user
token_fine users tag user challenge kind.Close text = ready_seat user

tokens_fine : (users : List User) (tag user : Option (List ℕ)) (challenge : List ℕ) (tokens : List Token) → Fine user (answer_line users tag challenge tokens)
tokens_fine users tag user challenge [] = ready_seat user
tokens_fine users tag user challenge (token ∷ []) = token_fine users tag user challenge token.kind token.value
tokens_fine users tag user challenge (token ∷ other ∷ tokens) = ready_seat user

answer_fine : (users : List User) (tag user : Option (List ℕ)) (challenge : List ℕ) (x : Lexed) → Fine user (heard_answer users tag challenge x)
unfolding heard_answer
answer_fine users tag user challenge lexed.More = challenged_seat tag challenge user
answer_fine users tag user challenge lexed.Plus = challenged_seat tag challenge user
answer_fine users tag user challenge (lexed.Line tokens) = tokens_fine users tag user challenge tokens
answer_fine users tag user challenge (lexed.Bad f other) = ready_seat user
answer_fine users tag user challenge (lexed.Fatal f) = refl

opening_seats : (user : Option (List ℕ)) → Seats false user (opening user).0 (opening user).1
unfolding opening
opening_seats None = refl
opening_seats (Some user) = (refl, (user, refl, refl))

abbrev SeatsFrom : Talking → Next × Talking → Type 0
SeatsFrom t x = Seats (has_seat t) x.1.user x.0 x.1.stage

next_by : (users : List User) (nonce : ℕ) (clock : ℤ) (s : Stage) (t : Talking) → t.stage ≡ s → Seats (has_seat_at s t.user) (next_at users nonce clock s t).1.user (next_at users nonce clock s t).0 (next_at users nonce clock s t).1.stage
next_by users nonce clock stage.Opening t e = opening_seats t.user
next_by users nonce clock stage.Entering t e = ap (λ k. has_seat_at k t.user) e
next_by users nonce clock stage.Ready t e =
    subst (λ b. Seats b t.user (response_to (listening t nonce clock) (next_of mode.Command t.held).0).0 (response_to (listening t nonce clock) (next_of mode.Command t.held).0).1)
    (sym (ready_seat t.user)) (heard_fine (listening t nonce clock) (next_of mode.Command t.held).0)
next_by users nonce clock (stage.Asked tag) t e = ap (λ k. has_seat_at k t.user) e
next_by users nonce clock (stage.Challenged tag challenge) t e =
    subst (λ b. Seats b t.user (heard_answer users tag challenge (next_of mode.Answer t.held).0).0 (heard_answer users tag challenge (next_of mode.Answer t.held).0).1)
    (sym (challenged_seat tag challenge t.user)) (answer_fine users tag t.user challenge (next_of mode.Answer t.held).0)
next_by users nonce clock (stage.LoggingIn tag name) t e = ap (λ k. has_seat_at k t.user) e
next_by users nonce clock stage.Draining t e = ap (λ k. has_seat_at k t.user) e
next_by users nonce clock stage.Closed t e = ap (λ k. has_seat_at k t.user) e

pub next_seats : (users : List User) (nonce : ℕ) (clock : ℤ) (t : Talking) → SeatsFrom t (session_next users nonce clock t)
unfolding session_next
next_seats users nonce clock t = next_by users nonce clock t.stage t refl

drain_seats_for : (user : Option (List ℕ)) (t : Talking) → t.user ≡ user → t.stage ≡ stage.Ready → Seats (has_seat_at stage.Ready user) (drain_for user t).1.user (drain_for user t).0 (drain_for user t).1.stage
drain_seats_for None t u e = λ i. has_seat_at (e i) (u i)
drain_seats_for (Some user) t u e = (ap (λ k. has_seat_at stage.Draining k) u, refl)

drain_by : (s : Stage) (t : Talking) → t.stage ≡ s → Seats (has_seat_at s t.user) (drain_at s t).1.user (drain_at s t).0 (drain_at s t).1.stage
drain_by stage.Opening t e = ap (λ k. has_seat_at k t.user) e
drain_by stage.Entering t e = ap (λ k. has_seat_at k t.user) e
drain_by stage.Ready t e = drain_seats_for t.user t refl e
drain_by (stage.Asked tag) t e = ap (λ k. has_seat_at k t.user) e
drain_by (stage.Challenged tag challenge) t e = ap (λ k. has_seat_at k t.user) e
drain_by (stage.LoggingIn tag name) t e = ap (λ k. has_seat_at k t.user) e
drain_by stage.Draining t e = ap (λ k. has_seat_at k t.user) e
drain_by stage.Closed t e = ap (λ k. has_seat_at k t.user) e

pub drain_seats : (t : Talking) → SeatsFrom t (session_drain t)
unfolding session_drain
drain_seats t = drain_by t.stage t refl

-- ---- and once it is answered

abbrev Answers : Event → Bool → Stage → Option (List ℕ) → Result Reply Fault → Type 0
Answers e seated s user o = has_seat_at (answer_said s o).1 (answer_user s user o) ≡ (not (closes (answer_said s o).0) && seated_by e o seated)

command_seat : (tag user : Option (List ℕ)) (c : Command) (seated : Bool) (o : Result Reply Fault) → has_seat_at (stage.Asked tag) user ≡ seated → Answers (event.Command c) seated (stage.Asked tag) user o
command_seat tag user c seated (Ok reply) h = ready_seat user ∙ sym (asked_seat tag user) ∙ h
command_seat tag user c seated (Err fault.Memory) h = ready_seat user ∙ sym (asked_seat tag user) ∙ h
command_seat tag user c seated (Err fault.HistoryFull) h = ready_seat user ∙ sym (asked_seat tag user) ∙ h
command_seat tag user c seated (Err fault.NotEntered) h = refl
command_seat tag user c seated (Err fault.AlreadyEntered) h = refl

login_seat : (tag user : Option (List ℕ)) (name : List ℕ) (seated : Bool) (o : Result Reply Fault) → has_seat_at (stage.LoggingIn tag name) user ≡ seated → Answers (event.Enter name) seated (stage.LoggingIn tag name) user o
login_seat tag user name seated (Ok reply) h = refl
login_seat tag user name seated (Err fault.Memory) h = ready_seat user ∙ sym (logging_seat tag name user) ∙ h
login_seat tag user name seated (Err fault.HistoryFull) h = ready_seat user ∙ sym (logging_seat tag name user) ∙ h
login_seat tag user name seated (Err fault.NotEntered) h = refl
login_seat tag user name seated (Err fault.AlreadyEntered) h = refl

entry_seat : (user : Option (List ℕ)) (name : List ℕ) (seated : Bool) (o : Result Reply Fault) → user ≡ Some name → Answers (event.Enter name) seated stage.Entering user o
entry_seat user name seated (Ok reply) u = ap (λ k. has_seat_at stage.Ready k) u
entry_seat user name seated (Err f) u = refl

drained_seat : (user : Option (List ℕ)) (seated : Bool) (o : Result Reply Fault) → has_seat_at stage.Draining user ≡ seated → Answers event.Drain seated stage.Draining user o
drained_seat user seated (Ok reply) h = ready_seat user ∙ sym (draining_seat user) ∙ h
drained_seat user seated (Err fault.Memory) h = ready_seat user ∙ sym (draining_seat user) ∙ h
drained_seat user seated (Err fault.HistoryFull) h = ready_seat user ∙ sym (draining_seat user) ∙ h
drained_seat user seated (Err fault.NotEntered) h = refl
drained_seat user seated (Err fault.AlreadyEntered) h = refl

answers_by : (e : Event) (seated : Bool) (s : Stage) (user : Option (List ℕ)) (o : Result Reply Fault) → has_seat_at s user ≡ seated → AskedAt e user s → Answers e seated s user o
answers_by e seated stage.Entering user o h (name, e_is, u) = subst (λ k. Answers k seated stage.Entering user o) (sym e_is) (entry_seat user name seated o u)
answers_by e seated (stage.Asked tag) user o h (c, e_is) = subst (λ k. Answers k seated (stage.Asked tag) user o) (sym e_is) (command_seat tag user c seated o h)
answers_by e seated (stage.LoggingIn tag name) user o h e_is = subst (λ k. Answers k seated (stage.LoggingIn tag name) user o) (sym e_is) (login_seat tag user name seated o h)
answers_by e seated stage.Draining user o h e_is = subst (λ k. Answers k seated stage.Draining user o) (sym e_is) (drained_seat user seated o h)
answers_by e seated stage.Opening user o h a = absurd a
answers_by e seated stage.Ready user o h a = absurd a
answers_by e seated (stage.Challenged tag challenge) user o h a = absurd a
answers_by e seated stage.Closed user o h a = absurd a

pub answered_seat : (e : Event) (seated : Bool) (t : Talking) (o : Result Reply Fault) → has_seat t ≡ seated → AskedAt e t.user t.stage → has_seat (after_answer t o).1 ≡ (not (closes (after_answer t o).0) && seated_by e o seated)
unfolding after_answer
answered_seat e seated t o h a = answers_by e seated t.stage t.user o h a

-- a session isn't closed by a reply
reply_by : (s : Stage) (reply : Reply) → closes (answer_said s (Ok reply)).0 ≡ false
reply_by stage.Opening reply = refl
reply_by stage.Entering reply = refl
reply_by stage.Ready reply = refl
reply_by (stage.Asked tag) reply = refl
reply_by (stage.Challenged tag challenge) reply = refl
reply_by (stage.LoggingIn tag name) reply = refl
reply_by stage.Draining reply = refl
reply_by stage.Closed reply = refl

pub reply_goes_on : (t : Talking) (reply : Reply) → closes (after_answer t (Ok reply)).0 ≡ false
unfolding after_answer
reply_goes_on t reply = reply_by t.stage reply

-- ---- a step, and a run

abbrev pub IsSeated : At → Type 0
IsSeated at = at.seated ≡ has_seat at.talk

abbrev AreSeated : Option At → Type 0
AreSeated None = Unit {0}
AreSeated (Some at) = IsSeated at

leaving_seated : (b : Bool) (left : Outcome) (at : At) → IsSeated at → AreSeated (leaving b left at)
leaving_seated true (Some outcome) at h = h
leaving_seated true None at h = tt
leaving_seated false (Some outcome) at h = tt
leaving_seated false None at h = h

said_seated : (out : List ℕ) (left : Outcome) (seated : Bool) (n : Next) (t : Talking) → (not (closes n) && seated) ≡ has_seat t → AreSeated (leaving (is_left (seated, (n, t))) left (after_saying out (seated, (n, t))))
said_seated out left seated n t h = leaving_seated (is_left (seated, (n, t))) left (after_saying out (seated, (n, t))) h

turned_seated : (at : At) (n : Next) (t : Talking) (asked left : Outcome) → IsSeated at → SeatsFrom at.talk (n, t) → AreSeated (after_turn at (n, t) asked left)
turned_seated at next.More t None left h s = said_seated at.out left at.seated next.More t (h ∙ sym s)
turned_seated at next.More t (Some o) left h s = tt
turned_seated at (next.Say octets) t None left h s = said_seated at.out left at.seated (next.Say octets) t (h ∙ sym s)
turned_seated at (next.Say octets) t (Some o) left h s = tt
turned_seated at (next.Ask e) t None left h s = tt
turned_seated at (next.Ask e) t (Some o) left h s =
    said_seated at.out left (seated_by e o at.seated) (after_answer t o).0 (after_answer t o).1 (sym (answered_seat e at.seated t o (s.0 ∙ sym h) s.1))
turned_seated at (next.Close octets) t None left h s = said_seated at.out left at.seated (next.Close octets) t (sym (ap (λ k. has_seat_at k t.user) s))
turned_seated at (next.Close octets) t (Some o) left h s = tt

did_seated : (users : List User) (d : Did) (at : At) → IsSeated at → AreSeated (did users d at)
unfolding did
did_seated users (Piece octets) at h = h
did_seated users (Turn clock nonce asked left) at h =
    let x = session_next users nonce clock at.talk in turned_seated at x.0 x.1 asked left h (next_seats users nonce clock at.talk)
did_seated users (Drain clock asked left) at h =
    let x = session_drain at.talk in turned_seated at x.0 x.1 asked left h (drain_seats at.talk)
did_seated users (Leave clock left) at h = leaving_seated at.seated left (record { talk = over at.talk; out = at.out; seated = false }) refl

pub step_seated : (users : List User) (d : Did) (at end : At) → did users d at ≡ Some end → IsSeated at → IsSeated end
step_seated users d at end e h = subst AreSeated e (did_seated users d at h)

then_seated : (users : List User) (ds : List Did) (o : Option At) → ((at : At) → IsSeated at → AreSeated (after_steps users ds at)) → AreSeated o → AreSeated (option_and_then (after_steps users ds) o)
then_seated users ds None f h = tt
then_seated users ds (Some at) f h = f at h

run_seated : (users : List User) (ds : List Did) (at : At) → IsSeated at → AreSeated (after_steps users ds at)
run_seated users [] at h = h
run_seated users (d ∷ ds) at h = then_seated users ds (did users d at) (run_seated users ds) (did_seated users d at h)

pub seated_law : SeatedLaw
seated_law users host user dids end e = subst AreSeated e (run_seated users dids (start host user) refl)
