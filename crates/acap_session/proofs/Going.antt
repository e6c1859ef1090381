-- What is next completes the command in hand, or the machine is asked for its answer.
use Rattle.std.proofs.Common.{◌≡◌, inl, inr, ℕ, ℤ, Bool, true, false, if◌then◌else◌, List, [], ◌∷◌, ◌++◌, Option, Some, None, Result, Ok, Err, refl, sym, ap, subst, ◌∙◌}
use Rattle.std.specs.Prelude.{codes, IsSome, is_some, map}
use Rattle.std.specs.Str.{bytes_eq, str_eq_ignore_ascii_case, is_utf8, chars}
use Rattle.std.specs.Char.{encode_utf8}
use Rattle.std.proofs.lemmas.List.{append-nil}
use Rattle.acap_lexer.specs.Held.{fatal_of, next_of}
use Rattle.acap_lexer.specs.Holding.{Held}
use Rattle.acap_lexer.specs.Octets.{is_escaped}
use Rattle.acap_lexer.specs.Printing.{printed_form, quoted_form, may_quote, is_printable}
use Rattle.acap_lexer.specs.Token.{Token}
use Rattle.acap_lexer.specs.declared.fault.LexFault.{LexFault}
use Rattle.acap_lexer.specs.declared.fault.LexFault.TheVariants as lexical
use Rattle.acap_lexer.specs.declared.kind.Kind.{Kind}
use Rattle.acap_lexer.specs.declared.kind.Kind.TheVariants as kind
use Rattle.acap_lexer.specs.declared.lexed.Lexed.{Lexed}
use Rattle.acap_lexer.specs.declared.lexed.Lexed.TheVariants as lexed
use Rattle.acap_lexer.specs.declared.lexed.Mode.{Mode}
use Rattle.acap_lexer.specs.declared.lexed.Mode.TheVariants as mode
use Rattle.acap_lexer.proofs.Asking.{next_cases}
use Rattle.acap_login.specs.Login.{User}
use Rattle.acap_grammar.specs.Grammar.{command_of}
use Rattle.acap_grammar.specs.Refusals.{of_grammar, of_lexical}
use Rattle.acap_grammar.specs.Replies.{octets_of, said_form, challenge_form}
use Rattle.acap_commands.specs.declared.command.Command.{Command}
use Rattle.acap_commands.specs.declared.command.Command.TheVariants as command
use Rattle.acap_grammar.specs.declared.command_fault.CommandFault.{CommandFault}
use Rattle.acap_grammar.specs.declared.command_fault.CommandFault.TheVariants as fault
use Rattle.acap_commands.specs.declared.refusal.Refusal.TheVariants as refusals
use Rattle.acap_commands.specs.declared.reply.Reply.{Reply}
use Rattle.acap_commands.specs.declared.said.Said.TheVariants as said
use Rattle.acap_machine.specs.Completing.{completes}
use Rattle.acap_commands.specs.declared.event.Event.{Event}
use Rattle.acap_commands.specs.declared.event.Event.TheVariants as event
use Rattle.acap_session.specs.Completing.{Call, plain_call, login_call, is_login, called_wrong, calls_in, called_at, completed_by, going_on, farewell, IsLeft, IsEnd, AreCompleted}
use Rattle.acap_dialogue.specs.Listening.{Listening}
use Rattle.acap_dialogue.specs.Hearing.{challenge_or_refusal, refuses, response_to, heard_line, heard_command, heard_answer, answer_line, answer_token, asks, login_or_refusal, logs_in, mechanism_name, opening, ready_line, refusal_of, tag_of, who}
use Rattle.acap_dialogue.specs.Session.{listening, next_at, drain_at, drain_for}
use Rattle.acap_dialogue.specs.Talking.{Talking}
use Rattle.acap_dialogue.specs.declared.next.Next.{Next}
use Rattle.acap_dialogue.specs.declared.next.Next.TheVariants as next
use Rattle.acap_dialogue.specs.declared.stage.Stage.{Stage}
use Rattle.acap_dialogue.specs.declared.stage.Stage.TheVariants as stage

-- ---- how a session stands between turns

-- with who has its seat
abbrev pub At : Stage → Option (List ℕ) → Option (List ℕ) → Type 0
At stage.Ready user seated = seated ≡ user
At (stage.Challenged tag challenge) user seated = (user ≡ None) × (seated ≡ None)
At stage.Closed user seated = seated ≡ None
At other user seated = ⊥

abbrev pub IsOpen : Stage → Option (List ℕ) → Type 0
IsOpen stage.Ready user = Unit {0}
IsOpen (stage.Challenged tag challenge) user = user ≡ None
IsOpen other user = ⊥

pub at_open : (x : Stage) (user : Option (List ℕ)) (seated : Option (List ℕ)) → IsOpen x user → seated ≡ user → At x user seated
at_open stage.Ready user seated o e = e
at_open (stage.Challenged tag challenge) user seated o e = (o, e ∙ o)
at_open stage.Closed user seated o e = absurd o
at_open x user seated o e = o

pub left_open : (fatal : Option LexFault) (x : Stage) (user : Option (List ℕ)) (left : List Call) → IsOpen x user → left ≡ going_on x → IsLeft fatal x left
left_open fatal stage.Closed user left o e = absurd o
left_open fatal x user left o e = e

-- ---- what is next, of commands in hand

-- the machine is asked by who may ask it
abbrev pub Asks : List Call → Option (List ℕ) → Option (List ℕ) → Event → Stage → Type 0
Asks b user seated e (stage.Asked tag) = (map (λ c. c.tag) b ≡ tag ∷ []) × ((name : List ℕ) × (user ≡ Some name) × (seated ≡ Some name)) × ((c : Command) × (e ≡ event.Command c))
Asks b user seated e (stage.LoggingIn tag name) = (map (λ c. c.tag) b ≡ tag ∷ []) × (user ≡ None) × (seated ≡ None) × (e ≡ event.Enter name)
Asks b user seated e stage.Entering = (b ≡ []) × ((name : List ℕ) × (user ≡ Some name) × (seated ≡ None) × (e ≡ event.Enter name))
Asks b user seated e stage.Draining = (b ≡ []) × ((name : List ℕ) × (user ≡ Some name) × (seated ≡ Some name)) × (e ≡ event.Drain)
Asks b user seated e other = ⊥

abbrev pub Goes : List Call → Option (List ℕ) → Option (List ℕ) → Option LexFault → Next → Stage → Type 0
Goes b user seated fatal next.More x = IsOpen x user × (b ≡ going_on x) × (seated ≡ user)
Goes b user seated fatal (next.Say octets) x = IsOpen x user × AreCompleted b octets fatal x × (seated ≡ user)
Goes b user seated fatal (next.Ask e) x = Asks b user seated e x
Goes b user seated fatal (next.Close octets) x = (x ≡ stage.Closed) × AreCompleted b octets fatal x

-- nothing is said last
no_end : (fatal : Option LexFault) (x : Stage) → IsEnd fatal x []
no_end fatal stage.Closed = inl refl
no_end fatal x = refl

just : (xs : List ℕ) → xs ≡ (xs ++ []) ++ []
just xs = sym (append-nil xs) ∙ sym (append-nil (xs ++ []))

-- one reply, which completes the command in hand
pub one : (b : List Call) (r : Reply) (fatal : Option LexFault) (x : Stage) → map (λ c. c.tag) b ≡ completed_by r → IsLeft fatal x [] → AreCompleted b (octets_of r) fatal x
one b r fatal x e left =
    record { replies = r ∷ []; done = b; left = []; end = []; said_is = just (octets_of r); all_are = sym (append-nil b); in_order = e ∙ sym (append-nil (completed_by r)); left_is = left; end_is = no_end fatal x }

-- one reply, which completes none
pub waits : (b : List Call) (r : Reply) (fatal : Option LexFault) (x : Stage) → completed_by r ≡ [] → IsLeft fatal x b → AreCompleted b (octets_of r) fatal x
waits b r fatal x e left =
    record { replies = r ∷ []; done = []; left = b; end = []; said_is = just (octets_of r); all_are = refl; in_order = sym (ap (λ xs. xs ++ []) e); left_is = left; end_is = no_end fatal x }

pub silent : (b : List Call) (fatal : Option LexFault) (x : Stage) → IsLeft fatal x b → AreCompleted b [] fatal x
silent b fatal x left = record { replies = []; done = []; left = b; end = []; said_is = refl; all_are = refl; in_order = refl; left_is = left; end_is = no_end fatal x }

-- the last words of a session whose input is too long
ending : (b : List Call) (f : LexFault) (fatal : Option LexFault) → fatal ≡ Some f → IsLeft fatal stage.Closed b → AreCompleted b (farewell f) fatal stage.Closed
ending b f fatal e left = record { replies = []; done = []; left = b; end = farewell f; said_is = refl; all_are = refl; in_order = refl; left_is = left; end_is = inr (f, e, refl) }

-- ---- a command is heard

ready_octets : ready_line ≡ octets_of (record { tag = None; said = said.Challenge (codes "Ready") })
unfolding octets_of said_form challenge_form printed_form quoted_form may_quote is_printable is_escaped is_utf8 chars encode_utf8
ready_octets = refl

pub continues : (b : List Call) (fatal : Option LexFault) (x : Stage) → IsLeft fatal x b → AreCompleted b ready_line fatal x
continues b fatal x left = subst (λ o. AreCompleted b o fatal x) (sym ready_octets) (waits b (record { tag = None; said = said.Challenge (codes "Ready") }) fatal x refl left)

grammar_completes : (f : CommandFault) → completes (said.Refused (of_grammar f)) ≡ true
grammar_completes fault.UnknownCommand = refl
grammar_completes f = refl

wrong_completes : (f : LexFault) (tag : Option (List ℕ)) → map (λ c. c.tag) (called_wrong f tag) ≡ completed_by (record { tag = tag; said = said.Refused (of_lexical f) })
wrong_completes lexical.BadTag tag = refl
wrong_completes f tag = refl

pub ended : (tag : Option (List ℕ)) (r : Reply) (s : Bool) → s ≡ true → (tag ∷ []) ≡ (if s then (tag ∷ []) else [])
ended tag r s e = sym (ap (λ b. if b then (tag ∷ []) else []) e)

-- by the user, and who has the seat
abbrev GoesTo : List Call → Option (List ℕ) → Option (List ℕ) → Option LexFault → Next × Stage → Type 0
GoesTo b user seated fatal x = Goes b user seated fatal x.0 x.1

if_goes : (b : List Call) (user : Option (List ℕ)) (seated : Option (List ℕ)) (fatal : Option LexFault) (c : Bool) (x y : Next × Stage) →
    GoesTo b user seated fatal x → GoesTo b user seated fatal y → GoesTo b user seated fatal (if c then x else y)
if_goes b user seated fatal true x y p q = p
if_goes b user seated fatal false x y p q = q

authenticated_goes : (l : Listening) (tag : Option (List ℕ)) (m : List ℕ) (seated : Option (List ℕ)) (fatal : Option LexFault) →
    seated ≡ l.user → GoesTo (login_call tag ∷ []) l.user seated fatal (login_or_refusal l tag m)
authenticated_goes l tag m seated fatal e = elim l.user as (λ u. l.user ≡ u → GoesTo (login_call tag ∷ []) l.user seated fatal (if is_some u then refuses tag refusals.LoggedIn else challenge_or_refusal l tag m)) [
  | None ↦ λ none. if_goes (login_call tag ∷ []) l.user seated fatal (str_eq_ignore_ascii_case m mechanism_name) _ _ (none, waits _ _ fatal _ refl refl, e) (tt, one _ _ fatal stage.Ready refl refl, e)
  | Some user ↦ λ some. (tt, one _ _ fatal stage.Ready refl refl, e)
] refl

asks_goes : (user tag : Option (List ℕ)) (c : Command) (seated : Option (List ℕ)) (fatal : Option LexFault) →
    seated ≡ user → GoesTo (plain_call tag ∷ []) user seated fatal (asks user tag c)
asks_goes None tag c seated fatal e = (tt, one _ _ fatal stage.Ready refl refl, e)
asks_goes (Some user) tag c seated fatal e = (refl, (user, refl, e), (c, refl))

command_goes : (l : Listening) (tag : Option (List ℕ)) (c : Command) (seated : Option (List ℕ)) (fatal : Option LexFault) →
    seated ≡ l.user → GoesTo (record { tag = tag; is_login = is_login (Ok c) } ∷ []) l.user seated fatal (heard_command l tag c)
unfolding heard_command
command_goes l tag command.Noop seated fatal e = (tt, one _ _ fatal stage.Ready refl refl, e)
command_goes l tag command.Logout seated fatal e = (refl, one _ _ fatal stage.Closed refl (inl refl))
command_goes l tag (command.Authenticate m) seated fatal e = authenticated_goes l tag m seated fatal e
command_goes l tag (command.Store entries) seated fatal e = asks_goes l.user tag (command.Store entries) seated fatal e
command_goes l tag (command.Search wanted) seated fatal e = asks_goes l.user tag (command.Search wanted) seated fatal e
command_goes l tag (command.SetAcl object identifier rights) seated fatal e = asks_goes l.user tag (command.SetAcl object identifier rights) seated fatal e
command_goes l tag (command.DeleteAcl object identifier) seated fatal e = asks_goes l.user tag (command.DeleteAcl object identifier) seated fatal e
command_goes l tag (command.MyRights object) seated fatal e = asks_goes l.user tag (command.MyRights object) seated fatal e
command_goes l tag (command.ListRights object identifier) seated fatal e = asks_goes l.user tag (command.ListRights object identifier) seated fatal e
command_goes l tag (command.DeletedSince dataset since) seated fatal e = asks_goes l.user tag (command.DeletedSince dataset since) seated fatal e
command_goes l tag (command.FreeContext name) seated fatal e = asks_goes l.user tag (command.FreeContext name) seated fatal e
command_goes l tag (command.UpdateContext names) seated fatal e = asks_goes l.user tag (command.UpdateContext names) seated fatal e

line_goes : (l : Listening) (tag : Option (List ℕ)) (r : Result Command CommandFault) (seated : Option (List ℕ)) (fatal : Option LexFault) →
    seated ≡ l.user → GoesTo (record { tag = tag; is_login = is_login r } ∷ []) l.user seated fatal (heard_line l tag r)
line_goes l tag (Ok c) seated fatal e = command_goes l tag c seated fatal e
line_goes l tag (Err f) seated fatal e =
    let r : Reply = record { tag = tag; said = said.Refused (of_grammar f) } in
    (tt, one _ r fatal stage.Ready (ended tag r (completes r.said) (grammar_completes f)) refl, e)

pub heard_goes : (l : Listening) (x : Lexed) (seated : Option (List ℕ)) (fatal : Option LexFault) → ((f : LexFault) → x ≡ lexed.Fatal f → fatal ≡ Some f) →
    seated ≡ l.user → GoesTo (calls_in x) l.user seated fatal (response_to l x)
unfolding response_to
heard_goes l lexed.More seated fatal f e = (tt, refl, e)
heard_goes l lexed.Plus seated fatal f e = (tt, continues [] fatal stage.Ready refl, e)
heard_goes l (lexed.Line tokens) seated fatal f e = line_goes l (tag_of tokens) (command_of tokens) seated fatal e
heard_goes l (lexed.Bad g tag) seated fatal f e =
    (tt, one _ (record { tag = tag; said = said.Refused (of_lexical g) }) fatal stage.Ready (wrong_completes g tag) refl, e)
heard_goes l (lexed.Fatal g) seated fatal f e = (refl, ending [] g fatal (f g refl) (inl refl))

-- ---- an answer to a challenge is heard

nobody : (seated : Option (List ℕ)) (user : Option (List ℕ)) → user ≡ None → seated ≡ None → seated ≡ user
nobody seated user p e = e ∙ sym p

logs_goes : (user : Option (List ℕ)) (tag : Option (List ℕ)) (name : Option (List ℕ)) (seated : Option (List ℕ)) (fatal : Option LexFault) →
    user ≡ None → seated ≡ None → GoesTo (login_call tag ∷ []) user seated fatal (logs_in tag name)
logs_goes user tag None seated fatal p e = (tt, one _ _ fatal stage.Ready refl refl, nobody seated user p e)
logs_goes user tag (Some name) seated fatal p e = (refl, p, e, refl)

word_completes : (b : Bool) (tag : Option (List ℕ)) → (tag ∷ []) ≡ completed_by (record { tag = tag; said = said.Refused (if b then refusals.Cancelled else refusals.Arguments) })
word_completes true tag = refl
word_completes false tag = refl

token_goes : (users : List User) (user tag : Option (List ℕ)) (challenge : List ℕ) (k : Kind) (text : List ℕ) (seated : Option (List ℕ)) (fatal : Option LexFault) →
    user ≡ None → seated ≡ None → GoesTo (login_call tag ∷ []) user seated fatal (answer_token users tag challenge k text)
token_goes users user tag challenge kind.Quoted text seated fatal p e = logs_goes user tag (who users challenge text) seated fatal p e
token_goes users user tag challenge kind.Literal text seated fatal p e = logs_goes user tag (who users challenge text) seated fatal p e
token_goes users user tag challenge kind.Word text seated fatal p e =
    (tt, one _ (record { tag = tag; said = said.Refused (refusal_of kind.Word text) }) fatal stage.Ready (word_completes (bytes_eq text (codes "*")) tag) refl, nobody seated user p e)
token_goes users user tag challenge k text seated fatal p e = (tt, one _ _ fatal stage.Ready refl refl, nobody seated user p e)

answer_goes : (users : List User) (user tag : Option (List ℕ)) (challenge : List ℕ) (tokens : List Token) (seated : Option (List ℕ)) (fatal : Option LexFault) →
    user ≡ None → seated ≡ None → GoesTo (login_call tag ∷ []) user seated fatal (answer_line users tag challenge tokens)
answer_goes users user tag challenge [] seated fatal p e = (tt, one _ _ fatal stage.Ready refl refl, nobody seated user p e)
answer_goes users user tag challenge (token ∷ []) seated fatal p e = token_goes users user tag challenge token.kind token.value seated fatal p e
answer_goes users user tag challenge (token ∷ other ∷ tokens) seated fatal p e = (tt, one _ _ fatal stage.Ready refl refl, nobody seated user p e)

challenged_goes : (users : List User) (user tag : Option (List ℕ)) (challenge : List ℕ) (x : Lexed) (seated : Option (List ℕ)) (fatal : Option LexFault) →
    ((f : LexFault) → x ≡ lexed.Fatal f → fatal ≡ Some f) → user ≡ None → seated ≡ None → GoesTo (login_call tag ∷ []) user seated fatal (heard_answer users tag challenge x)
unfolding heard_answer
challenged_goes users user tag challenge lexed.More seated fatal f p e = (p, refl, nobody seated user p e)
challenged_goes users user tag challenge lexed.Plus seated fatal f p e = (p, continues _ fatal _ refl, nobody seated user p e)
challenged_goes users user tag challenge (lexed.Line tokens) seated fatal f p e = answer_goes users user tag challenge tokens seated fatal p e
challenged_goes users user tag challenge (lexed.Bad g other) seated fatal f p e = (tt, one _ _ fatal stage.Ready refl refl, nobody seated user p e)
challenged_goes users user tag challenge (lexed.Fatal g) seated fatal f p e =
    (refl, ending (login_call tag ∷ []) g fatal (f g refl) (inr (subst (λ (o : Option LexFault). IsSome o) (sym (f g refl)) refl, (tag, refl))))

-- a fatal fault is kept
fatal_by : (m : Mode) (h : Held) (o : Option LexFault) (f : LexFault) → h.fatal ≡ o → (next_of m h).0 ≡ lexed.Fatal f → (next_of m h).1.fatal ≡ Some f
unfolding next_of
fatal_by m h (Some g) f e k = let q = rw e at k in rw e (ap fatal_of q)
fatal_by m h None f e k = elim (next_cases m h e) [
  | inl c ↦ absurd (let same : lexed.Plus ≡ lexed.Fatal f = sym (ap (λ (r : Lexed × Held). r.0) c.is) ∙ k in cc)
  | inr (inl l) ↦ absurd (let same : lexed.More ≡ lexed.Fatal f = sym (ap (λ (r : Lexed × Held). r.0) l.is) ∙ k in cc)
  | inr (inr x) ↦ subst (λ (r : Lexed × Held). r.1.fatal ≡ Some f) (sym x.is) (ap fatal_of (sym (ap (λ (r : Lexed × Held). r.0) x.is) ∙ k))
]

-- ---- what is next

pub next_goes : (users : List User) (nonce : ℕ) (clock : ℤ) (x : Stage) (t : Talking) (seated : Option (List ℕ)) → At x t.user seated → (x ≡ stage.Closed → ⊥) →
    Goes (going_on x ++ called_at x t.held) (next_at users nonce clock x t).1.user seated (next_at users nonce clock x t).1.held.fatal (next_at users nonce clock x t).0 (next_at users nonce clock x t).1.stage
next_goes users nonce clock stage.Ready t seated e o = heard_goes (listening t nonce clock) (next_of mode.Command t.held).0 seated _ (λ f k. fatal_by mode.Command t.held t.held.fatal f refl k) e
next_goes users nonce clock (stage.Challenged tag challenge) t seated e o =
    subst (λ b. Goes b t.user seated (next_of mode.Answer t.held).1.fatal (heard_answer users tag challenge (next_of mode.Answer t.held).0).0 (heard_answer users tag challenge (next_of mode.Answer t.held).0).1)
    (sym (append-nil (login_call tag ∷ [])))
    (challenged_goes users t.user tag challenge (next_of mode.Answer t.held).0 seated (next_of mode.Answer t.held).1.fatal (λ f k. fatal_by mode.Answer t.held t.held.fatal f refl k) e.0 e.1)
next_goes users nonce clock stage.Closed t seated e o = absurd (o refl)
next_goes users nonce clock x t seated e o = absurd e

pub opening_goes : (user : Option (List ℕ)) (seated : Option (List ℕ)) (fatal : Option LexFault) → seated ≡ None → GoesTo [] user seated fatal (opening user)
unfolding opening
opening_goes None seated fatal e = (tt, waits [] _ fatal stage.Ready refl refl, e)
opening_goes (Some user) seated fatal e = (refl, (user, refl, e, refl))

drain_by : (user : Option (List ℕ)) (t : Talking) (seated : Option (List ℕ)) → t.user ≡ user → t.stage ≡ stage.Ready → seated ≡ user →
    Goes [] (drain_for user t).1.user seated (drain_for user t).1.held.fatal (drain_for user t).0 (drain_for user t).1.stage
drain_by None t seated u s e = subst (λ k. Goes [] t.user seated t.held.fatal next.More k) (sym s) (tt, refl, e ∙ sym u)
drain_by (Some user) t seated u s e = (refl, (user, u, e), refl)

pub drain_goes : (x : Stage) (t : Talking) (seated : Option (List ℕ)) → t.stage ≡ x → At x t.user seated → (x ≡ stage.Closed → ⊥) →
    Goes (going_on x) (drain_at x t).1.user seated (drain_at x t).1.held.fatal (drain_at x t).0 (drain_at x t).1.stage
drain_goes stage.Ready t seated s e o = drain_by t.user t seated refl s e
drain_goes (stage.Challenged tag challenge) t seated s e o = subst (λ k. Goes (login_call tag ∷ []) t.user seated t.held.fatal next.More k) (sym s) (e.0, refl, nobody seated t.user e.0 e.1)
drain_goes stage.Closed t seated s e o = absurd (o refl)
drain_goes x t seated s e o = absurd e
