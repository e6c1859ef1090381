-- What a session says to what it hears, and at which stage it is then.
use Rattle.std.proofs.Common.{◌≡◌, ℕ, ℤ, Bool, true, false, List, [], ◌∷◌, Option, Some, None, Result, Ok, Err, if◌then◌else◌, refl, sym, ap, subst, ◌∙◌}
use Rattle.std.specs.Prelude.{is_some}
use Rattle.std.specs.Str.{str_eq_ignore_ascii_case}
use Rattle.acap_lexer.specs.Held.{next_of}
use Rattle.acap_lexer.specs.Holding.{Held}
use Rattle.acap_lexer.specs.Token.{Token}
use Rattle.acap_lexer.specs.declared.fault.LexFault.{LexFault}
use Rattle.acap_lexer.specs.declared.kind.Kind.{Kind}
use Rattle.acap_lexer.specs.declared.kind.Kind.TheVariants as kind
use Rattle.acap_lexer.specs.declared.lexed.Lexed.{Lexed}
use Rattle.acap_lexer.specs.declared.lexed.Lexed.TheVariants as lexed
use Rattle.acap_lexer.specs.declared.lexed.Mode.{Mode}
use Rattle.acap_lexer.specs.declared.lexed.Mode.TheVariants as mode
use Rattle.acap_lexer.proofs.Asking.{more_cases}
use Rattle.acap_login.specs.Login.{User}
use Rattle.acap_grammar.specs.Grammar.{command_of}
use Rattle.acap_commands.specs.declared.command.Command.{Command}
use Rattle.acap_commands.specs.declared.command.Command.TheVariants as command
use Rattle.acap_grammar.specs.declared.command_fault.CommandFault.{CommandFault}
use Rattle.acap_commands.specs.declared.reply.Reply.{Reply}
use Rattle.acap_commands.specs.declared.event.Fault.{Fault}
use Rattle.acap_commands.specs.declared.event.Fault.TheVariants as fault
use Rattle.acap_dialogue.specs.Listening.{Listening}
use Rattle.acap_dialogue.specs.Hearing.{response_to, heard_line, heard_command, heard_answer, answer_line, answer_token, login_or_refusal, mechanism_name, logs_in, who, asks, opening, tag_of, ready_line}
use Rattle.acap_dialogue.specs.Session.{listening, session_next, next_at, answer_said, is_asked, is_hearing, Awaits}
use Rattle.acap_dialogue.specs.Running.{QuietLaw}
use Rattle.acap_dialogue.specs.Saying.{IfMore, heard_of, next_of as told}
use Rattle.acap_dialogue.specs.Talking.{Talking}
use Rattle.acap_dialogue.specs.declared.next.Heard.{Heard}
use Rattle.acap_dialogue.specs.declared.next.Next.{Next}
use Rattle.acap_dialogue.specs.declared.next.Next.TheVariants as next
use Rattle.acap_dialogue.specs.declared.stage.Stage.{Stage}
use Rattle.acap_dialogue.specs.declared.stage.Stage.TheVariants as stage

-- something is said or asked, and the stage goes with it
abbrev pub Speaks : Next → Stage → Type 0
Speaks next.More s = ⊥
Speaks (next.Say octets) s = is_hearing s ≡ true
Speaks (next.Ask event) s = is_asked s ≡ true
Speaks (next.Close octets) s = s ≡ stage.Closed

-- what comes of an answer of the lexer, by the answer
abbrev pub Hears : Lexed → Stage → Next × Stage → Type 0
Hears lexed.More s x = x ≡ (next.More, s)
Hears lexed.Plus s x = x ≡ (next.Say ready_line, s)
Hears (lexed.Line tokens) s x = Speaks x.0 x.1
Hears (lexed.Bad f tag) s x = Speaks x.0 x.1
Hears (lexed.Fatal f) s x = (x.1 ≡ stage.Closed) × Speaks x.0 x.1

if_speaks : (b : Bool) (x y : Next × Stage) → Speaks x.0 x.1 → Speaks y.0 y.1 → Speaks (if b then x else y).0 (if b then x else y).1
if_speaks true x y p q = p
if_speaks false x y p q = q

authenticated_speaks : (l : Listening) (tag : Option (List ℕ)) (m : List ℕ) → Speaks (login_or_refusal l tag m).0 (login_or_refusal l tag m).1
authenticated_speaks l tag m = if_speaks (is_some l.user) _ _ refl (if_speaks (str_eq_ignore_ascii_case m mechanism_name) _ _ refl refl)

asks_speaks : (user tag : Option (List ℕ)) (c : Command) → Speaks (asks user tag c).0 (asks user tag c).1
asks_speaks None tag c = refl
asks_speaks (Some user) tag c = refl

command_speaks : (l : Listening) (tag : Option (List ℕ)) (c : Command) → Speaks (heard_command l tag c).0 (heard_command l tag c).1
unfolding heard_command
command_speaks l tag command.Noop = refl
command_speaks l tag command.Logout = refl
command_speaks l tag (command.Authenticate mechanism) = authenticated_speaks l tag mechanism
command_speaks l tag (command.Store entries) = asks_speaks l.user tag (command.Store entries)
command_speaks l tag (command.Search wanted) = asks_speaks l.user tag (command.Search wanted)
command_speaks l tag (command.SetAcl object identifier rights) = asks_speaks l.user tag (command.SetAcl object identifier rights)
command_speaks l tag (command.DeleteAcl object identifier) = asks_speaks l.user tag (command.DeleteAcl object identifier)
command_speaks l tag (command.MyRights object) = asks_speaks l.user tag (command.MyRights object)
command_speaks l tag (command.ListRights object identifier) = asks_speaks l.user tag (command.ListRights object identifier)
command_speaks l tag (command.DeletedSince dataset since) = asks_speaks l.user tag (command.DeletedSince dataset since)
command_speaks l tag (command.FreeContext name) = asks_speaks l.user tag (command.FreeContext name)
command_speaks l tag (command.UpdateContext names) = asks_speaks l.user tag (command.UpdateContext names)

line_speaks : (l : Listening) (tag : Option (List ℕ)) (r : Result Command CommandFault) → Speaks (heard_line l tag r).0 (heard_line l tag r).1
line_speaks l tag (Ok c) = command_speaks l tag c
line_speaks l tag (Err f) = refl

pub heard_hears : (l : Listening) (x : Lexed) → Hears x stage.Ready (response_to l x)
unfolding response_to
heard_hears l lexed.More = refl
heard_hears l lexed.Plus = refl
heard_hears l (lexed.Line tokens) = line_speaks l (tag_of tokens) (command_of tokens)
heard_hears l (lexed.Bad f tag) = refl
heard_hears l (lexed.Fatal f) = (refl, refl)

logs_speaks : (tag user : Option (List ℕ)) → Speaks (logs_in tag user).0 (logs_in tag user).1
logs_speaks tag None = refl
logs_speaks tag (Some user) = refl

token_speaks : (users : List User) (tag : Option (List ℕ)) (challenge : List ℕ) (k : Kind) (text : List ℕ) → Speaks (answer_token users tag challenge k text).0 (answer_token users tag challenge k text).1
token_speaks users tag challenge kind.Quoted text = logs_speaks tag (who users challenge text)
token_speaks users tag challenge kind.Literal text = logs_speaks tag (who users challenge text)
token_speaks users tag challenge kind.Word text = refl
token_speaks users tag challenge kind.Tag text = refl
token_speaks users tag challenge kind.Open text = refl
token_speaks users tag challenge kind.Close text = refl

answer_speaks : (users : List User) (tag : Option (List ℕ)) (challenge : List ℕ) (tokens : List Token) → Speaks (answer_line users tag challenge tokens).0 (answer_line users tag challenge tokens).1
answer_speaks users tag challenge [] = refl
answer_speaks users tag challenge (token ∷ []) = token_speaks users tag challenge token.kind token.value
answer_speaks users tag challenge (token ∷ other ∷ tokens) = refl

pub answer_hears : (users : List User) (tag : Option (List ℕ)) (challenge : List ℕ) (x : Lexed) → Hears x (stage.Challenged tag challenge) (heard_answer users tag challenge x)
unfolding heard_answer
answer_hears users tag challenge lexed.More = refl
answer_hears users tag challenge lexed.Plus = refl
answer_hears users tag challenge (lexed.Line tokens) = answer_speaks users tag challenge tokens
answer_hears users tag challenge (lexed.Bad f tag') = refl
answer_hears users tag challenge (lexed.Fatal f) = (refl, refl)

pub opening_speaks : (user : Option (List ℕ)) → Speaks (opening user).0 (opening user).1
unfolding opening
opening_speaks None = refl
opening_speaks (Some user) = refl

-- ---- the stage goes with what is next

abbrev pub Fits : Next → Stage → Type 0
Fits next.More s = Unit {0}
Fits (next.Say octets) s = is_hearing s ≡ true
Fits (next.Ask event) s = is_asked s ≡ true
Fits (next.Close octets) s = s ≡ stage.Closed

speaks_fits : (n : Next) (s : Stage) → Speaks n s → Fits n s
speaks_fits next.More s h = tt
speaks_fits (next.Say octets) s h = h
speaks_fits (next.Ask event) s h = h
speaks_fits (next.Close octets) s h = h

hears_fits : (x : Lexed) (s : Stage) (r : Next × Stage) → is_hearing s ≡ true → Hears x s r → Fits r.0 r.1
hears_fits lexed.More s r e h = subst (λ k. Fits k r.1) (sym (ap (λ p. p.0) h)) tt
hears_fits lexed.Plus s r e h = subst (λ k. Fits k r.1) (sym (ap (λ p. p.0) h)) (ap (λ p. is_hearing p.1) h ∙ e)
hears_fits (lexed.Line tokens) s r e h = speaks_fits r.0 r.1 h
hears_fits (lexed.Bad f tag) s r e h = speaks_fits r.0 r.1 h
hears_fits (lexed.Fatal f) s r e h = speaks_fits r.0 r.1 h.1

fits_by : (users : List User) (nonce : ℕ) (clock : ℤ) (s : Stage) (t : Talking) → Fits (next_at users nonce clock s t).0 (next_at users nonce clock s t).1.stage
fits_by users nonce clock stage.Opening t = speaks_fits (opening t.user).0 (opening t.user).1 (opening_speaks t.user)
fits_by users nonce clock stage.Entering t = tt
fits_by users nonce clock stage.Ready t = hears_fits (next_of mode.Command t.held).0 stage.Ready (response_to (listening t nonce clock) (next_of mode.Command t.held).0) refl (heard_hears (listening t nonce clock) (next_of mode.Command t.held).0)
fits_by users nonce clock (stage.Asked tag) t = tt
fits_by users nonce clock (stage.Challenged tag challenge) t = hears_fits (next_of mode.Answer t.held).0 (stage.Challenged tag challenge) (heard_answer users tag challenge (next_of mode.Answer t.held).0) refl (answer_hears users tag challenge (next_of mode.Answer t.held).0)
fits_by users nonce clock (stage.LoggingIn tag user) t = tt
fits_by users nonce clock stage.Draining t = tt
fits_by users nonce clock stage.Closed t = tt

pub fits : (users : List User) (nonce : ℕ) (clock : ℤ) (t : Talking) → Fits (session_next users nonce clock t).0 (session_next users nonce clock t).1.stage
unfolding session_next
fits users nonce clock t = fits_by users nonce clock t.stage t

awaits_by : (n : Next) (t : Talking) → Fits n t.stage → Awaits n t
awaits_by next.More t f = tt
awaits_by (next.Say octets) t f = tt
awaits_by (next.Ask event) t f = f
awaits_by (next.Close octets) t f = tt

pub awaits : (users : List User) (nonce : ℕ) (clock : ℤ) (t : Talking) → Awaits (session_next users nonce clock t).0 (session_next users nonce clock t).1
awaits users nonce clock t = awaits_by (session_next users nonce clock t).0 (session_next users nonce clock t).1 (fits users nonce clock t)

awaits_told : (n : Next) (octets : List ℕ) (t : Talking) → Awaits n t → Awaits (told (heard_of n) octets) t
awaits_told next.More octets t a = tt
awaits_told (next.Say said) octets t a = tt
awaits_told (next.Ask event) octets t a = a
awaits_told (next.Close said) octets t a = tt

-- the same of what was told apart
pub awaits_as : (x : Next × Talking) (h : Heard) (octets : List ℕ) (t : Talking) (n : Next) → Awaits x.0 x.1 → h ≡ heard_of x.0 → t ≡ x.1 → n ≡ told h octets → Awaits n t
awaits_as x h octets t n a e f g =
    subst (λ k. Awaits k t) (sym (g ∙ ap (λ k. told k octets) e)) (awaits_told x.0 octets t (subst (λ q. Awaits x.0 q) (sym f) a))

-- ---- the machine's answer is said, and nothing more is asked

abbrev pub Words : Next → Stage → Type 0
Words next.More s = ⊥
Words (next.Say octets) s = is_hearing s ≡ true
Words (next.Ask event) s = ⊥
Words (next.Close octets) s = s ≡ stage.Closed

pub says_at : (s : Stage) (o : Result Reply Fault) → is_asked s ≡ true → Words (answer_said s o).0 (answer_said s o).1
says_at stage.Opening o e = cc
says_at stage.Entering (Ok reply) e = refl
says_at stage.Entering (Err f) e = refl
says_at stage.Ready o e = cc
says_at (stage.Asked tag) (Ok reply) e = refl
says_at (stage.Asked tag) (Err fault.Memory) e = refl
says_at (stage.Asked tag) (Err fault.NotEntered) e = refl
says_at (stage.Asked tag) (Err fault.AlreadyEntered) e = refl
says_at (stage.Asked tag) (Err fault.HistoryFull) e = refl
says_at (stage.Challenged tag challenge) o e = cc
says_at (stage.LoggingIn tag user) (Ok reply) e = refl
says_at (stage.LoggingIn tag user) (Err fault.Memory) e = refl
says_at (stage.LoggingIn tag user) (Err fault.NotEntered) e = refl
says_at (stage.LoggingIn tag user) (Err fault.AlreadyEntered) e = refl
says_at (stage.LoggingIn tag user) (Err fault.HistoryFull) e = refl
says_at stage.Draining (Ok reply) e = refl
says_at stage.Draining (Err fault.Memory) e = refl
says_at stage.Draining (Err fault.NotEntered) e = refl
says_at stage.Draining (Err fault.AlreadyEntered) e = refl
says_at stage.Draining (Err fault.HistoryFull) e = refl
says_at stage.Closed o e = cc

-- ---- where nothing is next, nothing has changed

same_held : (mode : Mode) (h : Held) (f : Option LexFault) → h.fatal ≡ f → (next_of mode h).0 ≡ lexed.More → (next_of mode h).1 ≡ h
unfolding next_of
same_held mode h (Some f) e m = let q = rw e at m in cc
same_held mode h None e m = (more_cases mode h (next_of mode h).1 e (sym m, refl)).1

pub more_lexed : (x : Lexed) (s : Stage) (r : Next × Stage) → Hears x s r → r.0 ≡ next.More → (x ≡ lexed.More) × (r.1 ≡ s)
more_lexed lexed.More s r h m = (refl, ap (λ p. p.1) h)
more_lexed lexed.Plus s r h m = absurd (let both : next.Say ready_line ≡ next.More = sym (ap (λ p. p.0) h) ∙ m in cc)
more_lexed (lexed.Line tokens) s r h m = absurd (subst (λ k. Speaks k r.1) m h)
more_lexed (lexed.Bad f tag) s r h m = absurd (subst (λ k. Speaks k r.1) m h)
more_lexed (lexed.Fatal f) s r h m = absurd (subst (λ k. Speaks k r.1) m h.1)

same_at : (users : List User) (nonce : ℕ) (clock : ℤ) (s : Stage) (t : Talking) → t.stage ≡ s → (next_at users nonce clock s t).0 ≡ next.More → (next_at users nonce clock s t).1 ≡ t
same_at users nonce clock stage.Opening t e m = absurd (subst (λ k. Speaks k (opening t.user).1) m (opening_speaks t.user))
same_at users nonce clock stage.Entering t e m = refl
same_at users nonce clock stage.Ready t e m =
    let r = more_lexed (next_of mode.Command t.held).0 stage.Ready (response_to (listening t nonce clock) (next_of mode.Command t.held).0) (heard_hears (listening t nonce clock) (next_of mode.Command t.held).0) m in
    let h = same_held mode.Command t.held t.held.fatal refl r.0 in
    let k = r.1 ∙ sym e in
    λ i. record { host = t.host; user = t.user; held = h i; stage = k i }
same_at users nonce clock (stage.Asked tag) t e m = refl
same_at users nonce clock (stage.Challenged tag challenge) t e m =
    let r = more_lexed (next_of mode.Answer t.held).0 (stage.Challenged tag challenge) (heard_answer users tag challenge (next_of mode.Answer t.held).0) (answer_hears users tag challenge (next_of mode.Answer t.held).0) m in
    let h = same_held mode.Answer t.held t.held.fatal refl r.0 in
    let k = r.1 ∙ sym e in
    λ i. record { host = t.host; user = t.user; held = h i; stage = k i }
same_at users nonce clock (stage.LoggingIn tag user) t e m = refl
same_at users nonce clock stage.Draining t e m = refl
same_at users nonce clock stage.Closed t e m = refl

pub same_talk : (users : List User) (nonce : ℕ) (clock : ℤ) (t : Talking) → (session_next users nonce clock t).0 ≡ next.More → (session_next users nonce clock t).1 ≡ t
unfolding session_next
same_talk users nonce clock t m = same_at users nonce clock t.stage t refl m

more_told : (n : Next) (octets : List ℕ) (t old : Talking) → (n ≡ next.More → t ≡ old) → IfMore (told (heard_of n) octets) (t ≡ old)
more_told next.More octets t old f = f refl
more_told (next.Say said) octets t old f = tt
more_told (next.Ask event) octets t old f = tt
more_told (next.Close said) octets t old f = tt

-- the same of what was told apart
pub more_as : (x : Next × Talking) (h : Heard) (octets : List ℕ) (old t : Talking) (n : Next) → (x.0 ≡ next.More → x.1 ≡ old) → h ≡ heard_of x.0 → t ≡ x.1 → n ≡ told h octets → IfMore n (t ≡ old)
more_as x h octets old t n same e f g =
    subst (λ k. IfMore k (t ≡ old)) (sym (g ∙ ap (λ k. told k octets) e)) (more_told x.0 octets t old (λ m. f ∙ same m))

-- ---- where nothing is next, nothing is next on any other occasion

quiet_at : (users : List User) (nonce later : ℕ) (clock after : ℤ) (s : Stage) (t : Talking) → (next_at users nonce clock s t).0 ≡ next.More → (next_at users later after s t).0 ≡ next.More
quiet_at users nonce later clock after stage.Opening t m = m
quiet_at users nonce later clock after stage.Entering t m = refl
quiet_at users nonce later clock after stage.Ready t m =
    let r = more_lexed (next_of mode.Command t.held).0 stage.Ready (response_to (listening t nonce clock) (next_of mode.Command t.held).0) (heard_hears (listening t nonce clock) (next_of mode.Command t.held).0) m in
    ap (λ x. (response_to (listening t later after) x).0) r.0 ∙ ap (λ p. p.0) (heard_hears (listening t later after) lexed.More)
quiet_at users nonce later clock after (stage.Asked tag) t m = refl
quiet_at users nonce later clock after (stage.Challenged tag challenge) t m = m
quiet_at users nonce later clock after (stage.LoggingIn tag user) t m = refl
quiet_at users nonce later clock after stage.Draining t m = refl
quiet_at users nonce later clock after stage.Closed t m = refl

pub quiet_law : QuietLaw
unfolding session_next
quiet_law users nonce later clock after t m = quiet_at users nonce later clock after t.stage t m
