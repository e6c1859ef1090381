-- What a turn leaves: a session that hears what comes next, or is closed; and fewer turns than before.
use Rattle.std.proofs.Common.{◌≡◌, ℕ, ℤ, ◌<◌, Bool, true, false, List, length, Option, Some, None, Result, refl, sym, ap, subst, ◌∙◌}
use Rattle.acap_lexer.specs.Held.{next_of}
use Rattle.acap_lexer.specs.Holding.{Held, held_limit}
use Rattle.acap_lexer.specs.declared.fault.LexFault.{LexFault}
use Rattle.acap_lexer.specs.declared.lexed.Lexed.{Lexed}
use Rattle.acap_lexer.specs.declared.lexed.Lexed.TheVariants as lexed
use Rattle.acap_lexer.specs.declared.lexed.Mode.{Mode}
use Rattle.acap_lexer.specs.declared.lexed.Mode.TheVariants as mode
use Rattle.acap_lexer.proofs.Asking.{more_cases}
use Rattle.acap_lexer.proofs.ProgressLaws.{leaves_room}
use Rattle.acap_login.specs.Login.{User}
use Rattle.acap_commands.specs.declared.reply.Reply.{Reply}
use Rattle.acap_machine.specs.Runs.{outcome_of}
use Rattle.acap_commands.specs.declared.event.Fault.{Fault}
use Rattle.acap_dialogue.specs.Hearing.{response_to, heard_answer}
use Rattle.acap_dialogue.specs.Session.{listening, session_next, next_at, after_answer, is_asked, is_closed, is_hearing}
use Rattle.acap_dialogue.specs.Talking.{Talking}
use Rattle.acap_session.specs.Turning.{Scene, turn_by, turn_of, event_outcome, turn_in, IsTurn}
use Rattle.acap_dialogue.specs.declared.next.Next.{Next}
use Rattle.acap_dialogue.specs.declared.next.Next.TheVariants as next
use Rattle.acap_session.specs.declared.occasion.Occasion.{Occasion}
use Rattle.acap_dialogue.specs.declared.stage.Stage.{Stage}
use Rattle.acap_dialogue.specs.declared.stage.Stage.TheVariants as stage
use Rattle.acap_session.specs.declared.occasion.Turn.TheVariants as turn
use Rattle.acap_session.proofs.Counting.{turns_behind, item_fewer, plus_fewer}
use Rattle.acap_dialogue.proofs.Speaking.{Hears, Fits, Words, heard_hears, answer_hears, fits, says_at, same_talk, more_lexed}

-- ---- what was said to the machine's answer

words_in : (t : Talking) (o : Result Reply Fault) → is_asked t.stage ≡ true → Words (after_answer t o).0 (after_answer t o).1.stage
unfolding after_answer
words_in t o e = says_at t.stage o e

same_of_answer : (t : Talking) (o : Result Reply Fault) → (after_answer t o).1.held ≡ t.held
unfolding after_answer
same_of_answer t o = refl

-- ---- nothing was next

pub record IsStill (users : List User) (o : Occasion) (old : Scene) (new : Scene) : Type 0 where
  pub same : new ≡ old
  pub quiet : (session_next users o.nonce o.clock old.talk).0 ≡ next.More

no_word : (n : Next) (s : Stage) → Words n s → turn_in n ≡ turn.More → ⊥
no_word next.More s w e = w
no_word (next.Say octets) s w e = cc
no_word (next.Ask event) s w e = w
no_word (next.Close octets) s w e = cc

still_by : (o : Occasion) (refused : Bool) (old new : Scene) (n : Next) (t : Talking) → Fits n t.stage → (turn.More, new) ≡ turn_by o refused old (n, t) → (n ≡ next.More) × (new ≡ record { machine = old.machine; talk = t; out = old.out })
still_by o refused old new next.More t f e = (refl, ap (λ p. p.1) e)
still_by o refused old new (next.Say octets) t f e = absurd (let k = ap (λ p. p.0) e in cc)
still_by o refused old new (next.Ask event) t f e =
    absurd (no_word (after_answer t (outcome_of (event_outcome refused old.machine o event))).0 (after_answer t (outcome_of (event_outcome refused old.machine o event))).1.stage (words_in t (outcome_of (event_outcome refused old.machine o event)) f) (sym (ap (λ p. p.0) e)))
still_by o refused old new (next.Close octets) t f e = absurd (let k = ap (λ p. p.0) e in cc)

pub still : (users : List User) (o : Occasion) (old new : Scene) → IsTurn users o old turn.More new → IsStill users o old new
unfolding turn_of
still users o old new k =
    let x = session_next users o.nonce o.clock old.talk in
    let s = still_by o k.refused old new x.0 x.1 (fits users o.nonce o.clock old.talk) k.is in
    record { same = s.1 ∙ ap (λ t. let w : Scene = record { machine = old.machine; talk = t; out = old.out } in w) (same_talk users o.nonce o.clock old.talk s.0); quiet = s.0 }

-- ---- something was said

said_word : (n : Next) (s : Stage) → Words n s → turn_in n ≡ turn.Said → is_hearing s ≡ true
said_word next.More s w e = absurd w
said_word (next.Say octets) s w e = w
said_word (next.Ask event) s w e = absurd w
said_word (next.Close octets) s w e = cc

-- a session's held octets are those behind what it heard, and it hears on
said_by : (o : Occasion) (refused : Bool) (old new : Scene) (n : Next) (t : Talking) → Fits n t.stage → (turn.Said, new) ≡ turn_by o refused old (n, t) → (is_hearing new.talk.stage ≡ true) × (new.talk.held ≡ t.held) × (n ≡ next.More → ⊥) × (t.stage ≡ stage.Closed → ⊥)
said_by o refused old new next.More t f e = absurd (let k = ap (λ p. p.0) e in cc)
said_by o refused old new (next.Say octets) t f e =
    let k : new.talk ≡ t = ap (λ p. p.1.talk) e in
    (ap (λ (q : Talking). is_hearing q.stage) k ∙ f, ap (λ (q : Talking). q.held) k, (λ m. cc), (λ c. let b : is_hearing stage.Closed ≡ true = ap is_hearing (sym c) ∙ f in cc))
said_by o refused old new (next.Ask event) t f e =
    let r = outcome_of (event_outcome refused old.machine o event) in
    let k : new.talk ≡ (after_answer t r).1 = ap (λ p. p.1.talk) e in
    let w = said_word (after_answer t r).0 (after_answer t r).1.stage (words_in t r f) (sym (ap (λ p. p.0) e)) in
    (ap (λ (q : Talking). is_hearing q.stage) k ∙ w, ap (λ (q : Talking). q.held) k ∙ same_of_answer t r, (λ m. cc), (λ c. let b : is_asked stage.Closed ≡ true = ap is_asked (sym c) ∙ f in cc))
said_by o refused old new (next.Close octets) t f e = absurd (let k = ap (λ p. p.0) e in cc)

pub goes_on : (users : List User) (o : Occasion) (old new : Scene) → IsTurn users o old turn.Said new → is_hearing new.talk.stage ≡ true
unfolding turn_of
goes_on users o old new k = let x = session_next users o.nonce o.clock old.talk in (said_by o k.refused old new x.0 x.1 (fits users o.nonce o.clock old.talk) k.is).0

pub held_kept : (users : List User) (o : Occasion) (old new : Scene) → IsTurn users o old turn.Said new → new.talk.held ≡ (session_next users o.nonce o.clock old.talk).1.held
unfolding turn_of
held_kept users o old new k = let x = session_next users o.nonce o.clock old.talk in (said_by o k.refused old new x.0 x.1 (fits users o.nonce o.clock old.talk) k.is).1

-- ---- the session is over

over_word : (n : Next) (s : Stage) → Words n s → turn_in n ≡ turn.Closed → is_closed s ≡ true
over_word next.More s w e = absurd w
over_word (next.Say octets) s w e = cc
over_word (next.Ask event) s w e = absurd w
over_word (next.Close octets) s w e = ap is_closed w

over_by : (o : Occasion) (refused : Bool) (old new : Scene) (n : Next) (t : Talking) → Fits n t.stage → (turn.Closed, new) ≡ turn_by o refused old (n, t) → is_closed new.talk.stage ≡ true
over_by o refused old new next.More t f e = absurd (let k = ap (λ p. p.0) e in cc)
over_by o refused old new (next.Say octets) t f e = absurd (let k = ap (λ p. p.0) e in cc)
over_by o refused old new (next.Ask event) t f e =
    let r = outcome_of (event_outcome refused old.machine o event) in
    ap (λ p. is_closed p.1.talk.stage) e ∙ over_word (after_answer t r).0 (after_answer t r).1.stage (words_in t r f) (sym (ap (λ p. p.0) e))
over_by o refused old new (next.Close octets) t f e = ap (λ p. is_closed p.1.talk.stage) e ∙ ap is_closed f

pub over : (users : List User) (o : Occasion) (old new : Scene) → IsTurn users o old turn.Closed new → is_closed new.talk.stage ≡ true
unfolding turn_of
over users o old new k = let x = session_next users o.nonce o.clock old.talk in over_by o k.refused old new x.0 x.1 (fits users o.nonce o.clock old.talk) k.is

closed_at : (users : List User) (nonce : ℕ) (clock : ℤ) (s : Stage) (t : Talking) → is_closed s ≡ true → (next_at users nonce clock s t).0 ≡ next.More
closed_at users nonce clock stage.Opening t e = cc
closed_at users nonce clock stage.Ready t e = cc
closed_at users nonce clock (stage.Challenged tag challenge) t e = cc
closed_at users nonce clock s t e = refl

pub closed_is_quiet : (users : List User) (nonce : ℕ) (clock : ℤ) (t : Talking) → is_closed t.stage ≡ true → (session_next users nonce clock t).0 ≡ next.More
unfolding session_next
closed_is_quiet users nonce clock t e = closed_at users nonce clock t.stage t e

-- ---- fewer turns are left

abbrev pub turns_left : Talking → ℕ
turns_left t = turns_behind t.held

-- what a hearing session says takes octets, or tells a continuation that is due
heard_fewer : (m : Mode) (h : Held) (s : Stage) (x : Lexed) (r : Next × Stage) → h.fatal ≡ None → Hears x s r → (r.0 ≡ next.More → ⊥) → (next_of m h).0 ≡ x → turns_behind (next_of m h).1 < turns_behind h
heard_fewer m h s lexed.More r going hears some e = absurd (some (ap (λ p. p.0) hears))
heard_fewer m h s lexed.Plus r going hears some e = plus_fewer m h going e
heard_fewer m h s (lexed.Line tokens) r going hears some e = item_fewer m h (lexed.Line tokens) going (λ k. cc) (λ k. cc) e
heard_fewer m h s (lexed.Bad f tag) r going hears some e = item_fewer m h (lexed.Bad f tag) going (λ k. cc) (λ k. cc) e
heard_fewer m h s (lexed.Fatal f) r going hears some e = item_fewer m h (lexed.Fatal f) going (λ k. cc) (λ k. cc) e

-- a session behind a fatal fault closes
fatal_next : (m : Mode) (h : Held) (f : LexFault) → h.fatal ≡ Some f → (next_of m h).0 ≡ lexed.Fatal f
unfolding next_of
fatal_next m h f e = rw e refl

fatal_closes : (m : Mode) (h : Held) (s : Stage) (r : Next × Stage) (o : Option LexFault) → h.fatal ≡ o → Hears (next_of m h).0 s r → (r.1 ≡ stage.Closed → ⊥) → h.fatal ≡ None
fatal_closes m h s r None e hears some = e
fatal_closes m h s r (Some f) e hears some = absurd (some (subst (λ x. Hears x s r) (fatal_next m h f e) hears).0)

fewer_at : (users : List User) (nonce : ℕ) (clock : ℤ) (s : Stage) (t : Talking) → is_hearing s ≡ true → ((next_at users nonce clock s t).0 ≡ next.More → ⊥) → ((next_at users nonce clock s t).1.stage ≡ stage.Closed → ⊥)
    → turns_behind (next_at users nonce clock s t).1.held < turns_behind t.held
fewer_at users nonce clock stage.Ready t hearing some going =
    let x = (next_of mode.Command t.held).0 in
    let r = response_to (listening t nonce clock) x in
    let hears = heard_hears (listening t nonce clock) x in
    heard_fewer mode.Command t.held stage.Ready x r (fatal_closes mode.Command t.held stage.Ready r t.held.fatal refl hears going) hears some refl
fewer_at users nonce clock (stage.Challenged tag challenge) t hearing some going =
    let x = (next_of mode.Answer t.held).0 in
    let r = heard_answer users tag challenge x in
    let hears = answer_hears users tag challenge x in
    heard_fewer mode.Answer t.held (stage.Challenged tag challenge) x r (fatal_closes mode.Answer t.held (stage.Challenged tag challenge) r t.held.fatal refl hears going) hears some refl
fewer_at users nonce clock s t hearing some going = cc

fewer_next : (users : List User) (nonce : ℕ) (clock : ℤ) (t : Talking) → is_hearing t.stage ≡ true → ((session_next users nonce clock t).0 ≡ next.More → ⊥) → ((session_next users nonce clock t).1.stage ≡ stage.Closed → ⊥) → turns_behind (session_next users nonce clock t).1.held < turns_left t
unfolding session_next
fewer_next users nonce clock t hearing some going = fewer_at users nonce clock t.stage t hearing some going

-- a closed session says nothing
open_or : (users : List User) (nonce : ℕ) (clock : ℤ) (t : Talking) (b : Bool) → is_closed t.stage ≡ b → ((session_next users nonce clock t).0 ≡ next.More → ⊥) → is_closed t.stage ≡ false
open_or users nonce clock t true e some = absurd (some (closed_is_quiet users nonce clock t e))
open_or users nonce clock t false e some = e

pub fewer : (users : List User) (o : Occasion) (old new : Scene) → IsTurn users o old turn.Said new → (is_closed old.talk.stage ≡ false → is_hearing old.talk.stage ≡ true) → turns_left new.talk < turns_left old.talk
unfolding turn_of
fewer users o old new k goes =
    let x = session_next users o.nonce o.clock old.talk in
    let s = said_by o k.refused old new x.0 x.1 (fits users o.nonce o.clock old.talk) k.is in
    subst (λ (h : Held). turns_behind h < turns_left old.talk) (sym s.1) (fewer_next users o.nonce o.clock old.talk (goes (open_or users o.nonce o.clock old.talk (is_closed old.talk.stage) refl s.2)) s.2 s.3)

-- ---- where nothing is next there is room for more octets

room_for : (m : Mode) (h : Held) (f : Option LexFault) → h.fatal ≡ f → (next_of m h).0 ≡ lexed.More → length h.text < held_limit
unfolding next_of
room_for m h (Some f) e q = let k = rw e at q in cc
room_for m h None e q = leaves_room m h.text (more_cases m h (next_of m h).1 e (sym q, refl)).0

room_at : (users : List User) (nonce : ℕ) (clock : ℤ) (s : Stage) (t : Talking) → is_hearing s ≡ true → (next_at users nonce clock s t).0 ≡ next.More → length t.held.text < held_limit
room_at users nonce clock stage.Ready t e m =
    let x = (next_of mode.Command t.held).0 in
    room_for mode.Command t.held t.held.fatal refl (more_lexed x stage.Ready (response_to (listening t nonce clock) x) (heard_hears (listening t nonce clock) x) m).0
room_at users nonce clock (stage.Challenged tag challenge) t e m =
    let x = (next_of mode.Answer t.held).0 in
    room_for mode.Answer t.held t.held.fatal refl (more_lexed x (stage.Challenged tag challenge) (heard_answer users tag challenge x) (answer_hears users tag challenge x) m).0
room_at users nonce clock s t e m = cc

pub room_left : (users : List User) (nonce : ℕ) (clock : ℤ) (t : Talking) → is_hearing t.stage ≡ true → (session_next users nonce clock t).0 ≡ next.More → length t.held.text < held_limit
unfolding session_next
room_left users nonce clock t e m = room_at users nonce clock t.stage t e m
