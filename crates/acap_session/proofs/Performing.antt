-- What the calls of a turn come to, put together.
use Rattle.std.proofs.Common.{◌≡◌, ◌⊎◌, inl, inr, ℕ, ℤ, Bool, true, false, ◌||◌, is_ok, List, Option, Some, None, Result, Ok, Err, IfOk, IfErr, IsOk, MatchResult, OnErr, OnOk, refl, sym, ap, subst, ◌∙◌}
use Rattle.std.specs.declared.alloc.AllocError.{AllocError as Memory}
use Rattle.acap_login.specs.Login.{User}
use Rattle.acap_commands.specs.declared.reply.Reply.{Reply}
use Rattle.acap_commands.specs.declared.said.Said.{Said}
use Rattle.acap_machine.specs.Machine.{Machine}
use Rattle.acap_machine.specs.Runs.{outcome_of, machine_after}
use Rattle.acap_machine.specs.Stepping.{step_of, Stepped, IsFault}
use Rattle.acap_commands.specs.declared.event.Event.{Event}
use Rattle.acap_commands.specs.declared.event.Event.TheVariants as events
use Rattle.acap_commands.specs.declared.event.Fault.{Fault}
use Rattle.acap_commands.specs.declared.event.Fault.TheVariants as fault
use Rattle.acap_dialogue.specs.Running.{event_in}
use Rattle.acap_dialogue.specs.Saying.{with_said, heard_of}
use Rattle.acap_dialogue.specs.Session.{session_next, session_drain, after_answer, has_seat, has_seat_at, drain_in, drain_at, drain_for, is_asked}
use Rattle.acap_dialogue.specs.Talking.{Talking}
use Rattle.acap_session.specs.Live.{AsksReportedTo, IsTold, IsToldOf, told_by, told_with}
use Rattle.acap_session.specs.Turning.{Scene, scene, event_outcome, turn_and_scene, asked_of, turn_by, turn_of, drain_of, left_at, left_by, turn_from, is_refused, IsTurn, IsAsked, IsCutFrom, StandsBefore, WasCut, CutInAnswering, CutInAsking, CutInDraining}
use Rattle.acap_dialogue.specs.declared.next.Heard.{Heard}
use Rattle.acap_dialogue.specs.declared.next.Heard.TheVariants as heard
use Rattle.acap_dialogue.specs.declared.next.Next.{Next}
use Rattle.acap_dialogue.specs.declared.next.Next.TheVariants as next
use Rattle.acap_session.specs.declared.occasion.Occasion.{Occasion}
use Rattle.acap_dialogue.specs.declared.stage.Stage.{Stage}
use Rattle.acap_dialogue.specs.declared.stage.Stage.TheVariants as stage
use Rattle.acap_session.specs.declared.occasion.Turn.{Turn}
use Rattle.acap_session.specs.declared.occasion.Turn.TheVariants as turn
use Rattle.acap_dialogue.proofs.Speaking.{Fits, fits}

-- an outcome of the machine's step is what is performed, refused memory or not
pub record IsPerformed (m : Machine) (o : Occasion) (event : Event) (outcome : Result Reply Fault) (new : Machine) : Type 0 where
  pub refused : Bool
  pub outcome_is : outcome_of (event_outcome refused m o event) ≡ outcome
  pub machine_is : machine_after m (event_outcome refused m o event) ≡ new
  pub ok_is : is_ok (event_outcome refused m o event) ≡ is_ok outcome

ok_of : (r : Result (Reply × Machine) Fault) → is_ok r ≡ is_ok (outcome_of r)
ok_of (Ok x) = refl
ok_of (Err f) = refl

performs : (m : Machine) (o : Occasion) (event : Event) (outcome : Result Reply Fault) (new : Machine) (refused : Bool) → outcome_of (event_outcome refused m o event) ≡ outcome → machine_after m (event_outcome refused m o event) ≡ new → IsPerformed m o event outcome new
performs m o event outcome new refused e f = record { refused = refused; outcome_is = e; machine_is = f; ok_is = ok_of (event_outcome refused m o event) ∙ ap is_ok e }

pub performed_by : (m : Machine) (o : Occasion) (event : Event) (outcome : Result Reply Fault) (new : Machine) → IfOk outcome (λ reply. Stepped m o.seat event o.clock reply new) → IfErr outcome (λ f. IsFault (step_of m o.seat event o.clock) f) → OnErr outcome (new ≡ m)
    → IsPerformed m o event outcome new
performed_by m o event (Ok reply) new ok err same = performs m o event (Ok reply) new false (ap outcome_of ok.step) (ap (machine_after m) ok.step)
performed_by m o event (Err fault.Memory) new ok err same = performs m o event (Err fault.Memory) new true refl (sym same)
performed_by m o event (Err fault.NotEntered) new ok err same = performs m o event (Err fault.NotEntered) new false (ap outcome_of err) (ap (machine_after m) err ∙ sym same)
performed_by m o event (Err fault.AlreadyEntered) new ok err same = performs m o event (Err fault.AlreadyEntered) new false (ap outcome_of err) (ap (machine_after m) err ∙ sym same)
performed_by m o event (Err fault.HistoryFull) new ok err same = absurd err

-- it is refused where memory was
pub stood : (m : Machine) (o : Occasion) (event : Event) (outcome : Result Reply Fault) (new : Machine) (ok : IfOk outcome (λ reply. Stepped m o.seat event o.clock reply new)) (err : IfErr outcome (λ f. IsFault (step_of m o.seat event o.clock) f)) (same : OnErr outcome (new ≡ m))
    → (performed_by m o event outcome new ok err same).refused ≡ is_refused outcome
unfolding performed_by performs
stood m o event (Err fault.HistoryFull) new ok err same = absurd err
stood m o event outcome new ok err same = refl

-- what is said to the answer, put together
pub concluded_by : (o : Occasion) (seated : Bool) (m new_m : Machine) (t new_t : Talking) (out new_out : List ℕ) (outcome : Result Reply Fault) (h : Heard) (came : Turn) → seated ≡ (has_seat t || is_ok outcome) → h ≡ heard_of (after_answer t outcome).0 → new_t ≡ (after_answer t outcome).1 → new_out ≡ with_said out (after_answer t outcome).0 → came ≡ turn_from h → new_m ≡ left_at h seated o m
    → (came, scene new_m new_t new_out) ≡ turn_and_scene o (has_seat t || is_ok outcome) m out (after_answer t outcome)
concluded_by o seated m new_m t new_t out new_out outcome h came s e f g k n =
    let machine_is : new_m ≡ left_at (heard_of (after_answer t outcome).0) seated o m = n ∙ ap (λ q. left_at q seated o m) e in
    let came_is : came ≡ turn_from (heard_of (after_answer t outcome).0) = k ∙ ap turn_from e in
    let made : (came, scene new_m new_t new_out) ≡ turn_and_scene o seated m out (after_answer t outcome) = λ i. (came_is i, scene (machine_is i) (f i) (g i)) in
    made ∙ ap (λ b. turn_and_scene o b m out (after_answer t outcome)) s

-- or nothing, as memory was refused
pub concluded_cut : (o : Occasion) (seated : Bool) (outcome : Result Reply Fault) (old new : Scene) → seated ≡ (has_seat old.talk || is_ok outcome) → new.talk.stage ≡ stage.Closed → new.out ≡ old.out → new.machine ≡ left_by seated o old.machine → CutInAnswering (has_seat old.talk || is_ok outcome) o old new
concluded_cut o seated outcome old new s c e m = record { closed = c; out_is = e; machine_is = m ∙ ap (λ b. left_by b o old.machine) s }

-- a session whose event was performed
pub asked_by : (o : Occasion) (event : Event) (m step_m : Machine) (t : Talking) (out : List ℕ) (outcome : Result Reply Fault) (came : Turn) (new : Scene) (p : IsPerformed m o event outcome step_m) → (came, new) ≡ turn_and_scene o (has_seat t || is_ok outcome) step_m out (after_answer t outcome)
    → (came, new) ≡ asked_of o p.refused m out t event
asked_by o event m step_m t out outcome came new p e =
    let was = ap (λ b. turn_and_scene o (has_seat t || b) (machine_after m (event_outcome p.refused m o event)) out (after_answer t (outcome_of (event_outcome p.refused m o event)))) p.ok_is
    ∙ ap (λ q. turn_and_scene o (has_seat t || is_ok outcome) q out (after_answer t (outcome_of (event_outcome p.refused m o event)))) p.machine_is
    ∙ ap (λ r. turn_and_scene o (has_seat t || is_ok outcome) step_m out (after_answer t r)) p.outcome_is in
    e ∙ sym was

told_of : (o : Occasion) (event asked : Event) (m step_m : Machine) (t : Talking) (out : List ℕ) (outcome : Result Reply Fault) (came : Turn) (told : Option (Event × Said)) (new : Scene) (p : IsPerformed m o event outcome step_m) → p.refused ≡ false → asked ≡ event → told ≡ told_with asked outcome
    → (came, new) ≡ turn_and_scene o (has_seat t || is_ok outcome) step_m out (after_answer t outcome) → IsToldOf o event (scene m t out) told new
told_of o event asked m step_m t out outcome came told new p b a k e = (
  k ∙ (λ i. told_with (a i) ((sym p.outcome_is ∙ ap (λ x. outcome_of (event_outcome x m o event)) b) i)),
  ap (λ (q : Turn × Scene). q.1) (asked_by o event m step_m t out outcome came new p e ∙ ap (λ x. asked_of o x m out t event) b),
)

-- and what is reported of it
pub reported_of : (o : Occasion) (event : Event) (m step_m : Machine) (t : Talking) (out : List ℕ) (outcome : Result Reply Fault) (came : Turn) (new : Scene) (p : IsPerformed m o event outcome step_m) (reported : Result (Option (Event × Said)) Memory) (asked : Result Event Memory) → IfOk asked (λ e. e ≡ event)
    → IfOk reported (λ told. IfOk asked (λ e. told ≡ told_with e outcome)) → OnOk reported (IsOk asked) → p.refused ≡ is_refused outcome → OnOk reported (is_refused outcome ≡ false) → (came, new) ≡ turn_and_scene o (has_seat t || is_ok outcome) step_m out (after_answer t outcome)
    → AsksReportedTo o event (scene m t out) new reported
reported_of o event m step_m t out outcome came new p (Ok told) (Ok e) a k i b n x = told_of o event e m step_m t out outcome came told new p (b ∙ n) a k x
reported_of o event m step_m t out outcome came new p (Ok told) (Err f) a k i b n x = let j : false ≡ true = i in cc
reported_of o event m step_m t out outcome came new p (Err f) asked a k i b n x = inl (came, record { refused = p.refused; is = asked_by o event m step_m t out outcome came new p x })

pub cut_by : (o : Occasion) (event : Event) (m step_m : Machine) (t : Talking) (out : List ℕ) (outcome : Result Reply Fault) (new : Scene) → IsPerformed m o event outcome step_m → CutInAnswering (has_seat t || is_ok outcome) o (scene step_m t out) new
    → CutInAsking o event (scene m t out) new
cut_by o event m step_m t out outcome new p k = record {
  closed = k.closed;
  out_is = k.out_is;
  stands = record {
    refused = p.refused;
    is = k.machine_is ∙ ap (λ b. left_by (has_seat t || b) o step_m) (sym p.ok_is) ∙ ap (λ q. left_by (has_seat t || is_ok (event_outcome p.refused m o event)) o q) (sym p.machine_is);
  };
}

-- ---- a turn without an event

said_by : (o : Occasion) (s : Scene) (n : Next) (t : Talking) (new_m : Machine) (new_out : List ℕ) (came : Turn) → ((event : Event) → n ≡ next.Ask event → ⊥) → new_out ≡ with_said s.out n → came ≡ turn_from (heard_of n) → new_m ≡ left_at (heard_of n) (has_seat s.talk) o s.machine
    → (came, scene new_m t new_out) ≡ turn_by o false s (n, t)
said_by o s (next.Ask event) t new_m new_out came none g k m = absurd (none event refl)
said_by o s n t new_m new_out came none g k m = λ i. (k i, scene (m i) t (g i))

not_asks : (n : Next) (h : Heard) → h ≡ heard_of n → ((event : Event) → h ≡ heard.Asks event → ⊥) → (event : Event) → n ≡ next.Ask event → ⊥
not_asks n h e none event a = none event (e ∙ ap heard_of a)

none_asked : (n : Next) (t : Talking) → ((event : Event) → n ≡ next.Ask event → ⊥) → event_in (n, t) ≡ None
none_asked (next.Ask event) t none = absurd (none event refl)
none_asked n t none = refl

pub said_turn : (users : List User) (o : Occasion) (s : Scene) (new_t : Talking) (new_m : Machine) (new_out : List ℕ) (h : Heard) (came : Turn) → ((event : Event) → h ≡ heard.Asks event → ⊥) → h ≡ heard_of (session_next users o.nonce o.clock s.talk).0 → new_t ≡ (session_next users o.nonce o.clock s.talk).1 → new_out ≡ with_said s.out (session_next users o.nonce o.clock s.talk).0
    → came ≡ turn_from h → new_m ≡ left_at h (has_seat s.talk) o s.machine → ((came, scene new_m new_t new_out) ≡ turn_of users o false s) × IsTold users o s None (scene new_m new_t new_out)
unfolding turn_of
said_turn users o s new_t new_m new_out h came none e f g k n =
    let x = session_next users o.nonce o.clock s.talk in
    let quiet = not_asks x.0 h e none in
    let now = ap (λ (t : Talking). let w : Turn × Scene = (came, scene new_m t new_out) in w) f
    ∙ said_by o s x.0 x.1 new_m new_out came quiet g (k ∙ ap turn_from e) (n ∙ ap (λ q. left_at q (has_seat s.talk) o s.machine) e) in
    (now, (ap (told_by o s.machine) (sym (none_asked x.0 x.1 quiet)), ap (λ (p : Turn × Scene). p.1) now))

-- ---- a turn with one

asks_of : (n : Next) (h : Heard) (event : Event) → h ≡ heard_of n → h ≡ heard.Asks event → n ≡ next.Ask event
asks_of next.More h event e a = cc
asks_of n h event e a = cc

out_same : (out : List ℕ) (n : Next) (event : Event) → n ≡ next.Ask event → with_said out n ≡ out
out_same out n event e = ap (with_said out) e

pub asked_turn : (users : List User) (o : Occasion) (refused : Bool) (s : Scene) (t : Talking) (out : List ℕ) (h : Heard) (event : Event) → h ≡ heard.Asks event → h ≡ heard_of (session_next users o.nonce o.clock s.talk).0 → t ≡ (session_next users o.nonce o.clock s.talk).1 → out ≡ with_said s.out (session_next users o.nonce o.clock s.talk).0
    → asked_of o refused s.machine out t event ≡ turn_of users o refused s
unfolding turn_of
asked_turn users o refused s t out h event a e f g =
    let x = session_next users o.nonce o.clock s.talk in
    let n = asks_of x.0 h event e a in
    ap (λ q. asked_of o refused s.machine q t event) (g ∙ out_same s.out x.0 event n) ∙ ap (λ q. asked_of o refused s.machine s.out q event) f ∙ ap (λ q. turn_by o refused s (q, x.1)) (sym n)

-- and what is told of it
pub told_turn : (users : List User) (o : Occasion) (s : Scene) (t : Talking) (out : List ℕ) (h : Heard) (event : Event) (told : Option (Event × Said)) (new : Scene) → h ≡ heard.Asks event → h ≡ heard_of (session_next users o.nonce o.clock s.talk).0 → t ≡ (session_next users o.nonce o.clock s.talk).1 → out ≡ with_said s.out (session_next users o.nonce o.clock s.talk).0
    → IsToldOf o event (scene s.machine t out) told new → IsTold users o s told new
told_turn users o s t out h event told new a e f g k =
    let x = session_next users o.nonce o.clock s.talk in (
      k.0 ∙ ap (λ n. told_by o s.machine (event_in (n, x.1))) (sym (asks_of x.0 h event e a)),
      k.1 ∙ ap (λ (p : Turn × Scene). p.1) (asked_turn users o false s t out h event a e f g),
    )

cut_from : (o : Occasion) (s : Scene) (x : Next × Talking) (event : Event) (t : Talking) (m : Machine) → x.0 ≡ next.Ask event → t ≡ x.1 → StandsBefore o event t s.machine m → IsCutFrom o s x m
cut_from o s x event t m e f k = subst (λ n. IsCutFrom o s (n, x.1) m) (sym e) (inr (subst (λ q. StandsBefore o event q s.machine m) f k))

pub cut_turn : (o : Occasion) (s : Scene) (x : Next × Talking) (t : Talking) (out : List ℕ) (h : Heard) (event : Event) (new : Scene) → h ≡ heard.Asks event → h ≡ heard_of x.0 → t ≡ x.1 → out ≡ with_said s.out x.0 → CutInAsking o event (scene s.machine t out) new → WasCut o s x new
cut_turn o s x t out h event new a e f g k =
    let n = asks_of x.0 h event e a in
    record { closed = k.closed; out_is = k.out_is ∙ g ∙ out_same s.out x.0 event n; machine_is = cut_from o s x event t new.machine n f k.stands }

-- or can't be reported
pub not_reported : (users : List User) (o : Occasion) (s : Scene) (t : Talking) (out : List ℕ) (h : Heard) (event : Event) (new : Scene) → h ≡ heard.Asks event → h ≡ heard_of (session_next users o.nonce o.clock s.talk).0 → t ≡ (session_next users o.nonce o.clock s.talk).1 → out ≡ with_said s.out (session_next users o.nonce o.clock s.talk).0
    → ((came : Turn) × IsAsked o event (scene s.machine t out) came new) ⊎ CutInAsking o event (scene s.machine t out) new
    → ((came : Turn) × IsTurn users o s came new) ⊎ WasCut o s (session_next users o.nonce o.clock s.talk) new
not_reported users o s t out h event new a e f g (inl k) = inl (k.0, record { refused = k.1.refused; is = k.1.is ∙ asked_turn users o k.1.refused s t out h event a e f g })
not_reported users o s t out h event new a e f g (inr k) = inr (cut_turn o s (session_next users o.nonce o.clock s.talk) t out h event new a e f g k)

pub seats_is : (b had ok : Bool) (t : Talking) (outcome : Result Reply Fault) → b ≡ (had || ok) → had ≡ has_seat t → ok ≡ is_ok outcome → b ≡ (has_seat t || is_ok outcome)
seats_is b had ok t outcome e f g = e ∙ ap (λ x. x || ok) f ∙ ap (λ x. has_seat t || x) g

pub awaits_after : (users : List User) (nonce : ℕ) (clock : ℤ) (t new : Talking) (h : Heard) (event : Event) → h ≡ heard_of (session_next users nonce clock t).0 → h ≡ heard.Asks event → new ≡ (session_next users nonce clock t).1 → is_asked new.stage ≡ true
awaits_after users nonce clock t new h event e a f =
    let x = session_next users nonce clock t in
    ap (λ (q : Talking). is_asked q.stage) f ∙ subst (λ n. Fits n x.1.stage) (asks_of x.0 h event e a) (fits users nonce clock t)

pub match_then : {A E : Type 0} (r : Result A E) (P Q : A → Type 0) (F G : E → Type 0) → ((x : A) → P x → Q x) → ((e : E) → F e → G e) → MatchResult r P F → MatchResult r Q G
match_then (Ok x) P Q F G go fails p = go x p
match_then (Err e) P Q F G go fails p = fails e p

-- ---- a drain

-- a drain that was asked for, and what it comes to
pub drained_by : (o : Occasion) (s : Scene) (t : Talking) (came : Turn) (new : Scene) (refused : Bool) → (drain_in true, t) ≡ session_drain s.talk → refused ≡ false → (came, new) ≡ asked_of o refused s.machine s.out t events.Drain → (came, new) ≡ drain_of o false s
unfolding drain_of
drained_by o s t came new refused e b k = k ∙ ap (λ x. asked_of o x s.machine s.out t events.Drain) b ∙ ap (turn_by o false s) e

pub not_drained : (o : Occasion) (s : Scene) (t : Talking) → (drain_in false, t) ≡ session_drain s.talk → (turn.More, scene s.machine t s.out) ≡ drain_of o false s
unfolding drain_of
not_drained o s t e = ap (turn_by o false s) e

-- who may ask for it has the seat, and is ready
record IsReady (t new : Talking) : Type 0 where
  pub awaits : new.stage ≡ stage.Draining
  pub seat : has_seat new ≡ true
  pub again : record new { stage = stage.Ready } ≡ t

ready_for : (u : Option (List ℕ)) (t new : Talking) → t.stage ≡ stage.Ready → t.user ≡ u → (drain_in true, new) ≡ drain_for u t → IsReady t new
ready_for None t new r f e = absurd (let k = ap (λ p. p.0) e in cc)
ready_for (Some user) t new r f e =
    let n : new ≡ record t { stage = stage.Draining } = ap (λ p. p.1) e in
    record {
      awaits = ap (λ (q : Talking). q.stage) n;
      seat = ap (λ (q : Talking). has_seat q) n ∙ ap (has_seat_at stage.Draining) f;
      again = ap (λ (q : Talking). let w : Talking = record q { stage = stage.Ready } in w) n ∙ ap (λ x. let w : Talking = record t { stage = x } in w) (sym r);
    }

ready_at : (s : Stage) (t new : Talking) → t.stage ≡ s → (drain_in true, new) ≡ drain_at s t → IsReady t new
ready_at stage.Ready t new r e = ready_for t.user t new r refl e
ready_at s t new r e = absurd (let k = ap (λ p. p.0) e in cc)

is_ready : (t new : Talking) → (drain_in true, new) ≡ session_drain t → IsReady t new
unfolding session_drain
is_ready t new e = ready_at t.stage t new refl e

pub draining : (t new : Talking) → (drain_in true, new) ≡ session_drain t → new.stage ≡ stage.Draining
draining t new e = (is_ready t new e).awaits

-- a drain that was refused memory leaves all as it was
pub undrained : (s : Scene) (t again : Talking) (m : Machine) (outcome : Result Reply Fault) → (drain_in true, t) ≡ session_drain s.talk → is_refused outcome ≡ true → OnErr outcome (m ≡ s.machine) → again ≡ record t { stage = stage.Ready } → scene m again s.out ≡ s
undrained s t again m (Ok reply) e r f g = absurd cc
undrained s t again m (Err x) e r f g = ap (λ n. scene n again s.out) f ∙ ap (λ (q : Talking). scene s.machine q s.out) (g ∙ (is_ready s.talk t e).again)

pub cut_drain : (o : Occasion) (s new : Scene) (step_m : Machine) (t : Talking) (outcome : Result Reply Fault) (p : IsPerformed s.machine o events.Drain outcome step_m) → p.refused ≡ false → (drain_in true, t) ≡ session_drain s.talk → CutInAnswering (has_seat t || is_ok outcome) o (scene step_m t s.out) new
    → CutInDraining o s new
cut_drain o s new step_m t outcome p b e k = record {
  asked = sym (ap (λ x. x.0) e);
  closed = k.closed;
  out_is = k.out_is;
  machine_is = k.machine_is ∙ ap (λ x. left_by x o step_m) (ap (λ x. x || is_ok outcome) (is_ready s.talk t e).seat)
      ∙ ap (λ n. left_by true o n) (sym p.machine_is ∙ ap (λ x. machine_after s.machine (event_outcome x s.machine o events.Drain)) b);
}
