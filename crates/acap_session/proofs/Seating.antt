-- Who has a seat after a step, and what the step says.
use Rattle.std.proofs.Common.{◌≡◌, ◌⊎◌, inl, inr, ℕ, ℤ, ◌==◌, ◌||◌, Bool, true, false, is_ok, List, [], ◌∷◌, ◌++◌, Option, Some, None, Result, Ok, Err, refl, sym, ap, subst, ◌∙◌, if◌then◌else◌}
use Rattle.std.proofs.lemmas.List.{append-nil}
use Rattle.acap_commands.specs.declared.command.Command.{Command}
use Rattle.acap_commands.specs.declared.refusal.Refusal.TheVariants as refusals
use Rattle.acap_commands.specs.declared.reply.Reply.{Reply}
use Rattle.acap_commands.specs.declared.said.Said.TheVariants as said
use Rattle.acap_commands.specs.declared.command.Verb.TheVariants as verb
use Rattle.acap_machine.specs.Completing.{completes}
use Rattle.acap_machine.specs.Machine.{Machine, user_at}
use Rattle.acap_machine.specs.Runs.{machine_after, outcome_of}
use Rattle.acap_machine.specs.Serving.{answer_to}
use Rattle.acap_machine.specs.Stepping.{by_user, drained_at, left_at, plain, reply_of, enter_answer as seating, step_of}
use Rattle.acap_commands.specs.declared.event.Event.{Event}
use Rattle.acap_commands.specs.declared.event.Event.TheVariants as event
use Rattle.acap_commands.specs.declared.event.Fault.{Fault}
use Rattle.acap_commands.specs.declared.event.Fault.TheVariants as fault
use Rattle.acap_machine.proofs.Completing.{completing}
use Rattle.acap_machine.proofs.SeatLemmas.{entered_user, left_user}
use Rattle.acap_machine.proofs.StepLaws.{others, stay_served, stay_drained}
use Rattle.acap_session.specs.Completing.{Call, completed_by, AreCompleted}
use Rattle.acap_dialogue.specs.Session.{after_answer, answer_said, answer_user, comes_to, has_seat, has_seat_at}
use Rattle.acap_dialogue.specs.Talking.{Talking}
use Rattle.acap_session.specs.Turning.{Scene, left_by, event_outcome, turn_and_scene, turn_by}
use Rattle.acap_dialogue.specs.declared.next.Next.{Next}
use Rattle.acap_dialogue.specs.declared.next.Next.TheVariants as next
use Rattle.acap_session.specs.declared.occasion.Occasion.{Occasion}
use Rattle.acap_dialogue.specs.declared.stage.Stage.{Stage}
use Rattle.acap_dialogue.specs.declared.stage.Stage.TheVariants as stage
use Rattle.acap_session.proofs.Going.{At, Asks, Goes, at_open, left_open, one, waits, silent, ended}
use Rattle.acap_session.proofs.Opening.{entered_as}

-- ---- the other seats

abbrev pub SameElse : ℕ → Machine → Machine → Type 0
SameElse seat m n = (q : ℕ) → (q == seat) ≡ false → user_at n q ≡ user_at m q

after_else : (m : Machine) (seat : ℕ) (e : Event) (clock : ℤ) (r : Result (Reply × Machine) Fault) → step_of m seat e clock ≡ r → SameElse seat m (machine_after m r)
after_else m seat e clock (Ok x) k q apart = others.users m seat e clock x.0 x.1 k q apart
after_else m seat e clock (Err f) k q apart = refl

pub performed_else : (refused : Bool) (m : Machine) (o : Occasion) (e : Event) → SameElse o.seat m (machine_after m (event_outcome refused m o e))
performed_else true m o e q apart = refl
performed_else false m o e q apart = after_else m o.seat e o.clock (step_of m o.seat e o.clock) refl q apart

pub left_else : (has : Bool) (o : Occasion) (m : Machine) → SameElse o.seat m (left_by has o m)
left_else true o m q apart = after_else m o.seat event.Leave o.clock (step_of m o.seat event.Leave o.clock) refl q apart
left_else false o m q apart = refl

-- ---- a seat that is left

leave_by : (m : Machine) (seat : ℕ) (x : Option (List ℕ)) → user_at m seat ≡ x → user_at (machine_after m (by_user x (λ user. left_at m seat))) seat ≡ None
leave_by m seat None e = e
leave_by m seat (Some x) e = left_user m seat

pub left_empty : (has : Bool) (o : Occasion) (m : Machine) → (has ≡ false → user_at m o.seat ≡ None) → user_at (left_by has o m) o.seat ≡ None
left_empty true o m e = leave_by m o.seat (user_at m o.seat) refl
left_empty false o m e = e refl

pub unseated : (x : Stage) (user : Option (List ℕ)) (has : Option (List ℕ)) → At x user has → has_seat_at x user ≡ false → has ≡ None
unseated stage.Ready None has e f = e
unseated stage.Ready (Some user) has e f = cc
unseated (stage.Challenged tag challenge) user has e f = e.1
unseated stage.Closed user has e f = e
unseated x user has e f = absurd e

-- ---- what the machine answers where the seat is as the session says

-- memory was refused; or it answers so, and this user has the seat then
record Answers (m : Machine) (seat : ℕ) (name : List ℕ) (Fits : Reply → Type 0) (r : Result (Reply × Machine) Fault) : Type 0 where
  reply : Reply
  new : Machine
  is : r ≡ Ok (reply, new)
  fits : Fits reply
  has : user_at new seat ≡ Some name

abbrev MayAnswer : Machine → ℕ → List ℕ → (Reply → Type 0) → Result (Reply × Machine) Fault → Type 0
MayAnswer m seat name Fits r = (r ≡ Err fault.Memory) ⊎ Answers m seat name Fits r

command_by : (m : Machine) (o : Occasion) (c : Command) (name : List ℕ) (x : Option (List ℕ)) → user_at m o.seat ≡ x → x ≡ Some name →
    Answers m o.seat name (λ r. completes r.said ≡ true) (by_user x (λ user. reply_of (answer_to m o.seat user c o.clock)))
command_by m o c name None e f = absurd cc
command_by m o c name (Some x) e f =
    let y = reply_of (answer_to m o.seat x c o.clock) in
    record {
      reply = y.0;
      new = y.1;
      is = refl;
      fits = completing m o.seat c o.clock y.0 y.1 (ap (λ z. by_user z (λ user. reply_of (answer_to m o.seat user c o.clock))) e);
      has = stay_served m o.seat x c o.clock o.seat ∙ e ∙ f;
    }

asks_command : (refused : Bool) (m : Machine) (o : Occasion) (c : Command) (name : List ℕ) → user_at m o.seat ≡ Some name →
    MayAnswer m o.seat name (λ r. completes r.said ≡ true) (event_outcome refused m o (event.Command c))
asks_command true m o c name e = inl refl
asks_command false m o c name e = inr (command_by m o c name (user_at m o.seat) refl e)

drain_by : (m : Machine) (o : Occasion) (name : List ℕ) (x : Option (List ℕ)) → user_at m o.seat ≡ x → x ≡ Some name →
    Answers m o.seat name (λ r. completes r.said ≡ false) (by_user x (λ user. drained_at m o.seat))
drain_by m o name None e f = absurd cc
drain_by m o name (Some x) e f =
    record { reply = (drained_at m o.seat).0; new = (drained_at m o.seat).1; is = refl; fits = refl; has = stay_drained m o.seat o.seat ∙ e ∙ f }

asks_drain : (refused : Bool) (m : Machine) (o : Occasion) (name : List ℕ) → user_at m o.seat ≡ Some name →
    MayAnswer m o.seat name (λ r. completes r.said ≡ false) (event_outcome refused m o event.Drain)
asks_drain true m o name e = inl refl
asks_drain false m o name e = inr (drain_by m o name (user_at m o.seat) refl e)

enter_by : (m : Machine) (seat : ℕ) (name : List ℕ) (x : Option (List ℕ)) → x ≡ None → Answers m seat name (λ r. r.said ≡ said.Greeting) (seating m seat name x)
enter_by m seat name None e = record {
  reply = plain said.Greeting;
  new = entered_as m seat name;
  is = refl;
  fits = refl;
  has = entered_user m seat name;
}
enter_by m seat name (Some x) e = absurd cc

asks_entry : (refused : Bool) (m : Machine) (o : Occasion) (name : List ℕ) → user_at m o.seat ≡ None →
    MayAnswer m o.seat name (λ r. r.said ≡ said.Greeting) (event_outcome refused m o (event.Enter name))
asks_entry true m o name e = inl refl
asks_entry false m o name e = inr (enter_by m o.seat name (user_at m o.seat) e)

-- ---- what the session makes of it

-- how a session stands at its seat then, and what it said of commands in hand
pub record Made (b : List Call) (seat : ℕ) (out : List ℕ) (new : Scene) : Type 0 where
  pub at : At new.talk.stage new.talk.user (user_at new.machine seat)
  pub said : List ℕ
  pub out_is : new.out ≡ out ++ said
  pub completed : AreCompleted b said new.talk.held.fatal new.talk.stage

abbrev Tells : List Call → Occasion → Machine → List ℕ → Talking → Stage → Result (Reply × Machine) Fault → Type 0
Tells b o m out t x r =
    Made b o.seat out (turn_and_scene o (has_seat_at x t.user || is_ok r) (machine_after m r) out (comes_to (record t { user = answer_user x t.user (outcome_of r) }) (answer_said x (outcome_of r)))).1

tells_of : (b : List Call) (o : Occasion) (m : Machine) (out : List ℕ) (t : Talking) (x : Stage) (name : List ℕ) (Fits : Reply → Type 0) (r : Result (Reply × Machine) Fault) →
    Tells b o m out t x (Err fault.Memory) → ((reply : Reply) (new : Machine) → Fits reply → user_at new o.seat ≡ Some name → Tells b o m out t x (Ok (reply, new))) →
    MayAnswer m o.seat name Fits r → Tells b o m out t x r
tells_of b o m out t x name Fits r refused good (inl e) = subst (λ y. Tells b o m out t x y) (sym e) refused
tells_of b o m out t x name Fits r refused good (inr a) = subst (λ y. Tells b o m out t x y) (sym a.is) (good a.reply a.new a.fits a.has)

asked_made : (b : List Call) (o : Occasion) (refused : Bool) (m : Machine) (out : List ℕ) (t : Talking) (e : Event) (x : Stage) → Asks b t.user (user_at m o.seat) e x → Tells b o m out t x (event_outcome refused m o e)
asked_made b o refused m out t e (stage.Asked tag) (b_is, (name, u, has), (c, e_is)) =
    tells_of b o m out t (stage.Asked tag) name (λ r. completes r.said ≡ true) (event_outcome refused m o e)
    (record { at = has ∙ sym u; said = _; out_is = refl; completed = one b (record { tag = tag; said = said.Refused refusals.Memory }) t.held.fatal stage.Ready b_is refl })
    (λ reply new fits is. record {
      at = is ∙ sym u;
      said = _;
      out_is = refl;
      completed = one b (record { tag = tag; said = reply.said }) t.held.fatal stage.Ready (b_is ∙ ended tag (record { tag = tag; said = reply.said }) (completes reply.said) fits) refl;
    })
    (subst (λ y. MayAnswer m o.seat name (λ r. completes r.said ≡ true) (event_outcome refused m o y)) (sym e_is) (asks_command refused m o c name has))
asked_made b o refused m out t e (stage.LoggingIn tag name) (b_is, u, has, e_is) =
    tells_of b o m out t (stage.LoggingIn tag name) name (λ r. r.said ≡ said.Greeting) (event_outcome refused m o e)
    (record { at = has ∙ sym u; said = _; out_is = refl; completed = one b (record { tag = tag; said = said.Refused refusals.Memory }) t.held.fatal stage.Ready b_is refl })
    (λ reply new fits is. record { at = is; said = _; out_is = refl; completed = one b (record { tag = tag; said = said.Done verb.Authenticate }) t.held.fatal stage.Ready b_is refl })
    (subst (λ y. MayAnswer m o.seat name (λ r. r.said ≡ said.Greeting) (event_outcome refused m o y)) (sym e_is) (asks_entry refused m o name has))
asked_made b o refused m out t e stage.Entering (b_is, (name, u, has, e_is)) =
    tells_of b o m out t stage.Entering name (λ r. r.said ≡ said.Greeting) (event_outcome refused m o e)
    (record { at = has; said = []; out_is = refl; completed = silent b t.held.fatal stage.Closed (inl b_is) })
    (λ reply new fits is. record {
      at = is ∙ sym u;
      said = _;
      out_is = refl;
      completed = waits b (record { tag = None; said = reply.said }) t.held.fatal stage.Ready (ap (λ w. completed_by (record { tag = None; said = w })) fits) b_is;
    })
    (subst (λ y. MayAnswer m o.seat name (λ r. r.said ≡ said.Greeting) (event_outcome refused m o y)) (sym e_is) (asks_entry refused m o name has))
asked_made b o refused m out t e stage.Draining (b_is, (name, u, has), e_is) =
    tells_of b o m out t stage.Draining name (λ r. completes r.said ≡ false) (event_outcome refused m o e)
    (record { at = has ∙ sym u; said = []; out_is = refl; completed = silent b t.held.fatal stage.Ready b_is })
    (λ reply new fits is. record {
      at = is ∙ sym u;
      said = _;
      out_is = refl;
      completed = waits b (record { tag = None; said = reply.said }) t.held.fatal stage.Ready (ap (λ c. if c then None ∷ [] else []) fits) b_is;
    })
    (subst (λ y. MayAnswer m o.seat name (λ r. completes r.said ≡ false) (event_outcome refused m o y)) (sym e_is) (asks_drain refused m o name has))
asked_made b o refused m out t e x a = absurd a

-- ---- a turn or a drain, by what is next

pub made : (b : List Call) (o : Occasion) (refused : Bool) (s : Scene) (n : Next) (t : Talking) →
    (has_seat s.talk ≡ false → user_at s.machine o.seat ≡ None) → Goes b t.user (user_at s.machine o.seat) t.held.fatal n t.stage →
    Made b o.seat s.out (turn_by o refused s (n, t)).1
unfolding after_answer
made b o refused s next.More t free g = record {
  at = at_open t.stage t.user (user_at s.machine o.seat) g.0 g.2;
  said = [];
  out_is = sym (append-nil s.out);
  completed = silent b t.held.fatal t.stage (left_open t.held.fatal t.stage t.user b g.0 g.1);
}
made b o refused s (next.Say octets) t free g = record { at = at_open t.stage t.user (user_at s.machine o.seat) g.0 g.2; said = octets; out_is = refl; completed = g.1 }
made b o refused s (next.Ask e) t free g = asked_made b o refused s.machine s.out t e t.stage g
made b o refused s (next.Close octets) t free g = record {
  at = subst (λ x. At x t.user (user_at (left_by (has_seat s.talk) o s.machine) o.seat)) (sym g.0) (left_empty (has_seat s.talk) o s.machine free);
  said = octets;
  out_is = refl;
  completed = g.1;
}

shown_else : (o : Occasion) (has : Bool) (m : Machine) (out : List ℕ) (n : Next) (t : Talking) → SameElse o.seat m (turn_and_scene o has m out (n, t)).1.machine
shown_else o has m out (next.Close octets) t q apart = left_else has o m q apart
shown_else o has m out n t q apart = refl

pub made_else : (o : Occasion) (refused : Bool) (s : Scene) (n : Next) (t : Talking) → SameElse o.seat s.machine (turn_by o refused s (n, t)).1.machine
made_else o refused s next.More t q apart = refl
made_else o refused s (next.Say octets) t q apart = refl
made_else o refused s (next.Ask e) t q apart =
    let r = event_outcome refused s.machine o e in
    let x = after_answer t (outcome_of r) in
    shown_else o (has_seat t || is_ok r) (machine_after s.machine r) s.out x.0 x.1 q apart ∙ performed_else refused s.machine o e q apart
made_else o refused s (next.Close octets) t q apart = left_else (has_seat s.talk) o s.machine q apart

-- ---- no seat is answered to be empty or taken

abbrev pub IsPlaced : Option (Result Reply Fault) → Type 0
IsPlaced (Some (Err fault.NotEntered)) = ⊥
IsPlaced (Some (Err fault.AlreadyEntered)) = ⊥
IsPlaced reply = Unit {0}

may_be : (m : Machine) (seat : ℕ) (name : List ℕ) (Fits : Reply → Type 0) (r : Result (Reply × Machine) Fault) → MayAnswer m seat name Fits r → IsPlaced (Some (outcome_of r))
may_be m seat name Fits r (inl e) = subst (λ y. IsPlaced (Some (outcome_of y))) (sym e) tt
may_be m seat name Fits r (inr a) = subst (λ y. IsPlaced (Some (outcome_of y))) (sym a.is) tt

pub asks_placed : (b : List Call) (user : Option (List ℕ)) (refused : Bool) (m : Machine) (o : Occasion) (e : Event) (x : Stage) → Asks b user (user_at m o.seat) e x → IsPlaced (Some (outcome_of (event_outcome refused m o e)))
asks_placed b user refused m o e (stage.Asked tag) (b_is, (name, u, has), (c, e_is)) =
    subst (λ y. IsPlaced (Some (outcome_of (event_outcome refused m o y)))) (sym e_is) (may_be m o.seat name _ _ (asks_command refused m o c name has))
asks_placed b user refused m o e (stage.LoggingIn tag name) (b_is, u, has, e_is) =
    subst (λ y. IsPlaced (Some (outcome_of (event_outcome refused m o y)))) (sym e_is) (may_be m o.seat name _ _ (asks_entry refused m o name has))
asks_placed b user refused m o e stage.Entering (b_is, (name, u, has, e_is)) =
    subst (λ y. IsPlaced (Some (outcome_of (event_outcome refused m o y)))) (sym e_is) (may_be m o.seat name _ _ (asks_entry refused m o name has))
asks_placed b user refused m o e stage.Draining (b_is, (name, u, has), e_is) =
    subst (λ y. IsPlaced (Some (outcome_of (event_outcome refused m o y)))) (sym e_is) (may_be m o.seat name _ _ (asks_drain refused m o name has))
asks_placed b user refused m o e x a = absurd a
