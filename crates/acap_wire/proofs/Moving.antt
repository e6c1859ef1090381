-- What a step of a world makes of its machine, which stays current, and whose live contexts were live before or are made.
use Rattle.std.proofs.Common.{◌≡◌, ℕ, ◌==◌, ℤ, Bool, true, false, List, Option, Some, None, Result, Ok, Err, refl, sym, ap, subst, ◌∙◌}
use Rattle.std.specs.Option.{option_map, option_and_then}
use Rattle.acap_commands.specs.declared.event.Event.{Event}
use Rattle.acap_commands.specs.declared.event.Event.TheVariants as event
use Rattle.acap_commands.specs.declared.event.Fault.{Fault}
use Rattle.acap_commands.specs.declared.reply.Reply.{Reply}
use Rattle.acap_commands.specs.declared.said.Said.{Said}
use Rattle.acap_dialogue.specs.declared.next.Heard.TheVariants as heard
use Rattle.acap_dialogue.specs.declared.next.Next.TheVariants as next
use Rattle.acap_machine.specs.Client.{HeldLaw, View, live_at}
use Rattle.acap_machine.specs.Following.{is_named, IsCurrentMachine, CurrentLaw}
use Rattle.acap_machine.specs.Machine.{Machine}
use Rattle.acap_machine.specs.Runs.{outcome_of, machine_after}
use Rattle.acap_machine.specs.Stepping.{step_of}
use Rattle.acap_session.specs.Laws.{asked_by}
use Rattle.acap_session.specs.Live.{asked_in, told_with, told_in, is_named_action}
use Rattle.acap_session.specs.Places.{SeatSession}
use Rattle.acap_session.specs.Turning.{event_outcome, left_by}
use Rattle.acap_session.specs.World as world
use Rattle.acap_session.specs.World.{World, Action, Step, did}
use Rattle.acap_session.proofs.Forming.{command_formed}
use Rattle.acap_session.proofs.Naming.{NamedWorld, asked_named}
use Rattle.acap_session.proofs.Living.{machine_by, MovedTo, asked_on, moved_in}
use Rattle.acap_wire.proofs.Occasions.{Occasion}
use Rattle.acap_wire.proofs.Machine.{live_elsewhere}

-- ---- the machine stays current

module _ (current : CurrentLaw) (law : HeldLaw) where
  after_current : (m : Machine) (seat : ℕ) (e : Event) (clock : ℤ) (r : Result (Reply × Machine) Fault) → step_of m seat e clock ≡ r → is_named e ≡ true → IsCurrentMachine m → IsCurrentMachine (machine_after m r)
  after_current m seat e clock (Ok stepped) f named is = current.stays m seat e clock stepped.0 stepped.1 f named is
  after_current m seat e clock (Err fault) f named is = is

  by_current : (m : Machine) (o : Occasion) (refused : Bool) (asked : Option Event) → ((e : Event) → asked ≡ Some e → is_named e ≡ true) → IsCurrentMachine m → IsCurrentMachine (machine_by asked o refused m)
  by_current m o refused None named is = is
  by_current m o true (Some e) named is = is
  by_current m o false (Some e) named is = after_current m o.seat e o.clock (step_of m o.seat e o.clock) refl (named e refl) is

  left_current : (m : Machine) (o : Occasion) (left : Bool) → IsCurrentMachine m → IsCurrentMachine (left_by left o m)
  left_current m o true is = after_current m o.seat event.Leave o.clock (step_of m o.seat event.Leave o.clock) refl refl is
  left_current m o false is = is

  pub step_current : (w : World) (x : Step) → NamedWorld w → is_named_action x.action ≡ true → IsCurrentMachine w.machine → IsCurrentMachine (did x.occasion x.refused x.action w).machine
  step_current w x names named is =
      let moved = moved_in x.occasion x.refused x.action w in
      subst IsCurrentMachine (sym moved.is)
      (left_current (machine_by (asked_in w x) x.occasion x.refused w.machine) x.occasion moved.left (by_current w.machine x.occasion x.refused (asked_in w x) (asked_named command_formed w x names named) is))

  -- ---- a context that is live where the session leaves was live before, and one of another seat

  gone : (m : Machine) (o : Occasion) (r : Result (Reply × Machine) Fault) (q : List ℕ) (x : View) → step_of m o.seat event.Leave o.clock ≡ r → live_at (machine_after m r) o.seat q ≡ Some x → live_at m o.seat q ≡ Some x
  gone m o (Ok stepped) q x f l = absurd (let none : None ≡ Some x = sym (law.left m o.seat o.clock stepped.0 stepped.1 q f) ∙ l in cc)
  gone m o (Err fault) q x f l = l

  pub left_live : (m : Machine) (o : Occasion) (left : Bool) (q : List ℕ) (x : View) → live_at (left_by left o m) o.seat q ≡ Some x → live_at m o.seat q ≡ Some x
  left_live m o true q x l = gone m o (step_of m o.seat event.Leave o.clock) q x refl l
  left_live m o false q x l = l

  module _ (seat : ℕ) (q : List ℕ) where
    abbrev WasLive : Machine → Type 0
    WasLive m = (y : View) × (live_at m seat q ≡ Some y)

    after_else : (m : Machine) (other : ℕ) (e : Event) (clock : ℤ) (r : Result (Reply × Machine) Fault) (x : View) → step_of m other e clock ≡ r → (seat == other) ≡ false
        → live_at (machine_after m r) seat q ≡ Some x → WasLive m
    after_else m other e clock (Ok stepped) x f apart l = live_elsewhere law m other e clock stepped.0 stepped.1 seat q x f apart l
    after_else m other e clock (Err fault) x f apart l = (x, l)

    by_else : (m : Machine) (o : Occasion) (refused : Bool) (asked : Option Event) (x : View) → (seat == o.seat) ≡ false → live_at (machine_by asked o refused m) seat q ≡ Some x → WasLive m
    by_else m o refused None x apart l = (x, l)
    by_else m o true (Some e) x apart l = (x, l)
    by_else m o false (Some e) x apart l = after_else m o.seat e o.clock (step_of m o.seat e o.clock) x refl apart l

    left_else : (m : Machine) (o : Occasion) (left : Bool) (x : View) → (seat == o.seat) ≡ false → live_at (left_by left o m) seat q ≡ Some x → WasLive m
    left_else m o true x apart l = after_else m o.seat event.Leave o.clock (step_of m o.seat event.Leave o.clock) x refl apart l
    left_else m o false x apart l = (x, l)

    pub step_else : (w : World) (x : Step) (v : View) → (seat == x.occasion.seat) ≡ false → live_at (did x.occasion x.refused x.action w).machine seat q ≡ Some v → WasLive w.machine
    step_else w x v apart l =
        let moved = moved_in x.occasion x.refused x.action w in
        let first = left_else (machine_by (asked_in w x) x.occasion x.refused w.machine) x.occasion moved.left v apart (ap (λ m. live_at m seat q) (sym moved.is) ∙ l) in
        by_else w.machine x.occasion x.refused (asked_in w x) first.0 apart first.1

-- ---- what the machine said in a step

-- nothing, and it is as it was; or a reply to this event
pub record HasSaid (o : Occasion) (m n : Machine) (e : Event) (words : Said) : Type 0 where
  pub reply : Reply
  pub step : step_of m o.seat e o.clock ≡ Ok (reply, n)
  pub said : reply.said ≡ words

abbrev pub Answered : Occasion → Machine → Machine → Option (Event × Said) → Type 0
Answered o m n None = n ≡ m
Answered o m n (Some told) = HasSaid o m n told.0 told.1

answered_by : (o : Occasion) (m : Machine) (e : Event) (r : Result (Reply × Machine) Fault) → step_of m o.seat e o.clock ≡ r → Answered o m (machine_after m r) (told_with e (outcome_of r))
answered_by o m e (Ok stepped) f = record { reply = stepped.0; step = f; said = refl }
answered_by o m e (Err fault) f = refl

answered_in : (o : Occasion) (refused : Bool) (m : Machine) (asked : Option Event)
    → Answered o m (machine_by asked o refused m) (option_and_then (λ e. option_and_then (told_with e) (option_map (λ e. outcome_of (event_outcome refused m o e)) asked)) asked)
answered_in o refused m None = refl
answered_in o true m (Some e) = refl
answered_in o false m (Some e) = answered_by o m e (step_of m o.seat e o.clock) refl

pub answered : (w : World) (x : Step) → Answered x.occasion w.machine (machine_by (asked_in w x) x.occasion x.refused w.machine) (told_in w x)
answered w x = answered_in x.occasion x.refused w.machine (asked_in w x)
