-- What a session that runs keeps is kept by its turns and its drains.
use Rattle.std.proofs.Common.{◌≡◌, ℕ, ℤ, ◌+◌, ◌⊎◌, ◌&&◌, not, List, [], ◌∷◌, ◌++◌, Option, Some, None, Result, Ok, Err, IfOk, OnErr, Bool, true, false, refl, sym, ◌∙◌, ap, subst, append-nil, arith, inl, inr}
use mathlib.Core.Logic.{∥∥₁_map}
use Rattle.std.specs.Option.{option_and_then, option_map}
use Rattle.futures.specs.declared.task.Poll.{Poll}
use Rattle.futures.specs.declared.task.Poll.TheVariants.{Ready}
use Rattle.std.specs.declared.alloc.AllocError.{AllocError as Memory}
use Rattle.acap_commands.specs.declared.event.Event.{Event}
use Rattle.acap_commands.specs.declared.event.Event.TheVariants as event
use Rattle.acap_commands.specs.declared.event.Fault.{Fault}
use Rattle.acap_locked.specs.declared.call.Answer.{Answer}
use Rattle.acap_dialogue.specs.Running as running
use Rattle.acap_dialogue.specs.Running.{At, Did, Turn, Drain, Outcome, calls_in, calls_with, call_of, clocks, closes, did, drains, drains_in, event_in, fault_count, faults_in, is_left, leaving, nonces, octets_in, pieces, seated_by, after_asking, after_saying, after_turn}
use Rattle.acap_dialogue.specs.Saying.{with_said, heard_of}
use Rattle.acap_dialogue.specs.Session.{after_answer, drain_at, drain_for, session_drain, session_next}
use Rattle.acap_dialogue.specs.Talking.{Talking}
use Rattle.acap_dialogue.specs.declared.next.Next.{Next}
use Rattle.acap_dialogue.specs.declared.next.Next.TheVariants as next
use Rattle.acap_dialogue.specs.declared.stage.Stage.{Stage}
use Rattle.acap_dialogue.specs.declared.stage.Stage.TheVariants as stage
use Rattle.acap_dialogue.proofs.Speaking.{same_talk}
use Rattle.acap_task.specs.Kept.{Agrees, Kept, Moves, Roles, count_told, fault_of, shape}
use Rattle.acap_task.specs.Progress.{Progress}
use Rattle.acap_task.specs.Told.{WireTold, DeskTold, SourceTold, BellTold, after_call, after_ring, gives_moment, gives_nonce, up}
use Rattle.acap_task.specs.Turns.{Acts, DrainsAs, Idles, KeepsAll, Leaves, Notes, Rings, SaysTo, Settles, Turns, fault_in, is_entering, reply_in, seats}
use Rattle.acap_task.specs.declared.bell.Ring.{Ring}
use Rattle.acap_task.specs.declared.bell.Ring.TheVariants as ring
use Rattle.acap_task.specs.declared.progress.Step.{Step}
use Rattle.acap_task.specs.declared.progress.Step.TheVariants as step
use Rattle.acap_task.proofs.Keeping.{OfSource, Owes, Says, kept_of, kept_same, kept_step, none_used, owes_all, owes_none, run_of, session_of, source_idle, source_of, source_on, wire_of, wire_on}
use Rattle.acap_task.proofs.Telling.{Goes, agrees_adds, agrees_as, counted_up, goes_as, goes_by_call, goes_nowhere, goes_on, picked_more}

-- ---- what is said, and a Leave after it

abbrev leave_calls : ℤ → Outcome → List running.Call
leave_calls clock left = call_of clock (Some event.Leave) left

pub shown_as : (outcome : Result Answer Fault) → fault_in outcome ≡ fault_of (Some (reply_in outcome))
shown_as (Ok answer) = refl
shown_as (Err fault) = refl

-- what is said is x, with what is answered to the Leave of a session that then ends, if it makes one
record HasSaid (x : Next × Talking) (clock : ℤ) (k : Progress) (d : DeskTold) (left : Option Fault) (l : Progress) (e : DeskTold)
    (out : List ℕ) : Type 0 where
  outcome : Outcome
  shown : left ≡ fault_of outcome
  made : leaving (is_left (k.seated, x)) outcome (after_saying out (k.seated, x)) ≡ Some (after_saying out (k.seated, x))
  says : Says out (after_saying out (k.seated, x)) (with_said [] x.0) k.unsent l
  goes : Goes d e (leave_calls clock outcome) (fault_count outcome)

added_text : (out : List ℕ) (n : Next) → with_said out n ≡ out ++ with_said [] n
added_text out (next.Say octets) = refl
added_text out (next.Close octets) = refl
added_text out other = sym (append-nil out)

module _ {clock : ℤ} {k l : Progress} {d e : DeskTold} {left : Option Fault} (out : List ℕ) (t : Talking) where
  said_open : (n : Next) → closes n ≡ false → left ≡ None → l.seated ≡ k.seated → e ≡ d
      → (l.lost ≡ false → t ≡ l.talk) → Owes k.unsent (with_said [] n) l → HasSaid (n, t) clock k d left l e out
  said_open n still none same desk talk owes = record {
    outcome = None;
    shown = none;
    made = ap (λ y. leaving (y && k.seated) None (after_saying out (k.seated, (n, t)))) still;
    says = record { talk = talk; seated = ap (λ y. not y && k.seated) still ∙ sym same; out_is = added_text out n; owes = owes };
    goes = goes_nowhere d e desk;
  }

  said_left : (seated : Bool) (octets : List ℕ) → k.seated ≡ seated → Leaves seated clock d left e
      → Says out (after_saying out (k.seated, (next.Close octets, t))) octets k.unsent l
      → HasSaid (next.Close octets, t) clock k d left l e out
  said_left true octets is h says = record {
    outcome = Some (reply_in h.0);
    shown = h.1 ∙ shown_as h.0;
    made = ap (λ z. leaving z (Some (reply_in h.0)) (after_saying out (k.seated, (next.Close octets, t)))) is;
    says = says;
    goes = goes_by_call d e event.Leave clock h.0 h.2;
  }
  said_left false octets is h says = record {
    outcome = None;
    shown = h.0;
    made = ap (λ z. leaving z None (after_saying out (k.seated, (next.Close octets, t)))) is;
    says = says;
    goes = goes_nowhere d e h.1;
  }

  says_to : (n : Next) → SaysTo (n, t) clock k d left l e → HasSaid (n, t) clock k d left l e out
  says_to n (inr h) = said_open n h.1 h.3 h.4 h.5 (λ f. absurd (cc (f, h.0))) (owes_none h.2 h.0)
  says_to (next.Close octets) (inl h) =
      said_left k.seated octets refl h.3.0 (record { talk = λ _. sym h.1; seated = sym h.3.1; out_is = refl; owes = owes_all h.2 })
  says_to n (inl h) = said_open n refl h.3.0 h.3.1 h.3.2 (λ _. sym h.1) (owes_all (h.2 ∙ added_text k.unsent n))

-- ---- a turn or a drain

-- x is a turn or a drain of a session of which y is next
record IsStep {roles : Roles} {w : WireTold} {d : DeskTold} {s : SourceTold} {b : BellTold} {k : Progress} (h : Kept roles w d s b k)
    (y : Next × Talking) (clock : ℤ) (t : SourceTold) (c : BellTold) (asked left : Outcome) (x : Did) : Type 0 where
  moments : List ℤ
  numbers : List ℕ
  does : did roles.users x h.at ≡ after_turn h.at y asked left
  moves : Moves roles.users x h.at
  calls_are : calls_in roles.users x h.at ≡ calls_with clock (event_in y) asked left
  faults_are : faults_in x ≡ fault_count asked + fault_count left
  mute : octets_in x ≡ []
  given : OfSource t (h.dids ++ x ∷ []) moments numbers
  rings_are : Agrees c.rings (count_told (drains h.dids + drains_in x))

rung_once : (o : Option ℕ) (n : ℕ) → Agrees o (count_told n) → Agrees (option_map up o) (count_told (n + 1))
rung_once None n a = tt
rung_once (Some m) n a = ap up a ∙ counted_up n

module _ {roles : Roles} {w : WireTold} {d : DeskTold} {s : SourceTold} {b : BellTold} {k : Progress} (h : Kept roles w d s b k) where
  is_turn : (clock : ℤ) (nonce : ℕ) (y : Next × Talking) → session_next roles.users nonce clock h.at.talk ≡ y → (y.0 ≡ next.More → ⊥)
      → (asked left : Outcome)
      → IsStep h y clock (gives_nonce (gives_moment s clock) nonce) b asked left (Turn clock nonce asked left)
  unfolding did
  is_turn clock nonce y is some asked left = record {
    moments = h.moments ++ clock ∷ [];
    numbers = h.numbers ++ nonce ∷ [];
    does = ap (λ z. after_turn h.at z asked left) is;
    moves = λ e. some (ap (λ z. z.0) (sym is) ∙ e);
    calls_are = ap (λ z. calls_with clock (event_in z) asked left) is;
    faults_are = refl;
    mute = refl;
    given = source_on h.dids (Turn clock nonce asked left)
        (agrees_adds s.moments h.moments (clock ∷ []) h.moments_are) (agrees_adds s.nonces h.numbers (nonce ∷ []) h.numbers_are)
        (picked_more _ _ clock h.clocks_picked) (picked_more _ _ nonce h.nonces_picked);
    rings_are = agrees_as b.rings _ _ (ap count_told (omega arith)) h.rings_are;
  }

  is_drain : (clock : ℤ) (y : Next × Talking) → session_drain h.at.talk ≡ y → (asked left : Outcome)
      → IsStep h y clock (gives_moment s clock) (after_ring b (Ready ring.Rung)) asked left (Drain clock asked left)
  unfolding did
  is_drain clock y is asked left = record {
    moments = h.moments ++ clock ∷ [];
    numbers = h.numbers;
    does = ap (λ z. after_turn h.at z asked left) is;
    moves = tt;
    calls_are = ap (λ z. calls_with clock (event_in z) asked left) is;
    faults_are = refl;
    mute = refl;
    given = source_on h.dids (Drain clock asked left) (agrees_adds s.moments h.moments (clock ∷ []) h.moments_are) h.numbers_are
        (picked_more _ _ clock h.clocks_picked) (none_used _ _ h.nonces_picked);
    rings_are = rung_once b.rings (drains h.dids) h.rings_are;
  }

  -- what was asked was answered, if anything was, and what is then said is x
  step_said : {l : Progress} {e f : DeskTold} {t : SourceTold} {c : BellTold} {left : Option Fault} (clock : ℤ) (y : Next × Talking)
      (asked : Outcome) (make : Outcome → Did) (seated : Bool) (x : Next × Talking)
      → ((gone : Outcome) → IsStep h y clock t c asked gone (make gone)) → after_asking h.at.seated y asked ≡ Some (seated, x)
      → SaysTo x clock (record k { seated = seated }) e left l f
      → Goes d e (call_of clock (event_in y) asked) (fault_count asked)
      → ((gone : Outcome) → left ≡ fault_of gone → Notes (shape (make gone)) k l) → k.lost ≡ false → Kept roles w f t c l
  step_said clock y asked make seated x steps asks says goes notes whole =
      let q = says_to {k = record k { seated = seated }} h.at.out x.1 x.0 says in
      let i = steps q.outcome in
      kept_step h (make q.outcome)
      (i.does ∙ ap (option_and_then (λ z. leaving (is_left z) q.outcome (after_saying h.at.out z))) asks ∙ q.made) i.moves q.says whole
      (notes q.outcome q.shown) (wire_on (make q.outcome) (wire_of h) i.mute (λ _. whole))
      (goes_as (goes_on goes q.goes) i.calls_are i.faults_are) i.given i.rings_are

seats_as : (e : Event) (outcome : Result Answer Fault) (seated : Bool)
    → seats (is_entering e) outcome seated ≡ seated_by e (reply_in outcome) seated
seats_as (event.Enter user) (Ok answer) seated = refl
seats_as event outcome seated = refl

-- a drain says nothing by itself
abbrev IsMute : Next → Type 0
IsMute (next.Say octets) = ⊥
IsMute (next.Close octets) = ⊥
IsMute other = Unit {0}

mute_for : (user : Option (List ℕ)) (t : Talking) → IsMute (drain_for user t).0
mute_for None t = tt
mute_for (Some user) t = tt

mute_at : (s : Stage) (t : Talking) → IsMute (drain_at s t).0
mute_at stage.Ready t = mute_for t.user t
mute_at other t = tt

mute : (t : Talking) → IsMute (session_drain t).0
unfolding session_drain
mute t = mute_at t.stage t

-- a bell that doesn't ring
bell_kept : {roles : Roles} {w : WireTold} {d : DeskTold} {s : SourceTold} {b c : BellTold} {k : Progress} (h : Kept roles w d s b k)
    → c.rings ≡ b.rings → Kept roles w d s c k
bell_kept h same = kept_of (run_of h) (session_of h) (wire_of h) (source_of h)
    (subst (λ o. Agrees o (count_told (drains h.dids))) (sym same) h.rings_are)

module _ {roles : Roles} {w : WireTold} {d e : DeskTold} {s : SourceTold} {b : BellTold} {k l : Progress} (h : Kept roles w d s b k) where
  -- an event was asked and answered, and what is said to that is said
  step_asked : {t : SourceTold} {c : BellTold} {asked left : Option Fault} (event : Event) (talk : Talking) (clock : ℤ)
      (make : Outcome → Outcome → Did) (note : Option Fault → Option Fault → Step)
      → ((asked gone : Outcome) → IsStep h (next.Ask event, talk) clock t c asked gone (make asked gone))
      → ((asked gone : Outcome) → note (fault_of asked) (fault_of gone) ≡ shape (make asked gone))
      → Notes (note asked left) k l → Settles event clock (record k { talk = talk }) d asked left l e → k.lost ≡ false
      → Kept roles w e t c l
  step_asked {asked = asked} {left = left} event talk clock make note steps shapes noted (outcome, shown, says) whole =
      let r = reply_in outcome in
      let x = after_answer talk r in
      let P : Bool → Type 0 = λ z. SaysTo x clock (record k { seated = z }) (after_call d event clock outcome) left l e in
      step_said h clock (next.Ask event, talk) (Some r) (make (Some r)) (seated_by event r k.seated) x (steps (Some r))
      (ap (λ z. Some (seated_by event r z, x)) h.seated_is) (subst P (seats_as event outcome k.seated) says)
      (goes_by_call d (after_call d event clock outcome) event clock outcome refl)
      (λ gone p. noted ∙ ap (λ n. k.steps ++ n ∷ []) ((λ i. note ((shown ∙ shown_as outcome) i) (p i)) ∙ shapes (Some r) gone)) whole

  -- a turn, by what is next
  acted : (clock : ℤ) (nonce : ℕ) (moved : Bool) (n : Next) (t : Talking) → session_next roles.users nonce clock k.talk ≡ (n, t)
      → k.lost ≡ false → Acts (heard_of n) clock nonce (record k { talk = t; unsent = with_said k.unsent n }) d moved l e
      → Kept roles w e (gives_nonce (gives_moment s clock) nonce) b l
  acted clock nonce moved next.More t is whole made =
      let same : t ≡ k.talk = ap (λ x. x.1) (sym is) ∙ same_talk roles.users nonce clock k.talk (ap (λ x. x.0) is) in
      kept_same (made.1 ∙ ap (λ x. record k { talk = x }) same) made.2 refl
      (kept_of (run_of h) (session_of h) (wire_of h) (source_idle clock nonce (source_of h)) h.rings_are)
  acted clock nonce moved (next.Say octets) t is whole made =
      let from = ap (session_next roles.users nonce clock) (h.talk_is whole) ∙ is in
      step_said h clock (next.Say octets, t) None (Turn clock nonce None) k.seated (next.Say octets, t)
      (is_turn h clock nonce (next.Say octets, t) from (λ e. cc) None) (ap (λ z. Some (z, (next.Say octets, t))) h.seated_is)
      (inl (made.2.2, made.2.0, made.2.1, (refl, made.2.3, made.3))) (goes_nowhere d d refl)
      (λ gone p. made.1 ∙ ap (λ f. k.steps ++ step.Turn clock nonce None f ∷ []) p) whole
  acted clock nonce moved (next.Close octets) t is whole made =
      let from = ap (session_next roles.users nonce clock) (h.talk_is whole) ∙ is in
      let m : (left : Option Fault) × Notes (step.Turn clock nonce None left) k l × Leaves k.seated clock d left e
      × KeepsAll (record k { talk = t; unsent = k.unsent ++ octets; seated = false }) l = made.1 in
      step_said h clock (next.Close octets, t) None (Turn clock nonce None) k.seated (next.Close octets, t)
      (is_turn h clock nonce (next.Close octets, t) from (λ e. cc) None) (ap (λ z. Some (z, (next.Close octets, t))) h.seated_is)
      (inl (m.3.2, m.3.0, m.3.1, (m.2, m.3.3))) (goes_nowhere d d refl)
      (λ gone p. m.1 ∙ ap (λ f. k.steps ++ step.Turn clock nonce None f ∷ []) p) whole
  acted clock nonce moved (next.Ask event) t is whole made =
      let from = ap (session_next roles.users nonce clock) (h.talk_is whole) ∙ is in
      let m : (asked : Option Fault) × (left : Option Fault) × Notes (step.Turn clock nonce asked left) k l
      × Settles event clock (record k { talk = t }) d asked left l e = made.1 in
      step_asked event t clock (Turn clock nonce) (step.Turn clock nonce) (is_turn h clock nonce (next.Ask event, t) from (λ e. cc))
      (λ asked gone. refl) m.2 m.3 whole

  idle_with : {t : SourceTold} {moments : List ℤ} {numbers : List ℕ} → Idles k d s l e t → OfSource t h.dids moments numbers
      → Kept roles w e t b l
  idle_with made source = kept_same refl made.desk refl (kept_of (run_of h)
      (record {
        steps = h.steps_are ∙ sym made.steps;
        talk = λ f. h.talk_is (made.talk f).1 ∙ sym (made.talk f).0;
        seated = h.seated_is ∙ sym made.seated;
        said = h.said_is ∙ ap (λ ys. h.written ++ (ys ++ h.missing)) (sym made.unsent);
        whole = λ f. h.whole (made.talk f).1;
      })
      (record { all_read = λ f. h.all_read (made.talk f).1; taken = h.taken_is; put = h.put_is }) source h.rings_are)

  idle_from : {t : SourceTold} → Idles k d s l e t
      → ((t ≡ s) ⊎ ((clock : ℤ) × (nonce : ℕ) × (t ≡ gives_nonce (gives_moment s clock) nonce))) → Kept roles w e t b l
  idle_from made (inl same) =
      idle_with made (subst (λ x. OfSource x h.dids h.moments h.numbers) (sym same) (source_of h))
  idle_from made (inr (clock, nonce, is)) =
      idle_with made (subst (λ x. OfSource x h.dids (h.moments ++ clock ∷ []) (h.numbers ++ nonce ∷ [])) (sym is)
      (source_idle clock nonce (source_of h)))

  -- a drain, by what is next
  drained : (clock : ℤ) (n : Next) (t : Talking) → IsMute n → session_drain k.talk ≡ (n, t) → k.lost ≡ false
      → DrainsAs n clock (record k { talk = t }) d l e → Kept roles w e (gives_moment s clock) (after_ring b (Ready ring.Rung)) l
  drained clock next.More t m is whole made =
      let from = ap session_drain (h.talk_is whole) ∙ is in
      step_said h clock (next.More, t) None (Drain clock None) k.seated (next.More, t) (is_drain h clock (next.More, t) from None)
      (ap (λ z. Some (z, (next.More, t))) h.seated_is) (inl (made.1.2, made.1.0, made.1.1, (refl, made.1.3, made.2)))
      (goes_nowhere d d refl) (λ gone p. made.0 ∙ ap (λ f. k.steps ++ step.Drain clock None f ∷ []) p) whole
  drained clock (next.Ask event) t m is whole made =
      let from = ap session_drain (h.talk_is whole) ∙ is in
      step_asked event t clock (Drain clock) (step.Drain clock) (is_drain h clock (next.Ask event, t) from) (λ asked gone. refl)
      made.2 made.3 whole
  drained clock other t m is whole made = absurd m

-- ---- whatever comes of it

module _ {roles : Roles} {w : WireTold} {d e : DeskTold} {s t : SourceTold} {b : BellTold} {k l : Progress} where
  turn_kept : (r : Result Bool Memory) → IfOk r (λ moved. Turns roles.users moved k d s l e t) → OnErr r (Idles k d s l e t)
      → Kept roles w d s b k → Kept roles w e t b l
  turn_kept (Ok moved) made idle h =
      let P : SourceTold → Type 0 = λ u. Kept roles w e u b l in
      let x = session_next roles.users made.nonce made.clock k.talk in
      subst P (sym made.given) (acted h made.clock made.nonce moved x.0 x.1 refl made.whole made.acts)
  turn_kept (Err memory) made idle h = idle_from h idle idle.given

  pub kept_turn : (r : Result Bool Memory) → ∥ Kept roles w d s b k ∥₁ → IfOk r (λ moved. Turns roles.users moved k d s l e t)
      → OnErr r (Idles k d s l e t) → ∥ Kept roles w e t b l ∥₁
  kept_turn r h made idle = ∥∥₁_map h (turn_kept r made idle)

  ring_kept : (r : Poll Ring) → Kept roles w d s b k → k.lost ≡ false → Rings r k d s l e t → Kept roles w e t (after_ring b r) l
  ring_kept (Ready ring.Rung) h whole made =
      let P : SourceTold → Type 0 = λ u. Kept roles w e u (after_ring b (Ready ring.Rung)) l in
      let x = session_drain k.talk in
      subst P (sym made.given) (drained h made.clock x.0 x.1 (mute k.talk) refl whole made.acts)
  ring_kept other h whole made = kept_same made.0 made.1 made.2 (bell_kept h refl)

  pub kept_ring : {c : BellTold} (r : Poll Ring) → ∥ Kept roles w d s b k ∥₁ → k.lost ≡ false → c ≡ after_ring b r
      → Rings r k d s l e t → ∥ Kept roles w e t c l ∥₁
  kept_ring {c} r h whole bell made =
      let P : BellTold → Type 0 = λ z. ∥ Kept roles w e t z l ∥₁ in
      subst P (sym bell) (∥∥₁_map h (λ p. ring_kept r p whole made))
