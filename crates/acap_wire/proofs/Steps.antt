-- What a follower holds after a step of its seat, beside a client that is handed the replies.
use Rattle.std.proofs.Common.{◌≡◌, ◌⊎◌, inl, inr, ℕ, Bool, true, false, List, [], ◌∷◌, map, append-nil, Option, Some, None, refl, sym, ap, subst, ◌∙◌, flat_map}
use Rattle.std.specs.Prelude.{codes, length, drop}
use Rattle.std.specs.List.{AllByRecursion}
use Rattle.std.specs.Option.{option_map, option_and_then}
use Rattle.std.proofs.Math.Seq.{drop-length}
use Rattle.acap_client.specs.Following.{Follower, look_up, ask, making, follow_all}
use Rattle.acap_commands.specs.declared.command.Command.{Command}
use Rattle.acap_commands.specs.declared.command.Command.TheVariants as command
use Rattle.acap_commands.specs.declared.event.Event.{Event}
use Rattle.acap_commands.specs.declared.event.Event.TheVariants as event
use Rattle.acap_commands.specs.declared.search_modifiers.MakeContext.{MakeContext}
use Rattle.acap_commands.specs.declared.said.Said.{Said}
use Rattle.acap_commands.specs.declared.said.Said.TheVariants as said
use Rattle.acap_dialogue.specs.Hearing.{ready_line}
use Rattle.acap_grammar.specs.Lines.{Line, GoOn}
use Rattle.acap_grammar.specs.Listening.{Client}
use Rattle.acap_grammar.specs.Printed.{PrintedLaw}
use Rattle.acap_grammar.specs.Readable.{AreLines, HearingLaw}
use Rattle.acap_grammar.specs.Replies.{octets_of}
use Rattle.acap_grammar.specs.SaidLines.{said_lines}
use Rattle.acap_grammar.specs.Sayable.{FitsU64, IsTagged, ReadableLaw, numbers_of}
use Rattle.acap_machine.specs.Client.{HeldLaw, IsHeld, View, client_after, live_at, whole_after, with_rows}
use Rattle.acap_machine.specs.Following.{IsCurrentMachine, CurrentLaw}
use Rattle.acap_machine.specs.Machine.{Machine}
use Rattle.acap_moves.specs.Hits.{is_among}
use Rattle.acap_notices.specs.Holding.{Holding}
use Rattle.acap_machine.specs.Runs.{outcome_of}
use Rattle.acap_session.specs.Laws.{asked_by}
use Rattle.acap_session.specs.Live.{asked_in, client_told, told_in, told_with, whole_told}
use Rattle.acap_session.specs.Places.{SeatSession}
use Rattle.acap_session.specs.Turning.{event_outcome}
use Rattle.acap_session.specs.World as world
use Rattle.acap_session.specs.World.{World, Action, Step, did, open_at}
use Rattle.acap_session.proofs.Alone.{did_by, did_is}
use Rattle.acap_session.proofs.Living.{moved_in, machine_by}
use Rattle.acap_wire.proofs.Occasions.{Occasion}
use Rattle.acap_wire.specs.Seat.{IsPrintable, after_lines, asking, before_lines, begun, lines_in, numbers_told, out_at, said_in, says, sent_by, sent_in}
use Rattle.acap_wire.proofs.Kept.{IsHeldAs, IsKeptAs}
use Rattle.acap_wire.proofs.Machine.{IsMakeable, drain_frees, greeted, lives_on, step_answers, step_frees}
use Rattle.acap_wire.proofs.Moving.{Answered, HasSaid, answered, left_live}
use Rattle.acap_wire.proofs.Replies.{Answers, Contexts, IsReplied, Unless, asks_nothing, between, fails_replied, frees, frees_said, idle_replied, is_plain, plain_tells, replied, unasked_replied}
use Rattle.acap_wire.proofs.Speaking.{Fails, Fitting, IsEvent, IsUnanswered, Ready, Says, Silent, Speech, tag_by}
use Rattle.acap_wire.proofs.Turns.{spoken}

-- ---- the lines in what is said

some_says : (lines : List Line) → flat_map says (map Some lines) ≡ lines
some_says [] = refl
some_says (line ∷ lines) = ap (λ rest. line ∷ rest) (some_says lines)

pub lines_are : HearingLaw → (octets : List ℕ) (lines : List Line) → AreLines octets lines → lines_in octets ≡ lines
lines_are law octets lines are = ap (λ (c : Client). flat_map says c.lines) (law.lines [] octets lines are) ∙ some_says lines

-- what the machine says to a user who enters is the greeting
abbrev pub GreetsAt : Event → Said → Type 0
GreetsAt (event.Enter user) words = words ≡ said.Greeting
GreetsAt (event.Command c) words = Unit {0}
GreetsAt event.Drain words = Unit {0}
GreetsAt event.Leave words = Unit {0}

abbrev pub Greets : Option (Event × Said) → Type 0
Greets None = Unit {0}
Greets (Some told) = GreetsAt told.0 told.1

plain_numbers : (words : Said) → is_plain words ≡ true → AllByRecursion FitsU64 (numbers_of words)
plain_numbers (said.Drained tolds) e = cc
plain_numbers (said.Updated tolds) e = cc
plain_numbers (said.Searched found) e = cc
plain_numbers other e = tt

fails_numbers : (words : Said) → Fails words → AllByRecursion FitsU64 (numbers_of words)
fails_numbers (said.Refused why) e = tt
fails_numbers said.Greeting e = absurd e
fails_numbers said.Left e = absurd e
fails_numbers (said.Drained tolds) e = absurd e
fails_numbers (said.Updated tolds) e = absurd e
fails_numbers (said.Done verb) e = absurd e
fails_numbers (said.Searched found) e = absurd e
fails_numbers (said.Deleted names) e = absurd e
fails_numbers (said.Rights rights) e = absurd e
fails_numbers (said.RightsList rights) e = absurd e
fails_numbers (said.Challenge challenge) e = absurd e
fails_numbers said.GoodBye e = absurd e

unanswered_numbers : (c : Command) (words : Said) → IsUnanswered c words → AllByRecursion FitsU64 (numbers_of words)
unanswered_numbers c words (inl e) = fails_numbers words e
unanswered_numbers c words (inr e) = plain_numbers words e.1

event_numbers : (e : Event) (told words : Said) → IsEvent e told words → GreetsAt e told → AllByRecursion FitsU64 (numbers_of told) → AllByRecursion FitsU64 (numbers_of words)
event_numbers (event.Enter user) told words is greets few = plain_numbers words (is greets)
event_numbers event.Drain told words is greets few = subst (λ w. AllByRecursion FitsU64 (numbers_of w)) is few
event_numbers (event.Command c) told words is greets few = absurd is
event_numbers event.Leave told words is greets few = absurd is

said_numbers : (sent : Option (List ℕ × Command)) (told : Option (Event × Said)) (tag : Option (List ℕ)) (words : Said) → Fitting sent told tag words → Greets told
    → AllByRecursion FitsU64 (numbers_told told) → AllByRecursion FitsU64 (numbers_of words)
said_numbers (Some sent) (Some told) tag words fit greets few = subst (λ w. AllByRecursion FitsU64 (numbers_of w)) fit.2 few
said_numbers (Some sent) None tag words fit greets few = unanswered_numbers sent.1 words fit.1
said_numbers None (Some told) tag words fit greets few = event_numbers told.0 told.1 words fit greets few
said_numbers None None tag words fit greets few = plain_numbers words fit

pub says_lines : ReadableLaw → (sent : Option (List ℕ × Command)) (told : Option (Event × Said)) (tag : Option (List ℕ)) (octets : List ℕ) (words : Said)
    → octets ≡ octets_of (record { tag = tag; said = words }) → Fitting sent told tag words → Greets told → IsTagged tag → AllByRecursion FitsU64 (numbers_told told) → FitsU64 (length octets)
    → AreLines octets (said_lines tag words)
says_lines law sent told tag octets words e fit greets tagged few short =
    subst (λ os. AreLines os (said_lines tag words)) (sym e)
    (law.lines (record { tag = tag; said = words })
    (record { tagged = tagged; numbers = said_numbers sent told tag words fit greets few; fits = subst (λ os. FitsU64 (length os)) e short }))

pub record HasLines (octets : List ℕ) : Type 0 where
  pub lines : List Line
  pub are : AreLines octets lines

pub ready_lines : ReadableLaw → AreLines ready_line (GoOn (codes "Ready") ∷ [])
ready_lines law = (ready_line, [], sym (append-nil ready_line), law.ready, refl)

pub has_lines : ReadableLaw → (sent : Option (List ℕ × Command)) (told : Option (Event × Said)) (tag : Option (List ℕ)) (octets : List ℕ) (closed : Bool) → Speech sent told tag octets closed → Greets told
    → IsTagged tag → AllByRecursion FitsU64 (numbers_told told) → FitsU64 (length octets) → HasLines octets
has_lines law sent told tag octets closed (Silent e t s) greets tagged few short = record { lines = []; are = e }
has_lines law sent told tag octets closed (Ready e s t) greets tagged few short = record { lines = GoOn (codes "Ready") ∷ []; are = subst (λ os. AreLines os (GoOn (codes "Ready") ∷ [])) (sym e) (ready_lines law) }
has_lines law sent told tag octets closed (Says words e fit) greets tagged few short = record { lines = said_lines tag words; are = says_lines law sent told tag octets words e fit greets tagged few short }

-- ---- what is held when they were read

-- what is known of what the machine said, for a client that holds this
abbrev pub StaysAt : List ℕ → Option Holding → Event → Said → Type 0
StaysAt q star (event.Command c) words = Answers c words × Unless star (frees q c words)
StaysAt q star (event.Enter user) words = words ≡ said.Greeting
StaysAt q star event.Drain words = Unless star (frees_said q words)
StaysAt q star event.Leave words = Unit {0}

abbrev pub Stays : List ℕ → Option Holding → Option (Event × Said) → Type 0
Stays q star None = Unit {0}
Stays q star (Some told) = StaysAt q star told.0 told.1

-- no command waits then, unless the session is closed; what the client holds is held, and no line was a misfit of it
pub record IsRead (q : List ℕ) (star : Option Holding) (told : Option (Event × Said)) (closed : Bool) (r : Follower × List (List ℕ)) : Type 0 where
  pub asked : closed ≡ false → r.0.asked ≡ []
  pub holds : IsHeldAs (client_told q told star) (look_up q r.0.contexts)
  pub fits : (h : Holding) → client_told q told star ≡ Some h → is_among q r.1 ≡ false

making_keeps : (t : List ℕ) (make : Option MakeContext) (f : Follower) → (making t make f).contexts ≡ f.contexts
making_keeps t None f = refl
making_keeps t (Some make) f = refl

ask_keeps : (t : List ℕ) (c : Command) (f : Follower) → (ask t c f).contexts ≡ f.contexts
ask_keeps t (command.Search s) f = making_keeps t s.modifiers.make_context f
ask_keeps t (command.FreeContext context) f = refl
ask_keeps t other f = refl

asking_keeps : (sent : Option (List ℕ × Command)) (f : Follower) → (asking sent f).contexts ≡ f.contexts
asking_keeps None f = refl
asking_keeps (Some sent) f = ask_keeps sent.0 sent.1 f

module _ (printed : PrintedLaw) (readable : ReadableLaw) (hearing : HearingLaw) (q : List ℕ) (star : Option Holding) where
  -- nothing is said
  silent_read : (sent : Option (List ℕ × Command)) (told : Option (Event × Said)) (closed : Bool) (f : Follower) → f.asked ≡ [] → told ≡ None → (closed ≡ false → sent ≡ None)
      → IsHeldAs star (look_up q f.contexts) → IsRead q star told closed (asking sent f, [])
  unfolding is_among
  silent_read sent told closed f a t s h = record {
    asked = λ going. ap (λ x. (asking x f).asked) (s going) ∙ a;
    holds = λ k e. subst (λ cs. IsKeptAs k (look_up q cs)) (sym (asking_keeps sent f)) (h k (ap (λ x. client_told q x star) (sym t) ∙ e));
    fits = λ k e. refl;
  }

  -- a reply is said
  unanswered_read : (t : List ℕ) (c : Command) (words : Said) (contexts : Contexts) → IsHeldAs star (look_up q contexts) → IsUnanswered c words
      → IsReplied q star (follow_all (said_lines (Some t) words) (ask t c (between contexts)))
  unanswered_read t c (said.Refused why) contexts h (inl e) = fails_replied printed q t c why contexts star h e
  unanswered_read t c said.Greeting contexts h (inl e) = absurd e
  unanswered_read t c said.Left contexts h (inl e) = absurd e
  unanswered_read t c (said.Drained tolds) contexts h (inl e) = absurd e
  unanswered_read t c (said.Updated tolds) contexts h (inl e) = absurd e
  unanswered_read t c (said.Done verb) contexts h (inl e) = absurd e
  unanswered_read t c (said.Searched found) contexts h (inl e) = absurd e
  unanswered_read t c (said.Deleted names) contexts h (inl e) = absurd e
  unanswered_read t c (said.Rights rights) contexts h (inl e) = absurd e
  unanswered_read t c (said.RightsList rights) contexts h (inl e) = absurd e
  unanswered_read t c (said.Challenge challenge) contexts h (inl e) = absurd e
  unanswered_read t c said.GoodBye contexts h (inl e) = absurd e
  unanswered_read t c words contexts h (inr e) =
      subst (λ f. IsReplied q star (follow_all (said_lines (Some t) words) f)) (sym (asks_nothing t c (between contexts) e.0))
      (idle_replied printed q (Some t) words contexts star h (plain_tells words e.1))

  answered_read : (t : List ℕ) (c : Command) (told words : Said) (e : Event) (tag : Option (List ℕ)) (contexts : Contexts) → IsHeldAs star (look_up q contexts)
      → tag ≡ Some t → e ≡ event.Command c → told ≡ words → StaysAt q star e told
      → IsReplied q (client_after q e told star) (follow_all (said_lines tag words) (ask t c (between contexts)))
  answered_read t c told words e tag contexts h at is same stays =
      let known : StaysAt q star (event.Command c) words = subst (λ w. StaysAt q star (event.Command c) w) same (subst (λ x. StaysAt q star x told) is stays) in
      let done = replied printed q t c words contexts star h known.0 known.1 in
      subst (λ g. IsReplied q (client_after q e told star) (follow_all (said_lines g words) (ask t c (between contexts)))) (sym at)
      (subst (λ k. IsReplied q k (follow_all (said_lines (Some t) words) (ask t c (between contexts)))) (λ i. client_after q (sym is i) (sym same i) star) done)

  event_read : (e : Event) (told words : Said) (tag : Option (List ℕ)) (contexts : Contexts) → IsHeldAs star (look_up q contexts) → IsEvent e told words → StaysAt q star e told
      → IsReplied q (client_after q e told star) (follow_all (said_lines tag words) (between contexts))
  event_read (event.Enter user) told words tag contexts h is stays =
      subst (λ w. IsReplied q (client_after q (event.Enter user) w star) (follow_all (said_lines tag words) (between contexts))) (sym stays)
      (idle_replied printed q tag words contexts star h (plain_tells words (is stays)))
  event_read event.Drain told words tag contexts h is stays =
      subst (λ w. IsReplied q (client_after q event.Drain told star) (follow_all (said_lines tag w) (between contexts))) is
      (unasked_replied printed q tag event.Drain told contexts star h (λ found. refl) stays)
  event_read (event.Command c) told words tag contexts h is stays = absurd is
  event_read event.Leave told words tag contexts h is stays = absurd is

  said_read : (sent : Option (List ℕ × Command)) (told : Option (Event × Said)) (tag : Option (List ℕ)) (words : Said) (contexts : Contexts) → IsHeldAs star (look_up q contexts)
      → Fitting sent told tag words → Stays q star told
      → IsReplied q (client_told q told star) (follow_all (said_lines tag words) (asking sent (between contexts)))
  said_read (Some sent) (Some told) tag words contexts h fit stays = answered_read sent.0 sent.1 told.1 words told.0 tag contexts h fit.0 fit.1 fit.2 stays
  said_read (Some sent) None tag words contexts h fit stays =
      subst (λ g. IsReplied q star (follow_all (said_lines g words) (ask sent.0 sent.1 (between contexts)))) (sym fit.0) (unanswered_read sent.0 sent.1 words contexts h fit.1)
  said_read None (Some told) tag words contexts h fit stays = event_read told.0 told.1 words tag contexts h fit stays
  said_read None None tag words contexts h fit stays = idle_replied printed q tag words contexts star h (plain_tells words fit)

  read_from : (told : Option (Event × Said)) (closed : Bool) (r : Follower × List (List ℕ)) → IsReplied q (client_told q told star) r → IsRead q star told closed r
  read_from told closed r is = record { asked = λ going. is.asked; holds = is.holds; fits = is.fits }

  between_is : (f : Follower) → f.asked ≡ [] → f ≡ between f.contexts
  between_is f a = (λ i. record { contexts = f.contexts; asked = a i })

  pub speech_read : (sent : Option (List ℕ × Command)) (told : Option (Event × Said)) (tag : Option (List ℕ)) (octets : List ℕ) (closed : Bool) (f : Follower) → Speech sent told tag octets closed
      → Greets told → Stays q star told → IsTagged tag → AllByRecursion FitsU64 (numbers_told told) → FitsU64 (length octets) → f.asked ≡ [] → IsHeldAs star (look_up q f.contexts)
      → IsRead q star told closed (follow_all (lines_in octets) (asking sent f))
  speech_read sent told tag octets closed f (Silent e t s) greets stays tagged few short a h =
      subst (λ os. IsRead q star told closed (follow_all (lines_in os) (asking sent f))) (sym e) (silent_read sent told closed f a t s h)
  speech_read sent told tag octets closed f (Ready e s t) greets stays tagged few short a h =
      subst (λ ls. IsRead q star told closed (follow_all ls (asking sent f))) (sym (ap lines_in e ∙ lines_are hearing ready_line (GoOn (codes "Ready") ∷ []) (ready_lines readable)))
      (silent_read sent told closed f a t (λ going. s) h)
  speech_read sent told tag octets closed f (Says words e fit) greets stays tagged few short a h =
      subst (λ ls. IsRead q star told closed (follow_all ls (asking sent f))) (sym (lines_are hearing octets (said_lines tag words) (says_lines readable sent told tag octets words e fit greets tagged few short)))
      (subst (λ g. IsRead q star told closed (follow_all (said_lines tag words) (asking sent g))) (sym (between_is f a))
      (read_from told closed _ (said_read sent told tag words f.contexts h fit stays)))

-- ---- a step of the seat

-- a follower of a seat: no command waits between two steps of a session, and of a live context with a whole list it holds what
-- the client holds
pub record Follows (seat : ℕ) (q : List ℕ) (w : World) (whole : Bool) (held : Option Holding) (f : Follower) : Type 0 where
  pub asked : (p : SeatSession) → open_at w seat ≡ Some p → f.asked ≡ []
  pub holds : (v : View) → live_at w.machine seat q ≡ Some v → whole ≡ true → IsHeldAs held (look_up q f.contexts)

-- what is known of a world that a run comes to
pub record IsReached (w : World) : Type 0 where
  pub current : IsCurrentMachine w.machine
  pub seats : (seat : ℕ) (q : List ℕ) (v : View) → open_at w seat ≡ None → live_at w.machine seat q ≡ Some v → ⊥

-- what is held of a context before the lines: that, or nothing where it isn't live with a whole list
pub record Star (q : List ℕ) (live : Option View) (whole : Bool) (held : Option Holding) (f : Follower) : Type 0 where
  pub star : Option Holding
  pub is_held : IsHeldAs star (look_up q f.contexts)
  pub which : (star ≡ held) ⊎ ((star ≡ None) × ((v : View) → live ≡ Some v → whole ≡ true → ⊥))

star_at : (q : List ℕ) (live : Option View) (whole : Bool) (held : Option Holding) (f : Follower) → ((v : View) → live ≡ Some v → whole ≡ true → IsHeldAs held (look_up q f.contexts)) → Star q live whole held f
star_at q None whole held f h = record { star = None; is_held = λ k e. absurd cc; which = inr (refl, λ v e k. absurd cc) }
star_at q (Some v) false held f h = record { star = None; is_held = λ k e. absurd cc; which = inr (refl, λ u e k. absurd cc) }
star_at q (Some v) true held f h = record { star = held; is_held = h v refl refl; which = inl refl }

begun_held : (w : World) (q : List ℕ) (seat : ℕ) (action : Action) (now : Option SeatSession) (held : Option Holding) (f : Follower) (v : View) → IsReached w → open_at w seat ≡ now → live_at w.machine seat q ≡ Some v
    → IsHeldAs held (look_up q f.contexts) → IsHeldAs held (look_up q (begun action now f).contexts)
begun_held w q seat (world.Open user) None held f v reached e l h = absurd (reached.seats seat q v e l)
begun_held w q seat (world.Open user) (Some p) held f v reached e l h = h
begun_held w q seat (world.Piece octets) None held f v reached e l h = h
begun_held w q seat (world.Piece octets) (Some p) held f v reached e l h = h
begun_held w q seat world.Turn None held f v reached e l h = h
begun_held w q seat world.Turn (Some p) held f v reached e l h = h
begun_held w q seat world.Drain None held f v reached e l h = h
begun_held w q seat world.Drain (Some p) held f v reached e l h = h
begun_held w q seat world.Leave None held f v reached e l h = h
begun_held w q seat world.Leave (Some p) held f v reached e l h = h

-- what the machine says to a user who enters
greets_at : (w : World) (x : Step) (n : Machine) (e : Event) (words : Said) → HasSaid x.occasion w.machine n e words → GreetsAt e words
greets_at w x n (event.Enter user) words s = sym s.said ∙ greeted w.machine x.occasion.seat user x.occasion.clock s.reply n s.step
greets_at w x n (event.Command c) words s = tt
greets_at w x n event.Drain words s = tt
greets_at w x n event.Leave words s = tt

greets_by : (w : World) (x : Step) (n : Machine) (told : Option (Event × Said)) → Answered x.occasion w.machine n told → Greets told
greets_by w x n None a = tt
greets_by w x n (Some told) a = greets_at w x n told.0 told.1 a

pub greets_in : (w : World) (x : Step) → Answered x.occasion w.machine (machine_by (asked_in w x) x.occasion x.refused w.machine) (told_in w x) → Greets (told_in w x)
greets_in w x a = greets_by w x _ (told_in w x) a

module _ (printed : PrintedLaw) (readable : ReadableLaw) (hearing : HearingLaw) (current : CurrentLaw) (law : HeldLaw) (w : World) (x : Step) (q : List ℕ) where
  abbrev seat : ℕ
  seat = x.occasion.seat

  abbrev next : World
  next = did x.occasion x.refused x.action w

  abbrev machine_then : Machine
  machine_then = machine_by (asked_in w x) x.occasion x.refused w.machine

  -- what is said of a drain is no row of a SEARCH
  drain_whole : (words : Said) → whole_after q event.Drain words true ≡ true
  drain_whole (said.Searched found) = refl
  drain_whole other = refl

  drain_none : (words : Said) → client_after q event.Drain words None ≡ None
  drain_none (said.Searched found) = refl
  drain_none (said.Updated tolds) = refl
  drain_none (said.Drained tolds) = refl
  drain_none other = refl

  -- the context is live then, and is not said to be freed
  stays_at : IsReached w → (n : Machine) (star : Option Holding) (e : Event) (words : Said) → HasSaid x.occasion w.machine n e words → ((c : Command) → e ≡ event.Command c → IsMakeable c)
      → (star ≡ None) ⊎ ((v : View) × (live_at n seat q ≡ Some v)) → StaysAt q star e words
  stays_at reached n star (event.Command c) words s makes live = (
    subst (Answers c) s.said (step_answers w.machine seat c x.occasion.clock s.reply n s.step (makes c refl)),
    λ h e. elim live as (λ _. frees q c words ≡ false) [
      | inl none ↦ absurd (let k : None ≡ Some h = sym none ∙ e in cc)
      | inr l ↦ ap (frees q c) (sym s.said) ∙ step_frees q w.machine seat c x.occasion.clock s.reply n l.0 s.step l.1
    ],
  )
  stays_at reached n star (event.Enter user) words s makes live = greets_at w x n (event.Enter user) words s
  stays_at reached n star event.Drain words s makes live =
      λ h e. elim live as (λ _. frees_said q words ≡ false) [
        | inl none ↦ absurd (let k : None ≡ Some h = sym none ∙ e in cc)
        | inr l ↦
            let before = lives_on law w.machine seat event.Drain x.occasion.clock s.reply n q l.0 s.step reached.current l.1 (drain_whole s.reply.said) (drain_none s.reply.said) in
            ap (frees_said q) (sym s.said) ∙ drain_frees q w.machine seat x.occasion.clock s.reply n before.0 s.step before.1
      ]
  stays_at reached n star event.Leave words s makes live = tt

  stays : IsReached w → (n : Machine) (star : Option Holding) (told : Option (Event × Said)) → Answered x.occasion w.machine n told → ((c : Command) → (words : Said) → told ≡ Some (event.Command c, words) → IsMakeable c)
      → (star ≡ None) ⊎ ((v : View) × (live_at n seat q ≡ Some v)) → Stays q star told
  stays reached n star None a makes live = tt
  stays reached n star (Some told) a makes live =
      stays_at reached n star told.0 told.1 a (λ c e. makes c told.1 (λ i. Some (e i, told.1))) live

  -- a client that begins with nothing holds the same, where the context wasn't live with a whole list before
  same_then : IsReached w → (whole : Bool) (held : Option Holding) (n : Machine) (told : Option (Event × Said)) (v : View) → Answered x.occasion w.machine n told → IsHeld (live_at w.machine seat q) whole held
      → ((u : View) → live_at w.machine seat q ≡ Some u → whole ≡ true → ⊥) → live_at n seat q ≡ Some v → whole_told q told whole ≡ true → client_told q told None ≡ client_told q told held
  same_then reached whole held n None v a is none l k = absurd (none v (ap (λ m. live_at m seat q) (sym a) ∙ l) k)
  same_then reached whole held n (Some told) v a is none l k =
      let at = x.occasion.clock in
      let w_is : whole_after q told.0 a.reply.said whole ≡ true = ap (λ words. whole_after q told.0 words whole) a.said ∙ k in
      let first = law.own w.machine seat told.0 at a.reply n q whole None a.step reached.current (λ u e t. absurd (none u e t)) v l w_is in
      let second = law.own w.machine seat told.0 at a.reply n q whole held a.step reached.current is v l w_is in
      ap (λ words. client_after q told.0 words None) (sym a.said) ∙ (first ∙ sym second) ∙ ap (λ words. client_after q told.0 words held) a.said

  pub record Stepped (whole : Bool) (held : Option Holding) (f : Follower) : Type 0 where
    pub follows : Follows seat q next (whole_told q (told_in w x) whole) (client_told q (told_in w x) held) (after_lines w x f).0
    pub fits : (v : View) → live_at next.machine seat q ≡ Some v → whole_told q (told_in w x) whole ≡ true → is_among q (after_lines w x f).1 ≡ false

  module _ (reached : IsReached w) (whole : Bool) (held : Option Holding) (f : Follower) (old : Follows seat q w whole held f) (is : IsHeld (live_at w.machine seat q) whole held)
      (can : IsPrintable w x) (tagged : IsTagged (tag_by x.action (open_at w seat))) (makes : (c : Command) → (words : Said) → told_in w x ≡ Some (event.Command c, words) → IsMakeable c) where
    abbrev now : Option SeatSession
    now = open_at w seat

    abbrev first : Follower
    first = begun x.action now f

    star : Star q (live_at w.machine seat q) whole held first
    star = star_at q (live_at w.machine seat q) whole held first (λ v l k. begun_held w q seat x.action now held f v reached refl l (old.holds v l k))

    read_with : first.asked ≡ [] → (k : Option Holding) → IsHeldAs k (look_up q first.contexts) → (k ≡ None) ⊎ ((v : View) × (live_at machine_then seat q ≡ Some v))
        → IsRead q k (told_in w x) (spoken w x).closed (after_lines w x f)
    read_with a k h live =
        speech_read printed readable hearing q k (sent_in w x) (told_in w x) (tag_by x.action now) (said_in w x) (spoken w x).closed first (spoken w x).speech
        (greets_in w x (answered w x)) (stays reached machine_then k (told_in w x) (answered w x) makes live) tagged can.numbers can.fits a h

    live_then : (v : View) → live_at next.machine seat q ≡ Some v → live_at machine_then seat q ≡ Some v
    live_then v l =
        let moved = moved_in x.occasion x.refused x.action w in
        left_live current law machine_then x.occasion moved.left q v (ap (λ m. live_at m seat q) (sym moved.is) ∙ l)

    -- what is held of it then
    record Holds (v : View) : Type 0 where
      holds : IsHeldAs (client_told q (told_in w x) held) (look_up q (after_lines w x f).0.contexts)
      fits : (h : Holding) → client_told q (told_in w x) held ≡ Some h → is_among q (after_lines w x f).1 ≡ false

    holds_then : first.asked ≡ [] → (v : View) → live_at next.machine seat q ≡ Some v → whole_told q (told_in w x) whole ≡ true → Holds v
    holds_then a v l k =
        let read = read_with a star.star star.is_held (inr (v, live_then v l)) in
        let same : client_told q (told_in w x) star.star ≡ client_told q (told_in w x) held = elim star.which as (λ _. client_told q (told_in w x) star.star ≡ client_told q (told_in w x) held) [
          | inl e ↦ ap (client_told q (told_in w x)) e
          | inr e ↦ ap (client_told q (told_in w x)) e.0 ∙ same_then reached whole held machine_then (told_in w x) v (answered w x) is e.1 (live_then v l) k
        ] in
        record {
          holds = λ h e. read.holds h (same ∙ e);
          fits = λ h e. read.fits h (same ∙ e);
        }

    acts : (first.asked ≡ []) → ((v : View) → live_at next.machine seat q ≡ Some v → whole_told q (told_in w x) whole ≡ true → client_told q (told_in w x) held ≡ with_rows v) → Stepped whole held f
    acts a with_them = record {
      follows = record {
        asked = λ p e. (read_with a None (λ h k. absurd cc) (inl refl)).asked ((spoken w x).open_then p e);
        holds = λ v l k. (holds_then a v l k).holds;
      };
      fits = λ v l k. (holds_then a v l k).fits _ (with_them v l k);
    }

    -- ---- where no session is open, and none opens

    idle : next ≡ w → told_in w x ≡ None → after_lines w x f ≡ (f, []) → Stepped whole held f
    unfolding is_among
    idle same told read = record {
      follows = record {
        asked = λ p e. ap (λ (r : Follower × List (List ℕ)). r.0.asked) read ∙ old.asked p (ap (λ (v : World). open_at v seat) (sym same) ∙ e);
        holds = λ v l k h e.
            subst (λ (r : Follower × List (List ℕ)). IsKeptAs h (look_up q r.0.contexts)) (sym read)
            (old.holds v (ap (λ (u : World). live_at u.machine seat q) (sym same) ∙ l) (ap (λ t. whole_told q t whole) (sym told) ∙ k) h (ap (λ t. client_told q t held) (sym told) ∙ e));
      };
      fits = λ v l k. ap (λ (r : Follower × List (List ℕ)). is_among q r.1) read;
    }

-- ---- whether a step does nothing

abbrev is_idle : Action → Option SeatSession → Bool
is_idle (world.Open user) place = false
is_idle action None = true
is_idle action (Some place) = false

abbrev step_on : Occasion → Bool → Action → Step
step_on o refused action = record { occasion = o; refused = refused; action = action }

record IsIdle (o : Occasion) (refused : Bool) (action : Action) (w : World) (now : Option SeatSession) : Type 0 where
  same : did_by o refused action w now ≡ w
  asked : asked_by w (step_on o refused action) now ≡ None
  sent : sent_by action now ≡ None
  begins : (f : Follower) → begun action now f ≡ f

idles : (o : Occasion) (refused : Bool) (action : Action) (w : World) (now : Option SeatSession) → is_idle action now ≡ true → IsIdle o refused action w now
idles o refused (world.Open user) w now e = cc
idles o refused (world.Piece octets) w None e = record { same = refl; asked = refl; sent = refl; begins = λ f. refl }
idles o refused (world.Piece octets) w (Some p) e = cc
idles o refused world.Turn w None e = record { same = refl; asked = refl; sent = refl; begins = λ f. refl }
idles o refused world.Turn w (Some p) e = cc
idles o refused world.Drain w None e = record { same = refl; asked = refl; sent = refl; begins = λ f. refl }
idles o refused world.Drain w (Some p) e = cc
idles o refused world.Leave w None e = record { same = refl; asked = refl; sent = refl; begins = λ f. refl }
idles o refused world.Leave w (Some p) e = cc

active : (action : Action) (now : Option SeatSession) (f : Follower) → is_idle action now ≡ false → ((p : SeatSession) → now ≡ Some p → f.asked ≡ []) → (begun action now f).asked ≡ []
active (world.Open user) None f e a = refl
active (world.Open user) (Some p) f e a = a p refl
active (world.Piece octets) None f e a = cc
active (world.Piece octets) (Some p) f e a = a p refl
active world.Turn None f e a = cc
active world.Turn (Some p) f e a = a p refl
active world.Drain None f e a = cc
active world.Drain (Some p) f e a = a p refl
active world.Leave None f e a = cc
active world.Leave (Some p) f e a = a p refl

record Does (w : World) (x : Step) (f : Follower) : Type 0 where
  same : did x.occasion x.refused x.action w ≡ w
  told : told_in w x ≡ None
  read : after_lines w x f ≡ (f, [])

does_nothing : (w : World) (x : Step) (f : Follower) → is_idle x.action (open_at w x.occasion.seat) ≡ true → Does w x f
does_nothing w x f e =
    let k = idles x.occasion x.refused x.action w (open_at w x.occasion.seat) e in
    let same : did x.occasion x.refused x.action w ≡ w = did_is x.occasion x.refused x.action w ∙ k.same in
    let said : said_in w x ≡ [] = ap (λ (v : World). drop (length (out_at w x.occasion.seat)) (out_at v x.occasion.seat)) same ∙ drop-length (out_at w x.occasion.seat) in
    let before : before_lines w x f ≡ f = ap (λ s. asking s (begun x.action (open_at w x.occasion.seat) f)) k.sent ∙ k.begins f in
    record {
      same = same;
      told = ap (λ asked. option_and_then (λ e. option_and_then (told_with e) (option_map (λ e. outcome_of (event_outcome x.refused w.machine x.occasion e)) asked)) asked) k.asked;
      read = (λ i. follow_all (lines_in (said i)) (before i));
    }

module _ (printed : PrintedLaw) (readable : ReadableLaw) (hearing : HearingLaw) (current : CurrentLaw) (law : HeldLaw) (w : World) (x : Step) (q : List ℕ) where
  pub own_step : (reached : IsReached w) (whole : Bool) (held : Option Holding) (f : Follower) → Follows x.occasion.seat q w whole held f → IsHeld (live_at w.machine x.occasion.seat q) whole held
      → IsPrintable w x → IsTagged (tag_by x.action (open_at w x.occasion.seat)) → ((c : Command) → (words : Said) → told_in w x ≡ Some (event.Command c, words) → IsMakeable c)
      → ((v : View) → live_at (did x.occasion x.refused x.action w).machine x.occasion.seat q ≡ Some v → whole_told q (told_in w x) whole ≡ true → client_told q (told_in w x) held ≡ with_rows v)
      → Stepped printed readable hearing current law w x q whole held f
  own_step reached whole held f old is can tagged makes then =
      let now = open_at w x.occasion.seat in
      elim (is_idle x.action now) as (λ b. is_idle x.action now ≡ b → Stepped printed readable hearing current law w x q whole held f) [
        | true ↦ λ e.
            let k = does_nothing w x f e in
            idle printed readable hearing current law w x q reached whole held f old is can tagged makes k.same k.told k.read
        | false ↦ λ e. acts printed readable hearing current law w x q reached whole held f old is can tagged makes (active x.action now f e old.asked) then
      ] refl
