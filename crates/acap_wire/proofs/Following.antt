-- What a client reads from the wire is what a search would find.
use Rattle.std.proofs.Common.{◌≡◌, ℕ, ℤ, eq-eqb, true, false, cond, List, [], ◌∷◌, ◌++◌, map, append_assoc, Option, Some, None, refl, sym, ap, subst, ◌∙◌}
use Rattle.std.specs.Prelude.{codes}
use Rattle.std.specs.List.{AllByRecursion, list_any}
use Rattle.std.specs.Option.{option_map}
use Rattle.std.proofs.lemmas.Bool.{or_parts}
use Rattle.std.proofs.lemmas.List.{map-append}
use Rattle.std.proofs.lemmas.List.Folds.{list_any-append}
use Rattle.acap_client.specs.Following.{Follower, Kept, Goes, new, look_up, put, completed_of, follow, follow_all, followed_with}
use Rattle.acap_commands.specs.declared.command.Command.{Command}
use Rattle.acap_commands.specs.declared.command.Command.TheVariants as command
use Rattle.acap_commands.specs.declared.event.Event.{Event}
use Rattle.acap_commands.specs.declared.event.Event.TheVariants as event
use Rattle.acap_commands.specs.declared.said.Said.{Said}
use Rattle.acap_commands.specs.declared.said.Said.TheVariants as said
use Rattle.acap_commands.specs.declared.command.Verb.TheVariants as verb
use Rattle.acap_dialogue.specs.Hearing.{ready_line}
use Rattle.acap_grammar.specs.Lines.{Line, GoOn, UpTo}
use Rattle.acap_grammar.specs.Listening.{hears}
use Rattle.acap_grammar.specs.Printed.{PrintedLaw}
use Rattle.acap_grammar.specs.Readable.{HearingLaw, after}
use Rattle.acap_grammar.specs.SaidLines.{done_line, said_lines, told_line}
use Rattle.acap_grammar.specs.Sayable.{FitsU64, IsTagged, ReadableLaw}
use Rattle.acap_login.specs.Login.{User, are_named}
use Rattle.acap_machine.specs.Client.{Client, HeldLaw, View, client_after, client_after_tolds, live_at, whole_after, with_rows}
use Rattle.acap_machine.specs.Following.{CurrentLaw}
use Rattle.acap_machine.specs.Machine.{Machine}
use Rattle.acap_moves.specs.Hits.{is_among}
use Rattle.acap_notices.specs.Holding.{Holding, holding, holding_after_all}
use Rattle.acap_notices.specs.declared.told.Told.{Told}
use Rattle.acap_notices.specs.declared.told.Told.TheVariants as told_as
use Rattle.acap_views.specs.Clients.{notices_for}
use Rattle.acap_views.specs.Current.{rows}
use Rattle.acap_session.specs.Live as live
use Rattle.acap_session.specs.Live.{AreNamed, MayLogIn, IsReading, LiveLaw, Telling, all_steps, asked_in, client_in, start, told_in, whole_in, whole_told}
use Rattle.acap_session.specs.Places.{SeatSession}
use Rattle.acap_session.specs.Seating.{SeatingLaw}
use Rattle.acap_session.specs.World as world
use Rattle.acap_session.specs.World.{Action, Step, World, open_at}
use Rattle.acap_session.proofs.Living.{told_so, moved_in, named_front, machine_by}
use Rattle.acap_session.proofs.PipeSteps.{run_append}
use Rattle.acap_wire.specs.Following.{FollowerLaw, FollowerLawFor, FollowerLawOf, Holds, HoldsAll, IsFollowing, IsReadable, follower, follower_before, standing, world_before}
use Rattle.acap_wire.specs.Seat.{IsPrintable, numbers_told, after_lines, asking, before_lines, begun, lines_in, said_in, sent_by, sent_in}
use Rattle.acap_wire.proofs.Kept.{IsKeptAs, exactly}
use Rattle.acap_wire.proofs.Ends.{Ends, EndsSaid, step_ends}
use Rattle.acap_wire.proofs.Machine.{lives_on, step_frees}
use Rattle.acap_wire.proofs.Moving.{Answered, HasSaid, answered, left_live}
use Rattle.acap_wire.proofs.Named.{look_own}
use Rattle.acap_wire.proofs.Replies.{asks_nothing, done_quiet, frees, tolds_asked}
use Rattle.acap_wire.proofs.Running.{Reaches, follower_snoc, own_done, printable_front, printable_last, reached, reaches, whole_snoc}
use Rattle.acap_wire.proofs.Sending.{fitting_sent}
use Rattle.acap_wire.proofs.Speaking.{Ready, Says, Silent, Speech, tag_by}
use Rattle.acap_wire.proofs.Tagged.{TaggedPlace, all_tagged, by_tag}
use Rattle.acap_wire.proofs.Modtimes.{no_modtime}
use Rattle.acap_wire.proofs.Reading.{IsModtime, words_modtime}
use Rattle.acap_wire.proofs.Steps.{Greets, greets_in, lines_are, ready_lines, says_lines}
use Rattle.acap_wire.proofs.Tolds.{about, all_told, append_follow, frees_among, frees_in, tolds_at}
use Rattle.acap_wire.proofs.Turns.{spoken}
use Rattle.acap_wire.proofs.Whole.{all_heard, step_heard}

-- ---- what is held exactly

some_is : (a b : Holding) → Some a ≡ Some b → a ≡ b
some_is a b e = cc

kept_rows : PrintedLaw → (x : View) (q : List ℕ) (f : Follower) → IsKeptAs (holding x.1.0 (rows x.1.1)) (look_up q f.contexts) → Holds x q f
kept_rows law x q f k =
    ap (option_map standing) k.there
    ∙ (λ i. Some (exactly law x.1.0 (rows x.1.1) k.kept.held k.printed i, k.goes_on i))

-- once its MODTIME is read
upto_kept : (q stamp : List ℕ) (f : Follower) (kept : Kept) → look_up q f.contexts ≡ Some kept → kept.freed ≡ false → completed_of q (look_up q f.contexts) f ≡ Goes (record f { contexts = put q (record kept { complete = true }) f.contexts })
upto_kept q stamp f kept there goes =
    ap (λ found. completed_of q found f) there
    ∙ ap (λ b. cond b (completed_of q None f) (Goes (record f { contexts = put q (record kept { complete = true }) f.contexts }))) goes

complete_rows : PrintedLaw → (x : View) (q : List ℕ) (moment : ℤ) (f : Follower) → IsKeptAs (holding x.1.0 (rows x.1.1)) (look_up q f.contexts)
    → HoldsAll x q (follow_all (told_line (told_as.Upto q moment) ∷ []) f).0
complete_rows law x q moment f k =
    let next : Follower = record f { contexts = put q (record k.kept { complete = true }) f.contexts } in
    let read : follow f (told_line (told_as.Upto q moment)) ≡ Goes next = upto_kept q [] f k.kept k.there k.goes_on in
    ap (λ r. look_up q (followed_with (follow_all []) f r).0.contexts) read
    ∙ look_own q (record k.kept { complete = true }) f.contexts
    ∙ (λ i. Some (record { held = exactly law x.1.0 (rows x.1.1) k.kept.held k.printed i; complete = true; freed = k.goes_on i }))

-- ---- the lines of the reply to an UPDATECONTEXT

-- what is said, where the machine answers a command that makes no context and frees none
pub record IsAnswered (w : World) (x : Step) (f : Follower) (c : Command) (words : Said) : Type 0 where
  pub under : List ℕ
  pub lines : lines_in (said_in w x) ≡ said_lines (Some under) words
  pub before : before_lines w x f ≡ asking (Some (under, c)) f
  pub stands : (p : SeatSession) × (open_at w x.occasion.seat ≡ Some p)

-- a command is sent to a session that is open
begun_sent : (action : Action) (now : Option SeatSession) (sent : List ℕ × Command) (f : Follower) → sent_by action now ≡ Some sent → (begun action now f ≡ f) × ((p : SeatSession) × (now ≡ Some p))
begun_sent world.Turn (Some p) sent f e = (refl, (p, refl))
begun_sent world.Turn None sent f e = absurd cc
begun_sent (world.Open user) now sent f e = absurd cc
begun_sent (world.Piece octets) now sent f e = absurd cc
begun_sent world.Drain now sent f e = absurd cc
begun_sent world.Leave now sent f e = absurd cc

answered_lines : (readable : ReadableLaw) (hearing : HearingLaw) (w : World) (x : Step) (f : Follower) (c : Command) (words : Said) → IsPrintable w x → IsTagged (tag_by x.action (open_at w x.occasion.seat)) → told_in w x ≡ Some (event.Command c, words)
    → (told : Option (Event × Said)) → told_in w x ≡ told → Speech (sent_in w x) told (tag_by x.action (open_at w x.occasion.seat)) (said_in w x) (spoken w x).closed → IsAnswered w x f c words
answered_lines readable hearing w x f c words can tagged e None t s = absurd (let k : None ≡ Some _ = sym t ∙ e in cc)
answered_lines readable hearing w x f c words can tagged e (Some told) t (Silent o k n) = absurd cc
answered_lines readable hearing w x f c words can tagged e (Some told) t (Ready o n k) = absurd cc
answered_lines readable hearing w x f c words can tagged e (Some told) t (Says others o fit) =
    let told_is : told ≡ (event.Command c, words) = (let both : Some told ≡ Some (event.Command c, words) = sym t ∙ e in cc) in
    let was = fitting_sent (sent_in w x) told (tag_by x.action (open_at w x.occasion.seat)) others c words told_is fit in
    let greets : Greets (Some told) = subst (λ (k : Event × Said). Greets (Some k)) (sym told_is) tt in
    let lines = says_lines readable (sent_in w x) (Some told) (tag_by x.action (open_at w x.occasion.seat)) (said_in w x) others o fit greets tagged
    (subst (λ k. AllByRecursion FitsU64 (numbers_told k)) t can.numbers) can.fits in
    let begins = begun_sent x.action (open_at w x.occasion.seat) (was.under, c) f was.sent_is in
    record {
      under = was.under;
      lines = lines_are hearing (said_in w x) _ lines ∙ (λ i. said_lines (was.tag_is i) (sym was.words_are i));
      before = (λ i. asking (was.sent_is i) (begins.0 i));
      stands = begins.1;
    }

-- ---- the law

last_tag : (t : Telling) → t.last.occasion.seat ≡ t.seat → IsTagged (tag_by t.last.action (open_at (world_before t) t.last.occasion.seat))
last_tag t at =
    by_tag t.last.action (open_at (world_before t) t.last.occasion.seat)
    (subst (λ j. TaggedPlace (open_at (world_before t) j)) (sym at) (all_tagged t.seat t.steps (start t) tt))

module _ (printed : PrintedLaw) (readable : ReadableLaw) (hearing : HearingLaw) (current : CurrentLaw) (law : HeldLaw) (live_law : LiveLaw) (seating : SeatingLaw) where
  heard : (t : Telling) → IsReadable t → t.last.occasion.seat ≡ t.seat → (before : List (Option Line))
      → hears (after before) (said_in (world_before t) t.last) ≡ after (before ++ map Some (lines_in (said_in (world_before t) t.last)))
  heard t can at before =
      step_heard readable hearing (world_before t) t.last (last_tag t at) (printable_last t.seat t.steps t.last (start t) can at) before

  module _ (t : Telling) where
    abbrev At : List Step → Type 0
    At steps = Reaches printed readable hearing current law live_law seating t.realm t.users t.host t.seat t.name steps

    at_end : AreNamed t.users (all_steps t) → IsReadable t → At (all_steps t)
    at_end named can = reaches printed readable hearing current law live_law seating t.realm t.users t.host t.seat t.name (all_steps t) named can

    front : AreNamed t.users (all_steps t) → AreNamed t.users t.steps
    front named = (named.0, named_front t.steps (t.last ∷ []) named.1)

    at_front : AreNamed t.users (all_steps t) → IsReadable t → At t.steps
    at_front named can =
        reaches printed readable hearing current law live_law seating t.realm t.users t.host t.seat t.name t.steps (front named)
        (printable_front t.seat t.steps (t.last ∷ []) (start t) can)

    rows_held : (x : View) → AreNamed t.users (all_steps t) → live_at (live.after t).machine t.seat t.name ≡ Some x → whole_in t.seat t.name (all_steps t) (start t) false ≡ true → IsReadable t
        → Holds x t.name (follower t)
    rows_held x named l k can =
        kept_rows printed x t.name (follower t)
        ((at_end named can).follows.holds x l k (holding x.1.0 (rows x.1.1)) (live_law.holds t.realm t.users t.host (all_steps t) t.seat t.name x named l k))

    no_misfit : (x : View) → IsFollowing AreNamed t x → IsReadable t → t.last.occasion.seat ≡ t.seat → is_among t.name (after_lines (world_before t) t.last (follower_before t)).1 ≡ false
    no_misfit x is can at =
        let own = eq-eqb t.last.occasion.seat t.seat at in
        let here = printable_last t.seat t.steps t.last (start t) can at in
        let done = own_done printed readable hearing current law live_law seating t.realm t.users t.host t.seat t.name t.steps t.last (at_front is.named can) is.named at own here in
        done.fits x (ap (λ (w : World). live_at w.machine t.seat t.name) (sym (run_append t.steps (t.last ∷ []) (start t))) ∙ is.live)
        (ap (λ b. cond b (whole_told t.name (told_in (world_before t) t.last) (whole_in t.seat t.name t.steps (start t) false)) (whole_in t.seat t.name t.steps (start t) false)) (sym own)
        ∙ sym (whole_snoc t.seat t.name t.steps t.last (start t) false) ∙ is.whole)

    -- ---- at a MODTIME

    amid_some : (q : List ℕ) (tolds : List Told) (client : Client) (x : View) → client_after_tolds q tolds client ≡ with_rows x
        → (old : Holding) × ((client ≡ Some old) × (holding_after_all old (notices_for q tolds) ≡ Some (holding x.1.0 (rows x.1.1))))
    amid_some q tolds None x e = absurd cc
    amid_some q tolds (Some old) x e = (old, (refl, e))

    module _ (x : View) (names : List (List ℕ)) (read unread : List Told) (moment : ℤ) (is : IsReading AreNamed t x names read unread moment) (can : IsReadable t) where
      abbrev w : World
      w = world_before t

      abbrev f : Follower
      f = follower_before t

      abbrev all : List Told
      all = read ++ told_as.Upto t.name moment ∷ unread

      abbrev here : List Line
      here = map told_line (read ++ told_as.Upto t.name moment ∷ [])

      answer : IsAnswered w t.last f (command.UpdateContext names) (said.Updated all)
      answer =
          answered_lines readable hearing w t.last f (command.UpdateContext names) (said.Updated all) (printable_last t.seat t.steps t.last (start t) can is.own) (last_tag t is.own) is.told
          (told_in w t.last) refl (spoken w t.last).speech

      before_is : before_lines w t.last f ≡ f
      before_is = answer.before ∙ asks_nothing answer.under (command.UpdateContext names) f refl

      machine_said : HasSaid t.last.occasion w.machine (machine_by (asked_in w t.last) t.last.occasion t.last.refused w.machine) (event.Command (command.UpdateContext names)) (said.Updated all)
      machine_said = subst (Answered t.last.occasion w.machine (machine_by (asked_in w t.last) t.last.occasion t.last.refused w.machine)) is.told (answered w t.last)

      abbrev then : Machine
      then = machine_by (asked_in w t.last) t.last.occasion t.last.refused w.machine

      live_then : live_at then t.last.occasion.seat t.name ≡ Some x
      live_then =
          let moved = moved_in t.last.occasion t.last.refused t.last.action w in
          left_live current law then t.last.occasion moved.left t.name x
          (ap (λ m. live_at m t.last.occasion.seat t.name) (sym moved.is)
          ∙ (λ i. live_at (sym (run_append t.steps (t.last ∷ []) (start t)) i).machine (is.own i) t.name)
          ∙ is.live)

      live_before : (y : View) × (live_at w.machine t.seat t.name ≡ Some y)
      live_before =
          let at = reached printed readable hearing current law live_law seating t.realm t.users t.host t.seat t.name t.steps (at_front is.named can) in
          let was = lives_on law w.machine t.last.occasion.seat (event.Command (command.UpdateContext names)) t.last.occasion.clock machine_said.reply then t.name x machine_said.step at.current live_then
          (ap (λ words. whole_after t.name (event.Command (command.UpdateContext names)) words true) machine_said.said)
          (ap (λ words. client_after t.name (event.Command (command.UpdateContext names)) words None) machine_said.said) in
          (was.0, ap (λ k. live_at w.machine k t.name) (sym is.own) ∙ was.1)

      stays : frees_among t.name read ≡ false
      stays =
          let none : frees_among t.name all ≡ false = ap (frees t.name (command.UpdateContext names)) (sym machine_said.said)
          ∙ step_frees t.name w.machine t.last.occasion.seat (command.UpdateContext names) t.last.occasion.clock machine_said.reply then x machine_said.step live_then in
          (or_parts _ _ (sym (list_any-append (frees_in t.name) read (told_as.Upto t.name moment ∷ unread)) ∙ none)).0

      at_modtime : HoldsAll x t.name (follow_all here (before_lines w t.last f)).0
      at_modtime =
          let amid = amid_some t.name read (client_in t.seat t.name t.steps (start t) None) x (live_law.modtimes t x names read unread moment is).0 in
          let kept = (at_front is.named can).follows.holds live_before.0 live_before.1 is.whole amid.0 amid.1.0 in
          let done = all_told printed t.name read f amid.0 (holding x.1.0 (rows x.1.1)) kept stays amid.1.1 in
          subst (HoldsAll x t.name)
          (sym (ap (λ (r : Follower × List (List ℕ)). r.0) (ap (follow_all here) before_is
          ∙ ap (λ ls. follow_all ls f) (map-append told_line read (told_as.Upto t.name moment ∷ []))
          ∙ append_follow (map told_line read) (map told_line (told_as.Upto t.name moment ∷ [])) f)))
          (complete_rows printed x t.name moment (follow_all (map told_line read) f).0 done.holds)

      -- what follows the last MODTIME of the context in the reply is of other contexts
      after_all : list_any (about t.name) unread ≡ false → HoldsAll x t.name (follower t)
      after_all quiet =
          let own = eq-eqb t.last.occasion.seat t.seat is.own in
          let asked : f.asked ≡ [] = (at_front is.named can).follows.asked answer.stands.0 (ap (λ k. open_at w k) (sym is.own) ∙ answer.stands.1) in
          let first = map told_line (read ++ told_as.Upto t.name moment ∷ []) in
          let g = (follow_all first f).0 in
          let tail : map told_line all ≡ first ++ map told_line unread =
          ap (map told_line) (sym (append_assoc read (told_as.Upto t.name moment ∷ []) unread)) ∙ map-append told_line (read ++ told_as.Upto t.name moment ∷ []) unread in
          let told_all : (follow_all (map told_line all) f).0 ≡ (follow_all (map told_line unread) g).0 =
          ap (λ ls. (follow_all ls f).0) tail ∙ ap (λ (r : Follower × List (List ℕ)). r.0) (append_follow first (map told_line unread) f) in
          let end : (after_lines w t.last f).0 ≡ (follow_all (map told_line all) f).0 =
          (λ i. (follow_all (answer.lines i) (before_is i)).0)
          ∙ ap (λ (r : Follower × List (List ℕ)). r.0) (append_follow (map told_line all) (done_line (Some answer.under) verb.UpdateContext ∷ []) f)
          ∙ ap (λ (r : Follower × List (List ℕ)). r.0)
          (done_quiet (Some answer.under) verb.UpdateContext (follow_all (map told_line all) f).0 (tolds_asked all f ∙ asked)) in
          let run : follower t ≡ (after_lines w t.last f).0 =
          follower_snoc t.seat t.steps t.last (start t) new ∙ ap (λ b. cond b (after_lines w t.last f).0 f) own in
          ap (λ (k : Follower). look_up t.name k.contexts) (run ∙ end ∙ told_all)
          ∙ tolds_at t.name unread g quiet
          ∙ subst (λ k. HoldsAll x t.name (follow_all first k).0) before_is at_modtime

    -- ---- the lines before a MODTIME are those of what the client has read so far

    record Reads (x : View) (front : List Line) (stamp : List ℕ) : Type 0 where
      names : List (List ℕ)
      read : List Told
      unread : List Told
      moment : ℤ
      reading : IsReading AreNamed t x names read unread moment
      lines_are : map told_line (read ++ told_as.Upto t.name moment ∷ []) ≡ front ++ UpTo t.name stamp ∷ []

    module _ (x : View) (is : IsFollowing AreNamed t x) (can : IsReadable t) (at : t.last.occasion.seat ≡ t.seat) (front back : List Line) (stamp : List ℕ) where
      found_modtime : (told : Option (Event × Said)) → told_in (world_before t) t.last ≡ told
          → Speech (sent_in (world_before t) t.last) told (tag_by t.last.action (open_at (world_before t) t.last.occasion.seat)) (said_in (world_before t) t.last) (spoken (world_before t) t.last).closed
          → lines_in (said_in (world_before t) t.last) ≡ front ++ UpTo t.name stamp ∷ back
          → IsModtime (world_before t) t.last (machine_by (asked_in (world_before t) t.last) t.last.occasion t.last.refused (world_before t).machine) told t.name stamp front
      found_modtime told e (Silent o k n) f = absurd (no_modtime [] front back t.name stamp refl (ap lines_in (sym o) ∙ f))
      found_modtime told e (Ready o n k) f =
          absurd (no_modtime (GoOn (codes "Ready") ∷ []) front back t.name stamp refl (sym (ap lines_in o ∙ lines_are hearing ready_line (GoOn (codes "Ready") ∷ []) (ready_lines readable)) ∙ f))
      found_modtime told e (Says words o fit) f =
          let w = world_before t in
          let here = printable_last t.seat t.steps t.last (start t) can at in
          let answers = subst (Answered t.last.occasion w.machine (machine_by (asked_in w t.last) t.last.occasion t.last.refused w.machine)) e (answered w t.last) in
          let lines = says_lines readable (sent_in w t.last) told (tag_by t.last.action (open_at w t.last.occasion.seat)) (said_in w t.last) words o fit
          (subst Greets e (greets_in w t.last (answered w t.last))) (last_tag t at) (subst (λ k. AllByRecursion FitsU64 (numbers_told k)) e here.numbers) here.fits in
          words_modtime w t.last (machine_by (asked_in w t.last) t.last.occasion t.last.refused w.machine) t.name stamp front back
          (sent_in w t.last) told (tag_by t.last.action (open_at w t.last.occasion.seat)) words fit answers (sym (lines_are hearing (said_in w t.last) (said_lines _ words) lines) ∙ f)

      reads : lines_in (said_in (world_before t) t.last) ≡ front ++ UpTo t.name stamp ∷ back → Reads x front stamp
      reads e =
          let found = found_modtime (told_in (world_before t) t.last) refl (spoken (world_before t) t.last).speech e in
          let own = eq-eqb t.last.occasion.seat t.seat at in
          let before = whole_in t.seat t.name t.steps (start t) false in
          let told = found.updated.told_is ∙ ap (λ ts. Some (event.Command (command.UpdateContext found.updated.names), said.Updated ts)) found.stands.told_is in
          record {
            names = found.updated.names;
            read = found.stands.read;
            unread = found.stands.unread;
            moment = found.stands.moment;
            reading = record {
              named = is.named;
              own = at;
              told = told;
              live = is.live;
              whole =
                  sym (ap (λ k. whole_told t.name k before) told)
                  ∙ ap (λ b. cond b (whole_told t.name (told_in (world_before t) t.last) before) before) (sym own)
                  ∙ sym (whole_snoc t.seat t.name t.steps t.last (start t) false)
                  ∙ is.whole;
            };
            lines_are =
                map-append told_line found.stands.read (told_as.Upto t.name found.stands.moment ∷ [])
                ∙ (λ i. found.stands.front_is i ++ UpTo t.name (found.stands.stamp_is i) ∷ []);
          }

    -- ---- where an UPDATECONTEXT has ended

    module _ (x : View) (is : IsFollowing AreNamed t x) (can : IsReadable t) (at : t.last.occasion.seat ≡ t.seat) (names : List (List ℕ)) (tolds : List Told)
        (told : told_in (world_before t) t.last ≡ Some (event.Command (command.UpdateContext names), said.Updated tolds)) (among : is_among t.name names ≡ true) where
      said_then : HasSaid t.last.occasion (world_before t).machine (machine_by (asked_in (world_before t) t.last) t.last.occasion t.last.refused (world_before t).machine)
          (event.Command (command.UpdateContext names)) (said.Updated tolds)
      said_then =
          subst (Answered t.last.occasion (world_before t).machine (machine_by (asked_in (world_before t) t.last) t.last.occasion t.last.refused (world_before t).machine)) told (answered (world_before t) t.last)

      ends_then : Ends t.name tolds
      ends_then =
          subst (EndsSaid t.name) said_then.said
          (step_ends t.name (world_before t).machine t.last.occasion.seat names t.last.occasion.clock said_then.reply _ said_then.step among)

      reading_then : IsReading AreNamed t x names ends_then.read ends_then.unread ends_then.moment
      reading_then =
          let own = eq-eqb t.last.occasion.seat t.seat at in
          let before = whole_in t.seat t.name t.steps (start t) false in
          record {
            named = is.named;
            own = at;
            told = told ∙ ap (λ ts. Some (event.Command (command.UpdateContext names), said.Updated ts)) ends_then.is;
            live = is.live;
            whole =
                sym (ap (λ k. whole_told t.name k before) told)
                ∙ ap (λ b. cond b (whole_told t.name (told_in (world_before t) t.last) before) before) (sym own)
                ∙ sym (whole_snoc t.seat t.name t.steps t.last (start t) false)
                ∙ is.whole;
          }

      completed_then : HoldsAll x t.name (follower t)
      completed_then = after_all x names ends_then.read ends_then.unread ends_then.moment reading_then can ends_then.quiet

  pub follower_law : FollowerLaw
  follower_law = record {
    heard = heard;
    whole = λ t can. all_heard readable hearing t.seat (all_steps t) (start t) [] [] can tt refl;
    holds = λ t x is can. rows_held t x is.named is.live is.whole can;
    fits = λ t x is can at. no_misfit t x is can at;
    complete = λ t x names tolds is can at e among. completed_then t x is can at names tolds e among;
    told = λ t x is can. (rows_held t x is.named is.live is.whole can, (live_law.told t x is).1);
    modtimes = λ t x front back stamp is can at e.
        let here = reads t x is can at front back stamp e in (
          subst (λ ls. HoldsAll x t.name (follow_all ls (before_lines (world_before t) t.last (follower_before t))).0) here.lines_are
              (at_modtime t x here.names here.read here.unread here.moment here.reading can),
          (live_law.modtimes t x here.names here.read here.unread here.moment here.reading).1,
        );
  }

-- ---- runs that are named in another way, by which they are named in the first

following_so : (A B : List User → List Step → Type 0) → ((users : List User) (steps : List Step) → B users steps → A users steps)
    → (t : Telling) (x : View) → IsFollowing B t x → IsFollowing A t x
following_so A B so t x is = record { named = so t.users (all_steps t) is.named; live = is.live; whole = is.whole }

law_so : (A B : List User → List Step → Type 0) → ((users : List User) (steps : List Step) → B users steps → A users steps) → FollowerLawOf A → FollowerLawOf B
law_so A B so law = record {
  heard = law.heard;
  whole = law.whole;
  holds = λ t x is. law.holds t x (following_so A B so t x is);
  fits = λ t x is. law.fits t x (following_so A B so t x is);
  complete = λ t x names tolds is. law.complete t x names tolds (following_so A B so t x is);
  told = λ t x is. law.told t x (told_so A B so t x is);
  modtimes = λ t x front back stamp is. law.modtimes t x front back stamp (following_so A B so t x is);
}

-- of users who are known to have names
pub law_for : (those : List User) → are_named those ≡ true → FollowerLaw → FollowerLawFor those
law_for those named law = law_so AreNamed (MayLogIn those) (λ users steps k. (subst (λ us. are_named us ≡ true) (sym k.0) named, k.1)) law
