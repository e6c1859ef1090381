-- The lines of a script are a run of a world in which what was said is taken.
use Rattle.std.proofs.Common.{◌≡◌, inl, inr, ℕ, Bool, true, false, List, [], ◌∷◌, ◌++◌, Some, None, refl, sym, ap, subst, ◌∙◌, append_assoc}
use Rattle.std.proofs.lemmas.List.{append-nil}
use Rattle.acap_grammar.specs.Replies.{crlf}
use Rattle.acap_session.specs.Script.{Acts, AreDone, Does, Hears, IsDone, Listens, Sets, Speaks, begins, fits, is_before, realm_of, turns, with_setup, without_nonce, world_of}
use Rattle.acap_session.specs.ScriptOutput.{Shows}
use Rattle.acap_session.specs.ScriptTaking.{ComesOf, IsOfRun, IsReached, ScriptRuns, ShowsTaken}
use Rattle.acap_session.specs.Setup.{Setup}
use Rattle.acap_session.specs.Taking.{Act, Makes, Takes, acted, said_at, steps_among, world_acted}
use Rattle.acap_session.specs.World as world
use Rattle.acap_session.specs.World.{World, Action, did, output_taken, world_after}
use Rattle.acap_script.specs.declared.script_line.ScriptLine.{ScriptLine}
use Rattle.acap_script.specs.declared.script_line.ScriptLine.TheVariants as line
use Rattle.acap_script.specs.declared.seat_line.SeatLine.{SeatLine}
use Rattle.acap_script.specs.declared.seat_line.SeatLine.TheVariants as act
use Rattle.acap_session.specs.declared.occasion.Occasion.{Occasion}
use Rattle.acap_session.specs.declared.script.Script.{Script}
use Rattle.acap_session.specs.declared.script.ScriptStage.{ScriptStage}
use Rattle.acap_session.specs.declared.script.ScriptStage.TheVariants as standing
use Rattle.acap_session.proofs.Taking.{taking_law}
use Rattle.acap_session.proofs.WorldSeats.{listens_as, new_seated, run_seated}

-- ---- runs, one after the other

acted_append : (a b : List Act) (w : World) → world_acted (a ++ b) w ≡ world_acted b (world_acted a w)
acted_append [] b w = refl
acted_append (x ∷ a) b w = acted_append a b (acted x w)

shows_append : (a b : List Act) (w : World) (first later : List ℕ) → ShowsTaken a w first → ShowsTaken b (world_acted a w) later → ShowsTaken (a ++ b) w (first ++ later)
shows_append [] b w first later h k = subst (λ xs. ShowsTaken b w (xs ++ later)) (sym h) k
shows_append (Makes x ∷ a) b w first later h k = shows_append a b (acted (Makes x) w) first later h k
shows_append (Takes seat ∷ a) b w first later (one, more, e, shown, h) k =
    (one, more ++ later, ap (λ xs. xs ++ later) e ∙ append_assoc one more later, shown, shows_append a b (output_taken w seat) more later h k)

-- ---- a run in which nothing is taken

record Ran (old new : World) : Type 0 where
  acts : List Act
  is : new ≡ world_acted acts old
  none : ShowsTaken acts old []

stays : (w : World) → Ran w w
stays w = record { acts = []; is = refl; none = refl }

ran_then : (a b c : World) → Ran a b → Ran b c → Ran a c
ran_then a b c h k = record {
  acts = h.acts ++ k.acts;
  is = k.is ∙ ap (world_acted k.acts) h.is ∙ sym (acted_append h.acts k.acts a);
  none = shows_append h.acts k.acts a [] [] h.none (subst (λ w. ShowsTaken k.acts w []) h.is k.none);
}

one_step : (o : Occasion) (refused : Bool) (action : Action) (old new : World) → new ≡ did o refused action old → Ran old new
one_step o refused action old new e = record { acts = Makes (record { occasion = o; refused = refused; action = action }) ∷ []; is = e; none = refl }

turns_ran : (o : Occasion) (refused : List Bool) (w : World) → Ran w (turns o refused w)
turns_ran o [] w = stays w
turns_ran o (r ∷ refused) w = ran_then w (did o r world.Turn w) (turns o refused (did o r world.Turn w)) (one_step o r world.Turn w _ refl) (turns_ran o refused (did o r world.Turn w))

offered_ran : (o : Occasion) (refused : List Bool) (piece : List ℕ) (w : World) → Ran w (turns o refused (did o false (world.Piece piece) w))
offered_ran o refused piece w =
    let v = did o false (world.Piece piece) w in
    ran_then w v (turns o refused v) (one_step o false (world.Piece piece) w v refl) (turns_ran o refused v)

hears_ran : (refused : List (List Bool)) (o : Occasion) (piece : List ℕ) (old new : World) → Hears refused o piece old new → Ran old new
hears_ran [] o piece old new h = absurd h
hears_ran (r ∷ refused) o piece old new (quiet, inl (over, none, e)) = subst (Ran old) (sym e) (offered_ran o r piece old)
hears_ran (r ∷ refused) o piece old new (quiet, inr (goes, h)) =
    let w = turns o r (did o false (world.Piece piece) old) in
    ran_then old w new (offered_ran o r piece old) (hears_ran refused o _ w new h)

-- what is done at a seat
acts_ran : (does : SeatLine) (o : Occasion) (old new : World) → Acts does o old new → Ran old new
acts_ran act.Open o old new e = one_step (without_nonce o) false (world.Open None) old new e
acts_ran (act.Enter user) o old new e = one_step (without_nonce o) false (world.Open (Some user)) old new e
acts_ran (act.Send text) o old new h = hears_ran h.refused o (text ++ crlf) old new h.heard
acts_ran (act.Raw octets) o old new h = hears_ran h.refused o octets old new h.heard
acts_ran (act.Piece octets) o old new e = one_step o false (world.Piece octets) old new e
acts_ran act.Turn o old new h = one_step o h.refused world.Turn old new h.is
acts_ran act.Drain o old new e = one_step (without_nonce o) false world.Drain old new e
acts_ran act.Leave o old new e = one_step (without_nonce o) false world.Leave old new e

-- ---- and what was said is taken

comes_on : (setup : Setup) (written out : List ℕ) (seat : ℕ) (w after : World) → ComesOf setup written w → Ran w after → Shows seat (said_at after seat) out → ComesOf setup (written ++ out) (output_taken after seat)
comes_on setup written out seat w after c r shown =
    let start = world_of (standing.Before setup) in
    let later = r.acts ++ Takes seat ∷ [] in
    record {
      acts = c.acts ++ later;
      is = ap (λ v. output_taken v seat) r.is ∙ sym (acted_append r.acts (Takes seat ∷ []) w) ∙ ap (world_acted later) c.is ∙ sym (acted_append c.acts later start);
      shows = shows_append c.acts later start written out c.shows (subst (λ v. ShowsTaken later v out) c.is
          (shows_append r.acts (Takes seat ∷ []) w [] out r.none (subst (λ v. ShowsTaken (Takes seat ∷ []) v out) r.is (out, [], sym (append-nil out), shown, refl))));
    }

-- ---- a line

-- nothing is written, and the world stays
stands_still : (written out : List ℕ) (s : ScriptStage) → out ≡ [] → IsOfRun written s → IsOfRun (written ++ out) s
stands_still written out s e h = subst (λ xs. IsOfRun xs s) (sym (append-nil written) ∙ ap (λ xs. written ++ xs) (sym e)) h

set_more : (f : Setup → Setup) (written : List ℕ) (s : ScriptStage) → is_before s ≡ true → IsOfRun written s → IsOfRun written (with_setup f s)
set_more f written (standing.Before setup) b h = h
set_more f written (standing.Since w) b h = absurd cc

sets : (f : Setup → Setup) (written out : List ℕ) (old new : Script) → is_before old.standing ≡ true → Sets f old out new → IsOfRun written old.standing → IsOfRun (written ++ out) new.standing
sets f written out old new b k h =
    subst (λ (s : Script). IsOfRun (written ++ out) s.standing) (sym k.1) (stands_still written out (with_setup f old.standing) k.0 (set_more f written old.standing b h))

began : (written : List ℕ) (s : ScriptStage) → IsOfRun written s → (setup : Setup) × ComesOf setup written (world_of s)
began written (standing.Before setup) h = (setup, record { acts = []; is = refl; shows = h })
began written (standing.Since w) h = h

speaks : (seat : ℕ) (does : SeatLine) (written out : List ℕ) (old new : Script) → Speaks seat does old out new → IsOfRun written old.standing → IsOfRun (written ++ out) new.standing
speaks seat does written out old new k h =
    let c = began written old.standing h in
    let o : Occasion = record { seat = seat; clock = old.clock; nonce = old.nonce } in
    subst (λ (s : Script). IsOfRun (written ++ out) s.standing) (sym k.left) (c.0, comes_on c.0 written out seat (world_of old.standing) k.after c.1 (acts_ran does o (world_of old.standing) k.after k.acts) k.shown)

stays_so : (written out : List ℕ) (old new : Script) → out ≡ [] → new.standing ≡ old.standing → IsOfRun written old.standing → IsOfRun (written ++ out) new.standing
stays_so written out old new e f h = subst (λ s. IsOfRun (written ++ out) s) (sym f) (stands_still written out old.standing e h)

does_line : (l : ScriptLine) (written out : List ℕ) (old new : Script) → fits l old.standing ≡ true → Does l old out new → IsOfRun written old.standing → IsOfRun (written ++ out) new.standing
does_line line.Pass written out old new f k h = stays_so written out old new k.0 (ap (λ (s : Script). s.standing) k.1) h
does_line (line.Clock moment) written out old new f k h = stays_so written out old new k.0 (ap (λ (s : Script). s.standing) k.1) h
does_line (line.Nonce nonce) written out old new f k h = stays_so written out old new k.0 (ap (λ (s : Script). s.standing) k.1) h
does_line (line.At seat does) written out old new f k h = speaks seat does written out old new k h
does_line l written out old new f k h = sets _ written out old new f k h

done_on : (text written out : List ℕ) (old new : Script) → IsDone text old out new → IsOfRun written old.standing → IsOfRun (written ++ out) new.standing
done_on text written out old new k h = does_line k.line written out old new k.may_stand k.does h

all_done : (lines : List (List ℕ)) (written out : List ℕ) (old new : Script) → AreDone lines old out new → IsOfRun written old.standing → IsOfRun (written ++ out) new.standing
all_done [] written out old new k h = stays_so written out old new k.0 (ap (λ (s : Script). s.standing) k.1) h
all_done (text ∷ lines) written out old new k h =
    subst (λ xs. IsOfRun xs new.standing) (append_assoc written k.first k.later ∙ ap (λ xs. written ++ xs) (sym k.out_is))
    (all_done lines (written ++ k.first) k.later k.between new k.then_done (done_on text written k.first old k.between k.done h))

pub script_runs : ScriptRuns
script_runs lines written last k = all_done lines [] written begins last k refl

-- ---- what a script has reached

pub reached_by : (lines : List (List ℕ)) (written : List ℕ) (last : Script) → AreDone lines begins written last → IsReached last
reached_by lines written last k = record { written = written; run = script_runs lines written last k }

pub reached_on : (text out : List ℕ) (old new : Script) → IsReached old → IsDone text old out new → IsReached new
reached_on text out old new r k = record { written = r.written ++ out; run = done_on text r.written out old new k r.run }

comes_listening : (seat : ℕ) (setup : Setup) (written : List ℕ) (w : World) → ComesOf setup written w → Listens seat w
comes_listening seat setup written w c =
    let start = world_of (standing.Before setup) in
    let taken = taking_law.left c.acts start in
    subst (Listens seat) (sym c.is) (listens_as seat (world_after (steps_among c.acts) start) (world_acted c.acts start) (run_seated (steps_among c.acts) start (new_seated (realm_of setup) setup.users setup.host)) (taken.talks seat))

listens_by : (seat : ℕ) (written : List ℕ) (s : ScriptStage) → IsOfRun written s → Listens seat (world_of s)
listens_by seat written (standing.Before setup) h = λ place e. absurd cc
listens_by seat written (standing.Since w) h = comes_listening seat h.0 written w h.1

-- its sessions hear
pub listens : (seat : ℕ) (s : Script) → IsReached s → Listens seat (world_of s.standing)
listens seat s r = listens_by seat r.written s.standing r.run
