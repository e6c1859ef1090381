-- What is written where events are refused memory.
use Rattle.std.proofs.Common.{◌≡◌, ℕ, pos, Bool, true, false, ◌||◌, is_ok, List, [], ◌∷◌, ◌++◌, Option, Some, None, Err, refl, sym, ap, subst, ◌∙◌, append_assoc}
use Rattle.std.specs.List.{list_any}
use Rattle.std.specs.Prelude.{codes}
use Rattle.std.proofs.lemmas.List.{append-nil}
use Rattle.acap_login.specs.Login.{User}
use Rattle.acap_grammar.specs.Replies.{octets_of}
use Rattle.acap_commands.specs.declared.refusal.Refusal.TheVariants as refusals
use Rattle.acap_commands.specs.declared.said.Said.TheVariants as said
use Rattle.acap_lexer.specs.Held.{next_of}
use Rattle.acap_lexer.specs.Stream.{end_of, part_end, progress, progress_from, progress_within, step_of}
use Rattle.acap_lexer.specs.declared.lexed.Lexed.TheVariants as lexed
use Rattle.acap_lexer.specs.declared.lexed.Mode.TheVariants as mode
use Rattle.acap_machine.specs.Machine.{Machine, new_machine}
use Rattle.acap_machine.proofs.SeatLemmas.{nobody_at}
use Rattle.acap_machine.specs.Runs.{machine_after, outcome_of}
use Rattle.acap_machine.specs.Stepping.{enter_answer as seating}
use Rattle.acap_commands.specs.declared.event.Fault.TheVariants as fault
use Rattle.acap_dialogue.specs.Hearing.{response_to, opening}
use Rattle.acap_session.specs.Laws.{IsUnder, RefusedTurns, WrittenLaw, told_first, refused_in, refused_of}
use Rattle.acap_session.specs.Piping.{Fed, AreAnswered, IsQuiet, IsWritten, always, after_enter, after_piece, fed_all, hears, octets_of_pieces, turns, without_administrators}
use Rattle.acap_dialogue.specs.Session.{session_next, after_answer, answer_said, answer_user, comes_to, has_seat}
use Rattle.acap_dialogue.specs.Talking.{Talking, beginning}
use Rattle.acap_session.specs.Turning.{Scene, turn_and_scene, turn_by, turn_of}
use Rattle.acap_session.specs.World.{went_on}
use Rattle.acap_dialogue.specs.declared.next.Next.{Next}
use Rattle.acap_dialogue.specs.declared.next.Next.TheVariants as next
use Rattle.acap_session.specs.declared.occasion.Occasion.{Occasion}
use Rattle.acap_dialogue.specs.declared.stage.Stage.{Stage}
use Rattle.acap_dialogue.specs.declared.stage.Stage.TheVariants as stage
use Rattle.acap_session.specs.declared.occasion.Turn.{Turn}
use Rattle.acap_session.specs.declared.occasion.Turn.TheVariants as turn
use Rattle.acap_session.proofs.Cutting.{next_kept, turn_keeps, nothing_changes, still_stays}
use Rattle.acap_session.proofs.Turning.{still}

-- ---- a turn whose event is refused

abbrev refused_scene : Scene → Talking → Option (List ℕ) → Scene
refused_scene s t tag = record s { talk = record t { stage = stage.Ready }; out = s.out ++ octets_of (record { tag = tag; said = said.Refused refusals.Memory }) }

refused_at : (o : Occasion) (s : Scene) (t : Talking) (tag : Option (List ℕ)) (x : Stage) → IsUnder tag x
    → turn_and_scene o (has_seat t || false) s.machine s.out (comes_to (record t { user = answer_user x t.user (Err fault.Memory) }) (answer_said x (Err fault.Memory))) ≡ (turn.Said, refused_scene s t tag)
refused_at o s t tag (stage.Asked other) e = ap (λ x. let r : Turn × Scene = (turn.Said, refused_scene s t x) in r) e
refused_at o s t tag (stage.LoggingIn other user) e = ap (λ x. let r : Turn × Scene = (turn.Said, refused_scene s t x) in r) e
refused_at o s t tag x e = absurd e

pub refused_turns : RefusedTurns
unfolding turn_of after_answer
refused_turns users o s event t tag e k = ap (turn_by o true s) e ∙ refused_at o s t tag t.stage k

-- ---- turns where more octets stand behind

-- the same turns with octets behind those held, and without those that come to nothing
record Ahead (users : List User) (octets : List ℕ) (made : List Bool) (s : Scene) : Type 0 where
  turned : List Bool
  is : turns users turned (hears octets s) ≡ hears octets (turns users made s)
  told : refused_in users turned (hears octets s) ≡ refused_in users made s

not_more : (users : List User) (refused : Bool) (s : Scene) → went_on (turn_of users always refused s).0 ≡ true → (session_next users 0 (pos 0) s.talk).0 ≡ next.More → ⊥
unfolding turn_of
not_more users refused s e m =
    let x = session_next users 0 (pos 0) s.talk in
    let k : false ≡ true = sym (ap (λ y. went_on (turn_by always refused s (y, x.1)).0) m) ∙ e in cc

quiet_turn : (users : List User) (refused : Bool) (s : Scene) (c : Turn) → (turn_of users always refused s).0 ≡ c → went_on c ≡ false → (session_next users 0 (pos 0) s.talk).0 ≡ next.More
quiet_turn users refused s turn.More e f = (still users always s (turn_of users always refused s).1 (record { refused = refused; is = λ i. (sym e i, (turn_of users always refused s).1) })).quiet
quiet_turn users refused s turn.Said e f = absurd cc
quiet_turn users refused s turn.Closed e f = absurd cc

ahead_by : (users : List User) (octets : List ℕ) (refused : Bool) (made : List Bool) (s : Scene) (b : Bool) → went_on (turn_of users always refused s).0 ≡ b → Ahead users octets made (turn_of users always refused s).1 → Ahead users octets (refused ∷ made) s
ahead_by users octets refused made s true e a =
    let z = (turn_of users always refused s).1 in
    let keeps = ap (λ (x : Turn × Scene). x.1) (turn_keeps users always refused s octets e) in
    record {
      turned = refused ∷ a.turned;
      is = ap (turns users a.turned) keeps ∙ a.is;
      told = ap (λ (q : Scene). told_first refused (session_next users 0 (pos 0) (hears octets s).talk).0 (refused_in users a.turned q)) keeps
          ∙ ap (λ n. told_first refused n (refused_in users a.turned (hears octets z))) (next_kept users 0 (pos 0) s octets (not_more users refused s e))
          ∙ ap (told_first refused (session_next users 0 (pos 0) s.talk).0) a.told;
    }
ahead_by users octets refused made s false e a =
    let z = (turn_of users always refused s).1 in
    let same : z ≡ s = nothing_changes users always refused s (turn_of users always refused s).0 refl e in
    record {
      turned = a.turned;
      is = ap (λ (q : Scene). turns users a.turned (hears octets q)) (sym same) ∙ a.is;
      told = ap (λ (q : Scene). refused_in users a.turned (hears octets q)) (sym same) ∙ a.told
          ∙ sym (ap (λ n. told_first refused n (refused_in users made z)) (quiet_turn users refused s (turn_of users always refused s).0 refl e));
    }

ahead : (users : List User) (octets : List ℕ) (made : List Bool) (s : Scene) → Ahead users octets made s
ahead users octets [] s = record { turned = []; is = refl; told = refl }
ahead users octets (refused ∷ made) s = ahead_by users octets refused made s (went_on (turn_of users always refused s).0) refl (ahead users octets made (turn_of users always refused s).1)

turns_joined : (users : List User) (a b : List Bool) (s : Scene) → turns users (a ++ b) s ≡ turns users b (turns users a s)
turns_joined users [] b s = refl
turns_joined users (x ∷ a) b s = turns_joined users a b (turn_of users always x s).1

told_joined : (refused : Bool) (n : Next) (a b : List Bool) → told_first refused n (a ++ b) ≡ told_first refused n a ++ b
told_joined refused next.More a b = refl
told_joined refused n a b = refl

refused_joined : (users : List User) (a b : List Bool) (s : Scene) → refused_in users (a ++ b) s ≡ refused_in users a s ++ refused_in users b (turns users a s)
refused_joined users [] b s = refl
refused_joined users (x ∷ a) b s =
    let n = (session_next users 0 (pos 0) s.talk).0 in
    ap (told_first x n) (refused_joined users a b (turn_of users always x s).1) ∙ told_joined x n (refused_in users a (turn_of users always x s).1) (refused_in users b (turns users a (turn_of users always x s).1))

-- all octets first, and then some turns
record AllFirst (users : List User) (pieces : List Fed) (s : Scene) : Type 0 where
  turned : List Bool
  is : turns users turned (hears (octets_of_pieces pieces) s) ≡ fed_all users pieces s
  told : refused_in users turned (hears (octets_of_pieces pieces) s) ≡ refused_of users pieces s

abbrev with_text : Scene → List ℕ → Scene
with_text s text = record s { talk = record s.talk { held = record s.talk.held { text = text } } }

all_first : (users : List User) (pieces : List Fed) (s : Scene) → AllFirst users pieces s
all_first users [] s = record { turned = []; is = ap (with_text s) (append-nil s.talk.held.text); told = refl }
all_first users (x ∷ pieces) s =
    let rest = octets_of_pieces pieces in
    let a = ahead users rest x.1 (hears x.0 s) in
    let r = all_first users pieces (after_piece users x s) in
    let both : hears (x.0 ++ rest) s ≡ hears rest (hears x.0 s) = ap (with_text s) (sym (append_assoc s.talk.held.text x.0 rest)) in
    record {
      turned = a.turned ++ r.turned;
      is = ap (turns users (a.turned ++ r.turned)) both ∙ turns_joined users a.turned r.turned (hears rest (hears x.0 s)) ∙ ap (turns users r.turned) a.is ∙ r.is;
      told = ap (refused_in users (a.turned ++ r.turned)) both ∙ refused_joined users a.turned r.turned (hears rest (hears x.0 s))
          ∙ ap (λ q. refused_in users a.turned (hears rest (hears x.0 s)) ++ refused_in users r.turned q) a.is
          ∙ (λ i. a.told i ++ r.told i);
    }

-- ---- two lists of turns that end where nothing is next

-- they agree as far as both go
abbrev Agree : List Bool → List Bool → Type 0
Agree [] b = Unit {0}
Agree (x ∷ a) [] = Unit {0}
Agree (x ∷ a) (y ∷ b) = (x ≡ y) × Agree a b

agree_same : (a : List Bool) → Agree a a
agree_same [] = tt
agree_same (x ∷ a) = (refl, agree_same a)

abbrev any_refused : List Bool → Bool
any_refused a = list_any (λ refused. refused) a

agree_none : (a b : List Bool) → any_refused a ≡ false → any_refused b ≡ false → Agree a b
agree_none [] b e f = tt
agree_none (x ∷ a) [] e f = tt
agree_none (true ∷ a) (y ∷ b) e f = absurd cc
agree_none (false ∷ a) (true ∷ b) e f = absurd cc
agree_none (false ∷ a) (false ∷ b) e f = (refl, agree_none a b e f)

-- the same turn, and the rest agrees
record SameTurn (users : List User) (x y : Bool) (a b : List Bool) (s : Scene) : Type 0 where
  turn_is : turn_of users always x s ≡ turn_of users always y s
  agree : Agree a b

same_by : (s : Scene) (x y : Bool) (n : Next) (t : Talking) (a b : List Bool) → Agree (told_first x n a) (told_first y n b) → (turn_by always x s (n, t) ≡ turn_by always y s (n, t)) × Agree a b
same_by s x y (next.Ask event) t a b e = (ap (λ r. turn_by always r s (next.Ask event, t)) e.0, e.1)
same_by s x y n t a b e = (refl, e)

same_turn : (users : List User) (x y : Bool) (a b : List Bool) (s : Scene) → Agree (told_first x (session_next users 0 (pos 0) s.talk).0 a) (told_first y (session_next users 0 (pos 0) s.talk).0 b) → SameTurn users x y a b s
unfolding turn_of
same_turn users x y a b s e =
    let n = session_next users 0 (pos 0) s.talk in
    let k = same_by s x y n.0 n.1 a b e in
    record { turn_is = k.0; agree = k.1 }

still_turns : (users : List User) (a : List Bool) (s : Scene) → IsQuiet users s → turns users a s ≡ s
still_turns users [] s e = refl
still_turns users (x ∷ a) s e = ap (turns users a) (still_stays users always x s e) ∙ still_turns users a s e

ends_meet : (users : List User) (a b : List Bool) (s : Scene) → Agree (refused_in users a s) (refused_in users b s) → IsQuiet users (turns users a s) → IsQuiet users (turns users b s) → turns users a s ≡ turns users b s
ends_meet users [] b s k e f = sym (still_turns users b s e)
ends_meet users (x ∷ a) [] s k e f = still_turns users (x ∷ a) s f
ends_meet users (x ∷ a) (y ∷ b) s k e f =
    let z = (turn_of users always x s).1 in
    let w = (turn_of users always y s).1 in
    let t = same_turn users x y (refused_in users a z) (refused_in users b w) s k in
    let same : z ≡ w = ap (λ (r : Turn × Scene). r.1) t.turn_is in
    let met = ends_meet users a b z (subst (λ (q : Scene). Agree (refused_in users a z) (refused_in users b q)) (sym same) t.agree) e (subst (λ (q : Scene). IsQuiet users (turns users b q)) (sym same) f) in
    met ∙ ap (turns users b) same

-- ---- pieces

quiet_end : (users : List User) (pieces : List Fed) (s : Scene) → IsQuiet users s → AreAnswered users pieces s → IsQuiet users (fed_all users pieces s)
quiet_end users [] s q h = q
quiet_end users (x ∷ pieces) s q h = quiet_end users pieces (after_piece users x s) h.1 h.2

pieces_meet : (users : List User) (a b : List Fed) (s : Scene) → octets_of_pieces a ≡ octets_of_pieces b → IsQuiet users s → AreAnswered users a s → AreAnswered users b s → Agree (refused_of users a s) (refused_of users b s) → fed_all users a s ≡ fed_all users b s
pieces_meet users a b s e q g h k =
    let x = all_first users a s in
    let y = all_first users b s in
    let y_is : turns users y.turned (hears (octets_of_pieces a) s) ≡ fed_all users b s = ap (λ ts. turns users y.turned (hears ts s)) e ∙ y.is in
    let y_told : refused_in users y.turned (hears (octets_of_pieces a) s) ≡ refused_of users b s = ap (λ ts. refused_in users y.turned (hears ts s)) e ∙ y.told in
    let agree = subst (λ r. Agree r (refused_in users y.turned (hears (octets_of_pieces a) s))) (sym x.told) (subst (Agree (refused_of users a s)) (sym y_told) k) in
    sym x.is ∙ ends_meet users x.turned y.turned (hears (octets_of_pieces a) s) agree (subst (IsQuiet users) (sym x.is) (quiet_end users a s q g)) (subst (IsQuiet users) (sym y_is) (quiet_end users b s q h)) ∙ y_is

-- a session that has entered, and holds nothing, has nothing next
abbrev nobody : Machine
nobody = new_machine without_administrators

abbrev welcomed : List ℕ → Option (List ℕ) → Scene
welcomed user x =
    let r = seating nobody 0 user x in
    (turn_and_scene always (false || is_ok r) (machine_after nobody r) [] (after_answer (record (beginning (codes "localhost") (Some user)) { stage = stage.Entering }) (outcome_of r))).1

entered_is : (user : List ℕ) → after_enter user ≡ welcomed user None
unfolding after_enter turn_of session_next opening
entered_is user = ap (welcomed user) (nobody_at without_administrators 0)

nothing_held : (next_of mode.Command (record { text = []; told = 0; fatal = None })).0 ≡ lexed.More
unfolding next_of progress progress_from progress_within step_of part_end end_of
nothing_held = refl

welcomed_quiet : (user : List ℕ) → IsQuiet [] (welcomed user None)
unfolding after_answer session_next response_to
welcomed_quiet user = ap (λ x. (response_to (record { host = codes "localhost"; user = Some user; nonce = 0; clock = pos 0 }) x).0) nothing_held

entered_quiet : (user : List ℕ) → IsQuiet [] (after_enter user)
entered_quiet user = subst (IsQuiet []) (sym (entered_is user)) (welcomed_quiet user)

written_by : (user read a b : List ℕ) (x : IsWritten user read a) (y : IsWritten user read b) → Agree (refused_of [] x.pieces (after_enter user)) (refused_of [] y.pieces (after_enter user)) → a ≡ b
written_by user read a b x y k =
    x.is ∙ ap (λ (s : Scene). s.out) (pieces_meet [] x.pieces y.pieces (after_enter user) (sym x.joined_is ∙ y.joined_is) (entered_quiet user) x.answered y.answered k) ∙ sym y.is

pub written : WrittenLaw
written = record {
  by_refused = λ user read a b x y e. written_by user read a b x y (subst (Agree (refused_of [] x.pieces (after_enter user))) e (agree_same (refused_of [] x.pieces (after_enter user))));
  by_none = λ user read a b x y e f. written_by user read a b x y (agree_none (refused_of [] x.pieces (after_enter user)) (refused_of [] y.pieces (after_enter user)) e f);
}
