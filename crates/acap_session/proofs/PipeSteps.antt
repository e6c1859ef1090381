-- A session between a reader and a writer is a run of a world.
use Rattle.std.proofs.Common.{◌≡◌, ℕ, Bool, true, false, List, [], ◌∷◌, ◌++◌, take, Some, refl, sym, ap, ◌∙◌, arith}
use Rattle.std.specs.Prelude.{codes, map, flat_map}
use Rattle.std.proofs.lemmas.List.{take_all}
use Rattle.acap_session.specs.PipeSteps.{PipeRuns, world_of_one, step_of, steps_fed}
use Rattle.acap_session.specs.Piping.{Fed, AreAnswered, MayTake, always, after_enter, after_piece, fed_all, hears, turns, without_administrators}
use Rattle.acap_dialogue.specs.Session.{is_closed, session_next}
use Rattle.acap_dialogue.specs.Talking.{Talking}
use Rattle.acap_session.specs.Turning.{Scene, turn_of}
use Rattle.acap_session.specs.World.{World, Step, Open, Piece, Turn, did, new_world, room_of, world_after}
use Rattle.acap_session.proofs.WorldSeats.{closed_is}
use Rattle.acap_dialogue.specs.declared.stage.Stage.TheVariants as stage

-- a closed session makes no turn
turn_closed : (refused : Bool) (s : Scene) → s.talk.stage ≡ stage.Closed → (turn_of [] always refused s).1 ≡ s
unfolding turn_of session_next
turn_closed refused s e = rw e refl

turn_by : (refused : Bool) (s : Scene) (b : Bool) → is_closed s.talk.stage ≡ b → did always refused Turn (world_of_one s) ≡ world_of_one (turn_of [] always refused s).1
unfolding did
turn_by refused s true e = rw e (ap world_of_one (sym (turn_closed refused s (closed_is s.talk.stage e))))
turn_by refused s false e = rw e refl

turn_step : (refused : Bool) (s : Scene) → did always refused Turn (world_of_one s) ≡ world_of_one (turn_of [] always refused s).1
turn_step refused s = turn_by refused s (is_closed s.talk.stage) refl

turn_steps : (refused : List Bool) (s : Scene) → world_after (map (step_of Turn) refused) (world_of_one s) ≡ world_of_one (turns [] refused s)
turn_steps [] s = refl
turn_steps (r ∷ refused) s = ap (world_after (map (step_of Turn) refused)) (turn_step r s) ∙ turn_steps refused (turn_of [] always r s).1

-- a piece is taken whole
taken_whole : (octets : List ℕ) (t : Talking) → MayTake octets t → take (room_of t octets) octets ≡ octets
taken_whole octets t f = take_all (room_of t octets) octets (omega (arith, f.1))

piece_step : (octets : List ℕ) (s : Scene) → MayTake octets s.talk → did always false (Piece octets) (world_of_one s) ≡ world_of_one (hears octets s)
unfolding did
piece_step octets s f = rw f.0 (ap (λ (more : List ℕ). world_of_one (hears more s)) (taken_whole octets s.talk f))

pub run_append : (a b : List Step) (w : World) → world_after (a ++ b) w ≡ world_after b (world_after a w)
run_append [] b w = refl
run_append (x ∷ a) b w = run_append a b (did x.occasion x.refused x.action w)

fed_steps : (x : Fed) (s : Scene) → MayTake x.0 s.talk → world_after (steps_fed x) (world_of_one s) ≡ world_of_one (after_piece [] x s)
fed_steps x s f = ap (world_after (map (step_of Turn) x.1)) (piece_step x.0 s f) ∙ turn_steps x.1 (hears x.0 s)

all_steps : (pieces : List Fed) (s : Scene) → AreAnswered [] pieces s → world_after (flat_map steps_fed pieces) (world_of_one s) ≡ world_of_one (fed_all [] pieces s)
all_steps [] s h = refl
all_steps (x ∷ pieces) s h = run_append (steps_fed x) (flat_map steps_fed pieces) (world_of_one s) ∙ ap (world_after (flat_map steps_fed pieces)) (fed_steps x s h.0) ∙ all_steps pieces (after_piece [] x s) h.2

opens : (user : List ℕ) → did always false (Open (Some user)) (new_world without_administrators [] (codes "localhost")) ≡ world_of_one (after_enter user)
unfolding did after_enter
opens user = refl

pub pipe_runs : PipeRuns
pipe_runs user pieces h = ap (world_after (flat_map steps_fed pieces)) (opens user) ∙ all_steps pieces (after_enter user) h
