-- The steps of a world that a session between a reader and a writer is.
use Rattle.std.specs.Prelude.{◌≡◌, ℕ, List, [], ◌∷◌, map, flat_map, Bool, false, Some, codes}
use Rattle.acap_session.specs.Piping.{Fed, AreAnswered, always, after_enter, fed_all, without_administrators}
use Rattle.acap_session.specs.Turning.{Scene}
use Rattle.acap_session.specs.World.{World, Action, Step, Open, Piece, Turn, new_world, world_after}

abbrev pub step_of : Action → Bool → Step
step_of action refused = record { occasion = always; refused = refused; action = action }

-- a piece is given, and turns follow
abbrev pub steps_fed : Fed → List Step
steps_fed x = step_of (Piece x.0) false ∷ map (step_of Turn) x.1

-- a user's session opens, and each piece is given with its turns after it
abbrev pub steps_of : List ℕ → List Fed → List Step
steps_of user pieces = step_of (Open (Some user)) false ∷ flat_map steps_fed pieces

-- the world whose only session that is, at seat 0
abbrev pub world_of_one : Scene → World
world_of_one s =
    record {
      machine = s.machine;
      places = Some (record { talk = s.talk; out = s.out }) ∷ [];
      users = [];
      host = codes "localhost";
    }

-- What is written for pieces is what a world's only session says.
abbrev pub PipeRuns : Type 0
PipeRuns = (user : List ℕ) (pieces : List Fed) → AreAnswered [] pieces (after_enter user) →
    world_after (steps_of user pieces) (new_world without_administrators [] (codes "localhost"))
    ≡ world_of_one (fed_all [] pieces (after_enter user))
