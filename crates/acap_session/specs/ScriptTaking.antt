-- The lines of a script are a run of a world in which what was said is taken after each step at a seat.
use Rattle.std.specs.Prelude.{◌≡◌, List, [], ◌∷◌, ◌++◌, ℕ}
use Rattle.acap_session.specs.Script.{AreDone, begins, world_of}
use Rattle.acap_session.specs.ScriptOutput.{Shows}
use Rattle.acap_session.specs.Setup.{Setup}
use Rattle.acap_session.specs.Taking.{Act, Makes, Takes, acted, said_at, world_acted}
use Rattle.acap_session.specs.World.{World, output_taken}
use Rattle.acap_session.specs.declared.script.Script.{Script}
use Rattle.acap_session.specs.declared.script.ScriptStage.{ScriptStage}
use Rattle.acap_session.specs.declared.script.ScriptStage.TheVariants as standing

-- what is taken in a run is written, each time as a script shows it
abbrev pub ShowsTaken : List Act → World → List ℕ → Type 0
ShowsTaken [] w written = written ≡ []
ShowsTaken (Makes x ∷ acts) w written = ShowsTaken acts (acted (Makes x) w) written
ShowsTaken (Takes seat ∷ acts) w written = (first : List ℕ) × (later : List ℕ) × (written ≡ first ++ later)
    × Shows seat (said_at w seat) first × ShowsTaken acts (output_taken w seat) later

-- a world comes of a run of the new world for which that was set, and so does what is written
pub record ComesOf (setup : Setup) (written : List ℕ) (w : World) : Type 0 where
  pub acts : List Act
  pub is : w ≡ world_acted acts (world_of (standing.Before setup))
  pub shows : ShowsTaken acts (world_of (standing.Before setup)) written

-- before anything is done at a seat nothing is written; from then on such a run goes on
abbrev pub IsOfRun : List ℕ → ScriptStage → Type 0
IsOfRun written (standing.Before setup) = written ≡ []
IsOfRun written (standing.Since w) = (setup : Setup) × ComesOf setup written w

-- a script, as far as it was done
pub record IsReached (s : Script) : Type 0 where
  pub written : List ℕ
  pub run : IsOfRun written s.standing

abbrev pub ScriptRuns : Type 0
ScriptRuns = (lines : List (List ℕ)) (written : List ℕ) (last : Script) →
    AreDone lines begins written last → IsOfRun written last.standing
