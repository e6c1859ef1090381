-- How far a session has come.
use Rattle.std.specs.Prelude.{◌≡◌, ℕ, ◌+◌, ◌≤◌, ◌<◌, List, [], ◌∷◌, Bool, true, false, vec_len, vec_capacity}
use Rattle.std.specs.Prelude.{if◌then◌else◌, ◌==◌}
use Rattle.acap_dialogue.specs.Talking.{Talking}
use Rattle.acap_task.specs.declared.progress.SessionProgress.{SessionProgress}
use Rattle.acap_task.specs.declared.progress.Step.{Step}
use Rattle.acap_task.specs.declared.progress.Step.TheVariants as step

-- the session, its steps, the octets that it said and that wait to be written, whether memory was refused,
-- and whether its user's Enter stands
pub record Progress : Type 0 where
  pub talk : Talking
  pub steps : List Step
  pub unsent : List ℕ
  pub lost : Bool
  pub seated : Bool

abbrev pub progress : SessionProgress → Progress
progress p =
    record { talk = p.session; steps = p.steps.items; unsent = p.unsent; lost = p.lost; seated = p.seated }

-- a session of which nothing has been done yet
abbrev pub no_progress : Talking → Bool → Progress
no_progress talk lost = record { talk = talk; steps = []; unsent = []; lost = lost; seated = false }

-- ---- room for steps

-- there is room for a Leave, where the seat may have to be left
abbrev pub HasRoomToLeave : SessionProgress → Type 0
HasRoomToLeave p = p.seated ≡ true → vec_len p.steps < vec_capacity p.steps

-- there is room for a step, and for a Leave after it
abbrev pub HasRoom : SessionProgress → Type 0
HasRoom p = vec_len p.steps + 2 ≤ vec_capacity p.steps

-- ---- how much was done

-- each turn, each drain, and each piece that isn't empty
abbrev pub done_in : Step → ℕ
done_in (step.Piece n) = if n == 0 then 0 else 1
done_in (step.Leave clock left) = 0
done_in other = 1

abbrev pub done : List Step → ℕ
done [] = 0
done (x ∷ xs) = done_in x + done xs
