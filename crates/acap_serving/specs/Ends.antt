-- Whose sessions are.
use Rattle.std.specs.Prelude.{ℕ, List, [], ◌∷◌, Option, Some, None}
use denote.Ref.{Bor}
use Rattle.acap_login.specs.Login.{User}
use Rattle.acap_task.specs.declared.conn.SessionParams.{SessionParams}

-- whom a session is between, and the number of its seat
abbrev pub Whose : Type 0
Whose = SessionParams × ℕ

-- by its end, or else by the session that runs
abbrev pub whose_of : Option Whose → Option Whose → Option Whose
whose_of None running = running
whose_of (Some ended) running = Some ended

-- a session of that user, if it is anybody's from the start
abbrev pub between : Bor (List User) → List ℕ → Option (List ℕ) → SessionParams
between users host user = record { users = users; host = host; user = user }

-- whose the sessions of these users are, at these seats
abbrev pub seated : (Option (List ℕ) → SessionParams) → List (Option (List ℕ)) → List ℕ → List Whose
seated of [] seats = []
seated of (user ∷ users) [] = []
seated of (user ∷ users) (seat ∷ seats) = (of user, seat) ∷ seated of users seats
