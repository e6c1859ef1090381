-- How sessions are dealt out to workers. A worker's load is the sessions that it runs.
use Rattle.std.specs.Prelude.{List, [], ◌∷◌, ◌++◌, Option, map}
use Rattle.std.specs.declared.vec.Vec.{Vec}
use Rattle.acap_serving.specs.Ends.{Whose}

-- whose the sessions of each load are
abbrev pub owners : {T A : Type 0} → (T → Option Whose) → List (Vec T A) → List (List (Option Whose))
owners whose loads = map (λ load. map whose load.items) loads

-- the load whose turn it is, which stands first, is given one more, and is the last then
abbrev pub turned : {K : Type 0} → List (List K) → K → List (List K)
turned [] k = []
turned (load ∷ loads) k = loads ++ (load ++ k ∷ []) ∷ []

-- loads to which these were dealt one by one, the last of them first
abbrev pub dealt : {K : Type 0} → List (List K) → List K → List (List K)
dealt loads [] = loads
dealt loads (k ∷ ks) = turned (dealt loads ks) k
