-- The type of the occasion of a step, by one that there is.
use Rattle.acap_session.specs.Piping.{always}

abbrev type_of : {A : Type 0} → A → Type 0
type_of {A} x = A

abbrev pub Occasion : Type 0
Occasion = type_of always
