-- How what is next is said by functions that are lent a vector:
-- its octets are added to it, and all else is told apart.
use Rattle.std.specs.Prelude.{◌≡◌, ℕ, Vec, List, ◌++◌, Result, Ok, Err}
use Rattle.std.specs.declared.alloc.Global.{Global}
use Rattle.std.specs.declared.alloc.AllocError.{AllocError as Memory}
use Rattle.acap_dialogue.specs.declared.next.Heard.{Heard}
use Rattle.acap_dialogue.specs.declared.next.Heard.TheVariants as heard
use Rattle.acap_dialogue.specs.declared.next.Next.{Next}
use Rattle.acap_dialogue.specs.declared.next.Next.TheVariants as next
use Rattle.acap_dialogue.specs.declared.stage.Stage.{Stage}
use Rattle.acap_dialogue.specs.declared.stage.Stage.TheVariants as stage
use Rattle.acap_dialogue.specs.Talking.{Talking}

-- octets with those after them that are said
abbrev pub with_said : List ℕ → Next → List ℕ
with_said out next.More = out
with_said out (next.Say octets) = out ++ octets
with_said out (next.Ask event) = out
with_said out (next.Close octets) = out ++ octets

abbrev pub heard_of : Next → Heard
heard_of next.More = heard.More
heard_of (next.Say octets) = heard.Said
heard_of (next.Ask event) = heard.Asks event
heard_of (next.Close octets) = heard.Closes

-- the same as one, the octets being those that are said
abbrev pub next_of : Heard → List ℕ → Next
next_of heard.More octets = next.More
next_of heard.Said octets = next.Say octets
next_of (heard.Asks event) octets = next.Ask event
next_of heard.Closes octets = next.Close octets

-- ---- words of the contracts

-- What a call makes of a stage and of the octets to be written: what
-- is next is said, and where memory was refused both are as before.
abbrev pub Hears : Next × Stage → Result Heard Memory → Stage → Stage → Vec ℕ Global → Vec ℕ Global → Type 0
Hears turn (Ok told) before after out written =
    (told ≡ heard_of turn.0) × (after ≡ turn.1) × (written.items ≡ with_said out.items turn.0)
Hears turn (Err memory) before after out written = (after ≡ before) × (written.items ≡ out.items)

-- the same host's session, of the same user
abbrev pub KeepsUser : Talking → Talking → Type 0
KeepsUser before after = (after.host ≡ before.host) × (after.user ≡ before.user)

-- What a call makes of a session: where memory was refused
-- it is closed without a word, and has the user that it had.
abbrev pub Makes : Next × Talking → Result Heard Memory → Talking → Talking → Vec ℕ Global → Vec ℕ Global
    → Type 0
Makes turn (Ok told) before after out written =
    (told ≡ heard_of turn.0) × (after ≡ turn.1) × (written.items ≡ with_said out.items turn.0)
Makes turn (Err memory) before after out written =
    (after.stage ≡ stage.Closed) × (written.items ≡ out.items) × KeepsUser before after

-- memory was refused: the session is closed, and has the user that it had
abbrev pub IsCutOff : Talking → Talking → Type 0
IsCutOff before after = (after.stage ≡ stage.Closed) × KeepsUser before after

-- where nothing is next
abbrev pub IfMore : Next → Type 0 → Type 0
IfMore next.More P = P
IfMore (next.Say octets) P = Unit {0}
IfMore (next.Ask event) P = Unit {0}
IfMore (next.Close octets) P = Unit {0}
