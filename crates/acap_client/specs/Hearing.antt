-- What an octet more comes to.
use Rattle.std.specs.Prelude.{◌≡◌, ℕ, ◌<◌, ◌≤◌, Bool, true, false, List, [], ◌∷◌, length}
use Rattle.acap_grammar.specs.Lines.{Datum, line_of}
use Rattle.acap_grammar.specs.Listening.{Client}
use Rattle.acap_grammar.specs.Listening as client
use Rattle.acap_client.specs.Data.{data_of}
use Rattle.acap_client.specs.Drafting.{IsDraft, client_of}
use Rattle.acap_client.specs.declared.draft.Draft.{Draft}
use Rattle.acap_client.specs.declared.due.Step.{Step}
use Rattle.acap_client.specs.declared.due.Step.TheVariants as step

-- the literal that is announced, if one is, is no longer than this
abbrev pub Fits : ℕ → client.Place → Type 0
Fits room (client.Marked count) = count ≤ room
Fits room _ = Unit {0}

-- and it is longer than this
abbrev pub Exceeds : ℕ → client.Place → Type 0
Exceeds room (client.Marked count) = room < count
Exceeds room _ = ⊥

-- the line goes on, and the draft is what was heard of it
pub record GoesOn (room : ℕ) (now : Client) (new : Draft) : Type 0 where
  pub same : now ≡ client_of new
  pub fits : Fits room now.place
  pub draft : IsDraft new

-- the line is whole, and has these tokens
pub record IsWhole (now : Client) (new : Draft) : Type 0 where
  pub said : now.lines ≡ line_of (data_of new.tokens.items) ∷ []

pub record IsLost (now : Client) : Type 0 where
  pub none : now.lines ≡ []
  pub place : now.place ≡ client.Lost

pub record IsTooLong (room : ℕ) (now : Client) : Type 0 where
  pub none : now.lines ≡ []
  pub place : Exceeds room now.place

-- what a client has come to, and a draft after the same octet, where `room` octets may follow
abbrev pub Comes : ℕ → Client → Draft → Step → Type 0
Comes room now new step.Goes = GoesOn room now new
Comes room now new step.Ends = IsWhole now new
Comes room now new step.Lost = IsLost now
Comes room now new step.TooLong = IsTooLong room now

-- the same, however many octets may follow
abbrev pub ComesTo : Client → Draft → Step → Type 0
ComesTo now new step = (room : ℕ) → Comes room now new step

-- whether no datum stands there
abbrev pub IsEmpty : Bool → List Datum → Type 0
IsEmpty true inner = inner ≡ []
IsEmpty false inner = 0 < length inner
