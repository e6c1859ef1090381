-- What comes of what a session hears, where its octets wait to be written as a list.
use Rattle.std.specs.Prelude.{◌≡◌, ℕ, List, Result, Ok, Err, true, false}
use Rattle.std.specs.declared.alloc.AllocError.{AllocError as Memory}
use Rattle.acap_dialogue.specs.Running.{closes}
use Rattle.acap_dialogue.specs.Saying.{with_said, heard_of}
use Rattle.acap_dialogue.specs.Session.{is_asked}
use Rattle.acap_dialogue.specs.Talking.{Talking}
use Rattle.acap_dialogue.specs.declared.next.Heard.{Heard}
use Rattle.acap_dialogue.specs.declared.next.Heard.TheVariants as heard
use Rattle.acap_dialogue.specs.declared.next.Next.{Next}

-- what is next is reported, and its octets wait to be written; where memory was refused they are as before
abbrev pub HearsAll : Next × Talking → Result Heard Memory → Talking → List ℕ → List ℕ → Type 0
HearsAll x (Ok h) after old new = (h ≡ heard_of x.0) × (after ≡ x.1) × (new ≡ with_said old x.0)
HearsAll x (Err memory) after old new = new ≡ old

-- after an event is asked its answer is awaited
abbrev pub AwaitsBy : Heard → Talking → Type 0
AwaitsBy (heard.Asks event) t = is_asked t.stage ≡ true
AwaitsBy other t = Unit {0}

-- the session goes on
abbrev pub GoesOn : Next × Talking → Type 0
GoesOn x = closes x.0 ≡ false
