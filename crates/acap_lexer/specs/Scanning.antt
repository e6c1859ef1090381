-- How far a scan has read a command.
use Rattle.std.specs.Prelude.{◌≡◌, ℕ, ◌+◌, ◌-◌, ◌<◌, ◌≤◌, List, ◌++◌, length, drop, Option, Some, None}
use Rattle.std.specs.Prelude.{is_some, Result, IfOk, if◌then◌else◌}
use Rattle.acap_lexer.specs.declared.found.Announced.{Announced}
use Rattle.acap_lexer.specs.declared.outcomes.Due.{Due}
use Rattle.acap_lexer.specs.declared.outcomes.Due.TheVariants as dues
use Rattle.acap_lexer.specs.declared.lexed.Mode.{Mode}
use Rattle.acap_lexer.specs.declared.scan.Literal.{Literal}
use Rattle.acap_lexer.specs.declared.scan.Scan.{Scan}
use Rattle.acap_lexer.specs.declared.outcomes.StageOutcome.{StageOutcome}
use Rattle.acap_lexer.specs.declared.outcomes.StageOutcome.TheVariants as outcomes
use Rattle.acap_lexer.specs.Ends.{NoEnd}
use Rattle.acap_lexer.specs.Stream.{Front, step_by_mark, step_of_part, step_of, Stage, AtPart, InLiteral}
use Rattle.acap_lexer.specs.Stream.{Step, Waits, Ends, Goes, progress, progress_from, waiting}

abbrev pub front_of : Scan → Front
front_of scan = record { tokens = scan.draft.tokens; octets = scan.octets }

abbrev pub stage_by : Option Literal → Front → Stage
stage_by None front = AtPart front
stage_by (Some literal) front = InLiteral literal.start literal.count front

abbrev pub stage_of : Scan → Stage
stage_of scan = stage_by scan.literal (front_of scan)

-- what the scan keeps beside its stage is true of the text
pub record IsSound (text : List ℕ) (scan : Scan) : Type 0 where
  pub within : scan.octets ≤ length text
  pub looked : scan.octets + scan.looked ≤ length text
  pub none : NoEnd (drop scan.octets text) scan.looked
  pub waits : scan.waits ≤ scan.octets

-- the scan has gone on by a step
pub record GoesOn (step : Step) (old new : Scan) : Type 0 where
  pub plus : ℕ
  pub step_is : step ≡ Goes plus (stage_of new)
  pub waits : new.waits ≡ old.waits + plus
  pub mode : new.mode ≡ old.mode

-- the scan stays where it is
pub record Stays (step : Step) (old new : Scan) : Type 0 where
  pub step_is : step ≡ Waits
  pub stage : stage_of new ≡ stage_of old
  pub waits : new.waits ≡ old.waits
  pub mode : new.mode ≡ old.mode

-- a turn of a scan does what comes of its stage
abbrev pub Turns : Step → Scan → Scan → StageOutcome → Type 0
Turns step old new outcomes.Waits = Stays step old new
Turns step old new (outcomes.Ends lexed n) = step ≡ Ends lexed n
Turns step old new outcomes.Goes = GoesOn step old new

-- a turn at the end of a part that ends in the mark of a literal
abbrev pub TurnsAtMark : ℕ → ℕ → Announced → Scan → Scan → StageOutcome → Type 0
TurnsAtMark end start announced old new turn =
    Turns (step_by_mark end old.draft.tokens (Some (start, announced))) old new turn

-- a turn at a whole part, unless memory was refused
abbrev pub ReadsWhole : {E : Type 0} → List ℕ → Scan → Scan → Result StageOutcome E → Type 0
ReadsWhole part old new result =
    IfOk result (λ turn. Turns (step_of_part old.mode (front_of old) part) old new turn)

-- a turn at what comes of the stage, unless memory was refused
abbrev pub Steps : {E : Type 0} → List ℕ → Scan → Scan → Result StageOutcome E → Type 0
Steps text old new result = IfOk result (λ turn. Turns (step_of old.mode (stage_of old) text) old new turn)

-- the scan is at the octets of a literal that begin there, or an item ends there
pub record Opens (place : ℕ) (scan : Scan) : Type 0 where
  pub octets : scan.octets ≡ place
  pub looked : scan.looked ≡ 0
  pub waits : scan.waits ≤ place

abbrev pub OpensOn : ℕ → Scan → StageOutcome → Type 0
OpensOn place scan outcomes.Waits = ⊥
OpensOn place scan (outcomes.Ends lexed n) = n ≡ place
OpensOn place scan outcomes.Goes = Opens place scan

-- so that the next turn may be made
abbrev pub StaysSound : List ℕ → Scan → StageOutcome → Type 0
StaysSound text scan outcomes.Waits = IsSound text scan
StaysSound text scan (outcomes.Ends lexed n) = Unit {0}
StaysSound text scan outcomes.Goes = IsSound text scan

-- how many turns are left at the most
abbrev pub turns_left : List ℕ → Scan → ℕ
turns_left text scan = (length text - scan.octets) + (if is_some scan.literal then 1 else 0)

abbrev pub IsNearer : List ℕ → Scan → Scan → StageOutcome → Type 0
IsNearer text old new outcomes.Waits = Unit {0}
IsNearer text old new (outcomes.Ends lexed n) = (0 < n) × (n ≤ length text)
IsNearer text old new outcomes.Goes = turns_left text new < turns_left text old

-- the scan has gone through stages of the command that begins the text, however that goes on
abbrev pub Reaches : List ℕ → Scan → Type 0
Reaches text scan = (more : List ℕ) → progress scan.mode (text ++ more)
    ≡ waiting scan.waits (progress_from scan.mode (stage_of scan) (text ++ more))

-- what is due next, after `told` continuations were sent
abbrev pub IsDue : Mode → ℕ → List ℕ → Due → Type 0
IsDue mode told text dues.Plus = told < (progress mode text).waits
IsDue mode told text dues.More = ((progress mode text).waits ≤ told) × ((progress mode text).item ≡ None)
IsDue mode told text (dues.Item lexed n) =
    ((progress mode text).waits ≤ told) × ((progress mode text).item ≡ Some (lexed, n))

-- what a scan keeps while a command isn't whole
abbrev pub KeepsScan : List ℕ → Mode → Scan → Due → Type 0
KeepsScan text mode scan dues.Plus = IsSound text scan × Reaches text scan × (scan.mode ≡ mode)
KeepsScan text mode scan dues.More = IsSound text scan × Reaches text scan × (scan.mode ≡ mode)
KeepsScan text mode scan (dues.Item lexed n) = Unit {0}

-- what is due is no more than the text has
abbrev pub FitsIn : ℕ → List ℕ → Due → Type 0
FitsIn told text dues.Plus = told < length text
FitsIn told text dues.More = Unit {0}
FitsIn told text (dues.Item lexed n) = n ≤ length text
