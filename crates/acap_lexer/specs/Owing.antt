-- What is answered, and what is still owed, whatever octets come after those that are held.
use Rattle.std.specs.Prelude.{◌≡◌, ℕ, ◌<◌, List, [], ◌∷◌, ◌++◌, length, None, Result, IfOk, flat_map}
use Rattle.std.specs.Borrow.{Bor}
use Rattle.acap_lexer.specs.declared.outcomes.Answered.{Answered}
use Rattle.acap_lexer.specs.declared.outcomes.Answered.TheVariants as asked
use Rattle.acap_lexer.specs.declared.lexed.Lexed.{Lexed}
use Rattle.acap_lexer.specs.declared.lexed.Lexed.TheVariants.{Fatal}
use Rattle.acap_lexer.specs.declared.lexed.Mode.{Mode}
use Rattle.acap_lexer.specs.Holding.{Held, held_limit}
use Rattle.acap_lexer.specs.Held.{answers_from}

abbrev pub how_whole : Lexed → Answered
how_whole (Fatal fault) = asked.Closed
how_whole _ = asked.Whole

-- the same with more octets after it
abbrev pub with_more : Held → List ℕ → Held
with_more h more = record { text = h.text ++ more; told = h.told; fatal = h.fatal }

-- what was said and is owed of the old modes and octets is what is said and owed of the new
abbrev pub Owes : List Mode → Held → List Lexed → List Mode → Held → List Lexed → Type 0
Owes before old said after new now =
    (more : List ℕ) → said ++ answers_from before (with_more old more)
    ≡ now ++ answers_from after (with_more new more)

-- a command was asked for in this mode, before others in these modes
abbrev pub AsksFor : Mode → Held → List Lexed → Held → List Lexed → Answered → Type 0
AsksFor mode old said new now asked.NotYet =
    ((modes : List Mode) → Owes (mode ∷ modes) old said (mode ∷ modes) new now) × (new.fatal ≡ None)
    × (length new.text < held_limit)
    × ((modes : List Mode) → answers_from (mode ∷ modes) new ≡ [])
AsksFor mode old said new now asked.Whole =
    ((modes : List Mode) → Owes (mode ∷ modes) old said modes new now) × (new.fatal ≡ None)
AsksFor mode old said new now asked.Closed = (modes : List Mode) → Owes (mode ∷ modes) old said [] new now

-- all that can be answered was asked for, and where commands
-- are left to be asked for there is room for more octets
pub record IsReady (modes : List Mode) (h : Held) : Type 0 where
  pub going : 0 < length modes → h.fatal ≡ None
  pub room : 0 < length modes → length h.text < held_limit
  pub done : answers_from modes h ≡ []

-- all commands that are whole were asked for
pub record AsksAll (before : List Mode) (old : Held) (said : List Lexed) (after : List Mode) (new : Held)
    (now : List Lexed) : Type 0 where
  pub owes : Owes before old said after new now
  pub ready : IsReady after new

-- the same of the modes that a function returned, unless memory was refused
abbrev pub LeavesAsked : {E : Type 0} → List Mode → Held → List Lexed → Result (Bor (List Mode)) E → Held
    → List Lexed → Type 0
LeavesAsked before old said result new now = IfOk result (λ after. AsksAll before old said after.now new now)

-- a piece was taken, and all commands that are whole then were asked for
pub record Feeds (piece : List ℕ) (before : List Mode) (old : Held) (said : List Lexed) (after : List Mode)
    (new : Held) (now : List Lexed) : Type 0 where
  pub owes : (more : List ℕ) → said ++ answers_from before (with_more old (piece ++ more))
      ≡ now ++ answers_from after (with_more new more)
  pub ready : IsReady after new

abbrev pub LeavesFed : {E : Type 0} → List ℕ → List Mode → Held → List Lexed → Result (Bor (List Mode)) E
    → Held → List Lexed → Type 0
LeavesFed piece before old said result new now =
    IfOk result (λ after. Feeds piece before old said after.now new now)

-- the octets of pieces
abbrev pub octets_of : List (Bor (List ℕ)) → List ℕ
octets_of pieces = flat_map (λ piece. piece.now) pieces
