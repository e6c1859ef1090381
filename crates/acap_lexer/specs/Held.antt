-- What a lexer stands for, what is taken of a piece, and the next answer. [RFC 2244, 2.2 and 2.6.3]
use Rattle.std.specs.Prelude.{ℕ, ◌+◌, ◌-◌, List, [], ◌∷◌, ◌++◌, drop, Option, Some, None, nat_lt}
use Rattle.std.specs.Prelude.{if◌then◌else◌, replicate}
use Rattle.acap_lexer.specs.declared.fault.LexFault.{LexFault}
use Rattle.acap_lexer.specs.declared.lexed.Lexed.{Lexed}
use Rattle.acap_lexer.specs.declared.lexed.Lexed.TheVariants.{More, Plus, Fatal}
use Rattle.acap_lexer.specs.declared.lexed.Mode.{Mode}
use Rattle.acap_lexer.specs.Holding.{Held}
use Rattle.acap_lexer.specs.Stream.{Progress, progress}

-- the fault after which nothing is read
abbrev pub fatal_of : Lexed → Option LexFault
fatal_of (Fatal fault) = Some fault
fatal_of _ = None

-- what is held after an item that takes `x.1` octets
abbrev pub held_behind : Lexed × ℕ → List ℕ → Held
held_behind x text = record { text = drop x.1 text; told = 0; fatal = fatal_of x.0 }

abbrev pub next_by_item : Held → Option (Lexed × ℕ) → Lexed × Held
next_by_item h None = (More, h)
next_by_item h (Some x) = (x.0, held_behind x h.text)

abbrev pub next_by : Option LexFault → Held → Progress → Lexed × Held
next_by (Some fault) h p = (Fatal fault, h)
next_by None h p =
    if nat_lt h.told p.waits then (Plus, record { text = h.text; told = h.told + 1; fatal = None })
    else next_by_item h p.item

-- The next answer, and what is held then: a Fatal ever after; else
-- each continuation that is due, and then the item; else More.
unfoldable pub next_of : Mode → Held → Lexed × Held
next_of mode h = next_by h.fatal h (progress mode h.text)

abbrev pub answers_by_item : (Held → List Lexed) → Held → Option (Lexed × ℕ) → List Lexed
answers_by_item others h None = []
answers_by_item others h (Some x) = x.0 ∷ others (held_behind x h.text)

abbrev pub answers_by : Option LexFault → (Held → List Lexed) → Held → Progress → List Lexed
answers_by (Some fault) others h p = []
answers_by None others h p = replicate (p.waits - h.told) Plus ++ answers_by_item others h p.item

-- what is still answered of what is held, where the commands are asked for in these modes
unfoldable pub answers_from : List Mode → Held → List Lexed
answers_from [] h = []
answers_from (mode ∷ modes) h = answers_by h.fatal (answers_from modes) h (progress mode h.text)

-- The answers of a stream whose commands are asked for in these modes: of each in turn its continuations and
-- its item, up to a Fatal, and of the last, which may not be whole, the continuations that are due.
abbrev pub answers_of : List Mode → List ℕ → List Lexed
answers_of modes text = answers_from modes (record { text = text; told = 0; fatal = None })
