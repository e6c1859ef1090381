-- Words of the contracts: what is said by a tag that is lent, and what a session takes of a piece.
use Rattle.std.specs.Prelude.{ℕ, ℤ, ◌-◌, List, ◌++◌, length, take, min, Option, Result, Vec}
use Rattle.std.specs.Borrow.{Bor}
use Rattle.std.specs.declared.alloc.Global.{Global}
use Rattle.acap_lexer.specs.Holding.{held_limit}
use Rattle.acap_lexer.specs.Token.{Token}
use Rattle.acap_lexer.specs.declared.kind.Kind.{Kind}
use Rattle.acap_lexer.specs.declared.lexed.Lexed.{Lexed}
use Rattle.acap_login.specs.Login.{User}
use Rattle.std.specs.declared.alloc.AllocError.{AllocError as Memory}
use Rattle.acap_commands.specs.declared.command.Command.{Command}
use Rattle.acap_grammar.specs.Lent.{lent_tag}
use Rattle.acap_dialogue.specs.Hearing.{answer_line, answer_token, asks, login_or_refusal, response_to}
use Rattle.acap_dialogue.specs.Hearing.{heard_answer, heard_command, logs_in, who}
use Rattle.acap_dialogue.specs.Listening.{Listening}
use Rattle.acap_dialogue.specs.Saying.{Hears}
use Rattle.acap_dialogue.specs.Session.{listening}
use Rattle.acap_dialogue.specs.Talking.{Talking}
use Rattle.acap_dialogue.specs.declared.next.Heard.{Heard}
use Rattle.acap_dialogue.specs.declared.next.Next.{Next}
use Rattle.acap_dialogue.specs.declared.stage.Stage.{Stage}

abbrev pub asks_by : Listening → Option (Bor (List ℕ)) → Command → Next × Stage
asks_by l tag command = asks l.user (lent_tag tag) command

abbrev pub command_by : Listening → Option (Bor (List ℕ)) → Command → Next × Stage
command_by l tag command = heard_command l (lent_tag tag) command

-- what a call makes of a session's stage where a mechanism is named, and of the answer to a challenge: of its
-- string, its one token, its line, and of what the lexer answers
abbrev pub HearsLogin : Listening → Option (Bor (List ℕ)) → List ℕ → Result Heard Memory → Stage → Stage
    → Vec ℕ Global → Vec ℕ Global → Type 0
HearsLogin l tag mechanism = Hears (login_or_refusal l (lent_tag tag) mechanism)

abbrev pub HearsString : List User → Option (List ℕ) → List ℕ → List ℕ → Result Heard Memory → Stage → Stage
    → Vec ℕ Global → Vec ℕ Global → Type 0
HearsString users tag challenge answer = Hears (logs_in tag (who users challenge answer))

abbrev pub HearsOne : List User → Option (List ℕ) → List ℕ → Kind → List ℕ → Result Heard Memory → Stage
    → Stage → Vec ℕ Global → Vec ℕ Global → Type 0
HearsOne users tag challenge kind text = Hears (answer_token users tag challenge kind text)

abbrev pub HearsLine : List User → Option (List ℕ) → List ℕ → List Token → Result Heard Memory → Stage → Stage
    → Vec ℕ Global → Vec ℕ Global → Type 0
HearsLine users tag challenge tokens = Hears (answer_line users tag challenge tokens)

abbrev pub HearsAnswer : List User → Option (List ℕ) → List ℕ → Lexed → Result Heard Memory → Stage → Stage
    → Vec ℕ Global → Vec ℕ Global → Type 0
HearsAnswer users tag challenge lexed = Hears (heard_answer users tag challenge lexed)

abbrev pub heard_by : Talking → ℕ → ℤ → Lexed → Next × Stage
heard_by t nonce clock lexed = response_to (listening t nonce clock) lexed

-- what a call makes of a session's stage
abbrev pub HearsOf : Next × Stage → Result Heard Memory → Talking → Talking → Vec ℕ Global → Vec ℕ Global
    → Type 0
HearsOf turn result before after out written = Hears turn result before.stage after.stage out written

-- how many octets a session has room for, how many of a piece it takes, and the session with those
abbrev pub room_in : Talking → ℕ
room_in t = held_limit - length t.held.text

abbrev pub room_for : Talking → List ℕ → ℕ
room_for t piece = min (length piece) (room_in t)

abbrev pub with_front : Talking → ℕ → List ℕ → Talking
with_front t n piece = record t { held = record t.held { text = t.held.text ++ take n piece } }
