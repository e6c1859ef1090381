-- What one event makes of a machine: a reply and the machine afterwards, or a fault and nothing else
-- [RFC 2244 sections 2, 3.3 and 6].
use Rattle.std.specs.Prelude.{◌≡◌, ⊤, ℕ, ℤ, List, Option, None, Some, Result, Ok, Err}
use Rattle.std.specs.Option.{option_map_or}
use Rattle.acap_commands.specs.declared.reply.Reply.{Reply}
use Rattle.acap_commands.specs.declared.said.Said.{Said}
use Rattle.acap_commands.specs.declared.said.Said.TheVariants as said
use Rattle.acap_commands.specs.declared.event.Event.{Event}
use Rattle.acap_commands.specs.declared.event.Event.TheVariants as event
use Rattle.acap_commands.specs.declared.event.Fault.{Fault}
use Rattle.acap_commands.specs.declared.event.Fault.TheVariants as fault
use Rattle.acap_machine.specs.Machine.{Machine, user_at}
use Rattle.acap_machine.specs.Serving.{answer_to}
use Rattle.acap_views.specs.Seats.{with_user, without_user}
use Rattle.acap_views.specs.Telling.{drain_of}

-- what is said, without a tag
abbrev pub plain : Said → Reply
plain words = record { tag = None; said = words }

abbrev pub reply_of : Said × Machine → Reply × Machine
reply_of answer = (plain answer.0, answer.1)

-- a user takes a seat that is free, and has no context there
abbrev pub enter_answer : Machine → ℕ → List ℕ → Option (List ℕ) → Result (Reply × Machine) Fault
enter_answer m seat user None = Ok (plain said.Greeting, record m { seats = with_user m.seats seat user })
enter_answer m seat user (Some other) = Err fault.AlreadyEntered

-- all that waits at a seat is sent, and its live contexts show their present lists
abbrev pub drained_at : Machine → ℕ → Reply × Machine
drained_at m seat =
    (plain (said.Drained (drain_of m.seats seat).0), record m { seats = (drain_of m.seats seat).1 })

-- who leaves takes all contexts along
abbrev pub left_at : Machine → ℕ → Reply × Machine
left_at m seat = (plain said.Left, record m { seats = without_user m.seats seat })

-- every other event is a user's who has the seat
abbrev pub by_user : Option (List ℕ) → (List ℕ → Reply × Machine) → Result (Reply × Machine) Fault
by_user user does = option_map_or (λ name. Ok (does name)) user (Err fault.NotEntered)

abbrev pub answer_at : Machine → ℕ → (Machine → List ℕ → Said × Machine) → Result (Reply × Machine) Fault
answer_at m seat does = by_user (user_at m seat) (λ user. reply_of (does m user))

abbrev pub step_of : Machine → ℕ → Event → ℤ → Result (Reply × Machine) Fault
step_of m seat (event.Enter user) clock = enter_answer m seat user (user_at m seat)
step_of m seat (event.Command command) clock =
    answer_at m seat (λ n user. answer_to n seat user command clock)
step_of m seat event.Drain clock = by_user (user_at m seat) (λ user. drained_at m seat)
step_of m seat event.Leave clock = by_user (user_at m seat) (λ user. left_at m seat)

-- a step that was performed
pub record Stepped (old : Machine) (seat : ℕ) (e : Event) (clock : ℤ) (reply : Reply)
    (new : Machine) : Type 0 where
  pub step : step_of old seat e clock ≡ Ok (reply, new)

-- a fault that may be reported of a step: the one that it ends in, or that
-- memory was refused, which the definition of a step doesn't speak of
abbrev pub IsFault : Result (Reply × Machine) Fault → Fault → Type 0
IsFault stepped fault.Memory = ⊤
IsFault stepped fault.NotEntered = stepped ≡ Err fault.NotEntered
IsFault stepped fault.AlreadyEntered = stepped ≡ Err fault.AlreadyEntered
IsFault stepped fault.HistoryFull = ⊥
