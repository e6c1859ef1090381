-- A client that sends commands before it has read all replies to those before them [RFC 2244 section 2.2].
use Rattle.std.specs.Prelude.{◌≡◌, ℕ, ◌==◌, Bool, false, List, [], ◌∷◌, ◌++◌, map, bytes_eq, Option, Some}
use Rattle.std.specs.Prelude.{None, if◌then◌else◌}
use Rattle.acap_commands.specs.declared.command.Command.{Command}
use Rattle.acap_grammar.specs.Lines.{Line, Completion, Entry}
use Rattle.acap_client.specs.Following.{Follower, new, ask, follow, followed_with}
use Rattle.acap_session.specs.World.{Step, World}
use Rattle.acap_wire.specs.Seat.{after_step, follower_in, lines_in, said_in, sent_in, with_more}

-- what a client does: it sends a command under a tag, or reads a line
pub data Act : Type 0 where
  Sends : List ℕ → Command → Act
  Reads : Line → Act

-- what its follower then is, and the contexts of the lines that didn't fit
abbrev pub follow_acts : List Act → Follower → Follower × List (List ℕ)
follow_acts [] f = (f, [])
follow_acts (Sends tag c ∷ acts) f = follow_acts acts (ask tag c f)
follow_acts (Reads line ∷ acts) f = followed_with (follow_acts acts) f (follow f line)

-- a line of the reply to a command under this tag, of those that a follower heeds
abbrev pub is_under : List ℕ → Line → Bool
is_under tag (Entry (Some other) name items) = bytes_eq tag other
is_under tag (Completion (Some other) ending code text) = bytes_eq tag other
is_under tag line = false

-- The first acts are the second, but that commands are sent earlier: each before lines of the replies to
-- other commands. As long as no two commands that wait have one tag, any command may be sent so.
pub data IsAhead : List Act → List Act → Type 0 where
  Same : (acts : List Act) → IsAhead acts acts
  Sooner : (before after others : List Act) (tag : List ℕ) (c : Command) (line : Line)
      → is_under tag line ≡ false
      → IsAhead (before ++ Reads line ∷ Sends tag c ∷ after) others
      → IsAhead (before ++ Sends tag c ∷ Reads line ∷ after) others

-- ---- what the client of a seat does, that sends each command after it has read the reply to the one before

abbrev pub sends : Option (List ℕ × Command) → List Act
sends None = []
sends (Some sent) = Sends sent.0 sent.1 ∷ []

abbrev pub acts_of : World → Step → List Act
acts_of w x = sends (sent_in w x) ++ map Reads (lines_in (said_in w x))

-- after a list of steps, of the present session
abbrev pub acts_in : ℕ → List Step → World → List Act → List Act
acts_in seat [] w acts = acts
acts_in seat (x ∷ xs) w acts =
    let more = with_more w x acts (acts_of w x) in
    acts_in seat xs (after_step w x) (if x.occasion.seat == seat then more else acts)

-- However far ahead a client sends its commands, its follower is
-- the same: after all steps of a seat it is that of the seat.
pub record AheadLaw : Type 0 where
  pub same : (acts others : List Act) (f : Follower) → IsAhead acts others
      → follow_acts acts f ≡ follow_acts others f
  pub run : (seat : ℕ) (steps : List Step) (w : World) (acts : List Act)
      → IsAhead acts (acts_in seat steps w []) → (follow_acts acts new).0 ≡ follower_in seat steps w new
