-- Examples of what scripts write, of how what a session says is cut, of octets that are offered again, and of
-- octets that come after a close.
use Rattle.std.specs.Prelude.{◌≡◌, ℕ, List, [], ◌∷◌, ◌++◌, replicate, Bool, false, codes, Some, None}
use Rattle.acap_session.specs.Completing.{empty_world, lines_of, opening_step, piece_and_turns, said_there}
use Rattle.acap_session.specs.Piping.{always}
use Rattle.acap_session.specs.Places.{SeatSession}
use Rattle.acap_session.specs.Script.{Hears, left_by}
use Rattle.acap_session.specs.ScriptOutput.{Shows}
use Rattle.acap_session.specs.ScriptWriting.{offered_again, script_writes, wrong_line}
use Rattle.acap_dialogue.specs.Talking.{beginning}
use Rattle.acap_session.specs.World.{World, world_after}

-- two commands come as one piece, and the first one closes the session
abbrev pub parting : List ℕ
parting = codes "A1 LOGOUT\r\nA2 NOOP\r\n"

abbrev pub two_turns : List Bool
two_turns = replicate 2 false

abbrev pub opened : World
opened = world_after (opening_step ∷ []) empty_world

-- a session that holds so much that there is room for 7 octets more
abbrev pub nearly_full : SeatSession
nearly_full = record {
  talk = record (beginning (codes "localhost") None) {
    held = record { text = replicate 270329 120; told = 0; fatal = None };
  };
  out = [];
}

-- and one that holds the beginning of a command
abbrev pub with_beginning : World
with_beginning = world_after (piece_and_turns (codes "A2 NO") 0) opened

-- an empty line and a remark say nothing, and the last line has no LF
abbrev pub two_sessions : List ℕ
two_sessions = codes "# Two sessions\n\nopen 3\nsend 3 A1 LOGOUT\nopen 3\nsend 3 A1 NOOP"

-- how each session is greeted at seat 3
abbrev pub greeted : List ℕ
greeted = codes "3: * ACAP (IMPLEMENTATION \"acapd\") (SASL \"CRAM-MD5\") (CONTEXTLIMIT \"200\")\n"

pub record ScriptExamples : Type 0 where
  -- what is said is cut at each CR LF, and nothing is left after the last one
  pub two : Shows 0 (codes "ab\r\nc\r\n") (codes "0: ab\n0: c\n")
  pub unended : Shows 3 (codes "ab\r\nc") (codes "3: ab\n3: c\n")
  pub empty_part : Shows 63 (codes "\r\n\r\na\r\n") (codes "63: \n63: \n63: a\n")
  pub bare : Shows 0 (codes "a\rb\nc\r\n") (codes "0: a\rb\nc\n")
  pub nothing : Shows 0 [] []
  -- of 11 octets 7 are taken, and 4 are left
  pub room_for_7 : left_by (Some nearly_full) (codes "\r\nA2 NOOP\r\n") ≡ codes "OP\r\n"
  -- these are offered again, with turns after them
  pub again : offered_again 11 always (codes "OP\r\n") with_beginning
      ≡ world_after (piece_and_turns (codes "OP\r\n") 1) with_beginning
  pub again_said : said_there (piece_and_turns (codes "A2 NO") 0 ++ piece_and_turns (codes "OP\r\n") 1)
      ≡ lines_of (codes "A2 OK \"NOOP done\"" ∷ [])
  -- what comes after a close isn't heard, and isn't offered again
  pub closed : Hears (two_turns ∷ []) always parting opened (world_after (piece_and_turns parting 2) opened)
  pub closed_said : said_there (piece_and_turns parting 2)
      ≡ lines_of (codes "* BYE \"Good bye\"" ∷ codes "A1 OK \"LOGOUT done\"" ∷ [])
  -- a session ends and another opens at its seat
  pub sessions : script_writes two_sessions
      ≡ greeted ++ codes "3: * BYE \"Good bye\"\n3: A1 OK \"LOGOUT done\"\n"
      ++ greeted ++ codes "3: A1 OK \"NOOP done\"\n"
  pub none_wrong : wrong_line two_sessions ≡ None
  -- a turn that comes to nothing writes nothing, and neither does a session that leaves
  pub left : script_writes (codes "open 3\nturn 3\nleave 3\nopen 3\n") ≡ greeted ++ greeted
  -- no session is open at seat 4, so that the third line may not stand there, and the fourth isn't done
  pub up_to_there : script_writes (codes "open 3\nsend 3 A1 NOOP\nsend 4 A1 NOOP\nsend 3 A2 NOOP\n")
      ≡ greeted ++ codes "3: A1 OK \"NOOP done\"\n"
  pub third : wrong_line (codes "open 3\nsend 3 A1 NOOP\nsend 4 A1 NOOP\nsend 3 A2 NOOP\n") ≡ Some 3
