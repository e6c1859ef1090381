-- Lines of scripts, and what they say.
use Rattle.std.specs.Prelude.{◌≡◌, pos, [], ◌∷◌, codes, Some, None}
use Rattle.acap_script.specs.Lines.{line_of}
use Rattle.acap_script.specs.declared.script_line.ScriptLine.TheVariants as line
use Rattle.acap_script.specs.declared.seat_line.SeatLine.TheVariants as act

pub record LineExamples : Type 0 where
  -- what says nothing
  pub nothing : line_of [] ≡ Some line.Pass
  pub remark : line_of (codes "# user joe x") ≡ Some line.Pass
  -- what sets something; the rest of a line may have spaces, and may be empty
  pub user : line_of (codes "user joe a b") ≡ Some (line.User (codes "joe") (codes "a b"))
  pub no_secret : line_of (codes "user joe ") ≡ Some (line.User (codes "joe") [])
  pub admin : line_of (codes "admin root") ≡ Some (line.Admin (codes "root"))
  pub group : line_of (codes "group staff joe") ≡ Some (line.Group (codes "staff") (codes "joe"))
  pub host : line_of (codes "host a.b c") ≡ Some (line.Host (codes "a.b c"))
  pub clock : line_of (codes "clock 007") ≡ Some (line.Clock (pos 7))
  pub last_moment : line_of (codes "clock 253402300799999999") ≡ Some (line.Clock (pos 253402300799999999))
  pub nonce : line_of (codes "nonce 18446744073709551615") ≡ Some (line.Nonce 18446744073709551615)
  -- what is done at a seat
  pub opened : line_of (codes "open 63") ≡ Some (line.At 63 act.Open)
  pub entered : line_of (codes "enter 1 joe") ≡ Some (line.At 1 (act.Enter (codes "joe")))
  pub sent : line_of (codes "send 1 a NOOP ") ≡ Some (line.At 1 (act.Send (codes "a NOOP ")))
  pub nothing_sent : line_of (codes "send 1 ") ≡ Some (line.At 1 (act.Send []))
  pub raw : line_of (codes "raw 2 0dFF") ≡ Some (line.At 2 (act.Raw (13 ∷ 255 ∷ [])))
  pub piece : line_of (codes "piece 2 ") ≡ Some (line.At 2 (act.Piece []))
  pub turned : line_of (codes "turn 0") ≡ Some (line.At 0 act.Turn)
  pub drained : line_of (codes "drain 0") ≡ Some (line.At 0 act.Drain)
  pub left : line_of (codes "leave 0") ≡ Some (line.At 0 act.Leave)
  -- what is none
  pub no_space : line_of (codes "host") ≡ None
  pub unknown : line_of (codes "begin 1") ≡ None
  pub upper_case : line_of (codes "Open 1") ≡ None
  pub two_spaces : line_of (codes "turn  1") ≡ None
  pub no_digits : line_of (codes "turn ") ≡ None
  pub behind_digits : line_of (codes "turn 1 ") ≡ None
  pub signed : line_of (codes "clock -1") ≡ None
  pub seat_64 : line_of (codes "open 64") ≡ None
  pub past_the_last_moment : line_of (codes "clock 253402300800000000") ≡ None
  pub past_the_last_nonce : line_of (codes "nonce 18446744073709551616") ≡ None
  pub no_name : line_of (codes "admin ") ≡ None
  pub group_as_user : line_of (codes "enter 1 group:x") ≡ None
  pub odd_digits : line_of (codes "raw 1 0d0") ≡ None
