-- What a script writes, as a function of the octets that it reads: line by line, where no event is refused
-- memory.
use Rattle.std.specs.Prelude.{◌≡◌, ℕ, zero, suc, ◌+◌, ◌==◌, ◌&&◌, Bool, true, false, List, [], ◌∷◌, ◌++◌}
use Rattle.std.specs.Prelude.{length, replicate, flat_map, slice_index, Option, Some, None, option_map}
use Rattle.std.specs.Prelude.{if◌then◌else◌}
use Rattle.std.specs.Io.KnownBytes.{Appends}
use Rattle.std.specs.List.{list_any}
use Rattle.std.specs.Option.{option_and_then, option_map_or}
use Rattle.acap_grammar.specs.Replies.{crlf}
use Rattle.acap_script.specs.Lines.{line_of}
use Rattle.acap_script.specs.declared.script_line.ScriptLine.{ScriptLine}
use Rattle.acap_script.specs.declared.script_line.ScriptLine.TheVariants as line
use Rattle.acap_script.specs.declared.seat_line.SeatLine.{SeatLine}
use Rattle.acap_script.specs.declared.seat_line.SeatLine.TheVariants as act
use Rattle.acap_dialogue.specs.Session.{session_next}
use Rattle.acap_session.specs.Laws.{told_first}
use Rattle.acap_session.specs.Places.{SeatSession, place_at}
use Rattle.acap_session.specs.Script.{Acts, AreDone, Does, IsQuiet, begins, fits, left_by, turns}
use Rattle.acap_session.specs.Script.{with_administrator, with_host, with_member, with_setup, with_user}
use Rattle.acap_session.specs.Script.{without_nonce, world_of}
use Rattle.acap_session.specs.ScriptOutput.{part_line}
use Rattle.acap_session.specs.ScriptRun.{HasBegun, HasEnded, HasFailed, HasStopped, is_feed, lines_of}
use Rattle.acap_session.specs.ScriptRun.{with_last}
use Rattle.acap_session.specs.Streams.{SendsFront}
use Rattle.acap_session.specs.World as world
use Rattle.acap_session.specs.World.{World, did, open_at, output_taken, said_before}
use Rattle.acap_session.specs.declared.occasion.Occasion.{Occasion}
use Rattle.acap_session.specs.declared.script.Script.{Script}
use Rattle.acap_session.specs.declared.script.ScriptStage.{ScriptStage}
use Rattle.acap_session.specs.declared.script.ScriptStage.TheVariants as standing

-- ---- texts that are cut

-- an octet before the first of some texts
abbrev pub with_octet : ℕ → List (List ℕ) → List (List ℕ)
with_octet c [] = (c ∷ []) ∷ []
with_octet c (text ∷ texts) = (c ∷ text) ∷ texts

-- A text is cut into lines at each LF. What stands after the last LF is a line too, if there is anything.
abbrev pub cut_lines : List ℕ → List (List ℕ)
cut_lines [] = []
cut_lines (c ∷ text) = if is_feed c then [] ∷ cut_lines text else with_octet c (cut_lines text)

-- What a session says is cut into parts at each CR LF. What stands after the last one is a part too, if there
-- is anything. The first argument says whether the LF of a CR LF comes first.
abbrev pub cut_parts : Bool → List ℕ → List (List ℕ)
cut_parts feed [] = []
cut_parts true (c ∷ said) = cut_parts false said
cut_parts false (c ∷ said) =
    if c == 13 && slice_index said 0 == 10 then [] ∷ cut_parts true said
    else with_octet c (cut_parts false said)

-- each part is printed as the number of the seat, `: `, the part, LF
abbrev pub printed : ℕ → List ℕ → List ℕ
printed seat said = flat_map (part_line seat) (cut_parts false said)

-- ---- what is done at a seat

-- More turns than can come to something while this many octets are held: each takes an octet at least, or
-- sends a continuation request, of which no more come before an item than there are octets, and three.
unfoldable pub turns_for : ℕ → ℕ
turns_for zero = 5
turns_for (suc octets) = turns_for octets + (octets + 5)

abbrev pub turns_most : Option SeatSession → ℕ
turns_most None = 0
turns_most (Some place) = turns_for (length place.talk.held.text)

-- All turns are made that can be made. After the last one that comes to something a turn changes nothing.
abbrev pub settled : Occasion → World → World
settled o w = turns o (replicate (turns_most (open_at w o.seat)) false) w

-- octets are offered, and all turns are made
abbrev pub offered : Occasion → List ℕ → World → World
offered o piece w = settled o (did o false (world.Piece piece) w)

-- What wasn't taken is offered again, at most `most` times. Each time a session that is open takes an octet
-- at least; once it is closed nothing changes.
abbrev pub offered_again : ℕ → Occasion → List ℕ → World → World
offered_again zero o rest w = w
offered_again (suc most) o [] w = w
offered_again (suc most) o (c ∷ rest) w =
    offered_again most o (left_by (open_at w o.seat) (c ∷ rest)) (offered o (c ∷ rest) w)

abbrev pub heard : Occasion → List ℕ → World → World
heard o piece w = offered_again (length piece) o (left_by (open_at w o.seat) piece) (offered o piece w)

-- by the line
abbrev pub done_at : SeatLine → Occasion → World → World
done_at act.Open o w = did (without_nonce o) false (world.Open None) w
done_at (act.Enter user) o w = did (without_nonce o) false (world.Open (Some user)) w
done_at (act.Send text) o w = heard o (text ++ crlf) w
done_at (act.Raw octets) o w = heard o octets w
done_at (act.Piece octets) o w = did o false (world.Piece octets) w
done_at act.Turn o w = did o false world.Turn w
done_at act.Drain o w = did (without_nonce o) false world.Drain w
done_at act.Leave o w = did (without_nonce o) false world.Leave w

abbrev pub world_after_line : ℕ → SeatLine → Script → World
world_after_line seat does s =
    done_at does (record { seat = seat; clock = s.clock; nonce = s.nonce }) (world_of s.standing)

-- ---- lines

-- what a line writes: what is said at its seat since that was last printed
abbrev pub line_writes : ScriptLine → Script → List ℕ
line_writes (line.At seat does) s =
    printed seat (said_before (place_at (world_after_line seat does s).places seat))
line_writes other s = []

-- the script after a line
abbrev pub script_after_line : ScriptLine → Script → Script
script_after_line line.Pass s = s
script_after_line (line.User name secret) s =
    record s { standing = with_setup (with_user name secret) s.standing }
script_after_line (line.Admin name) s =
    record s { standing = with_setup (with_administrator name) s.standing }
script_after_line (line.Group name member) s =
    record s { standing = with_setup (with_member name member) s.standing }
script_after_line (line.Host text) s = record s { standing = with_setup (with_host text) s.standing }
script_after_line (line.Clock moment) s = record s { clock = moment }
script_after_line (line.Nonce nonce) s = record s { nonce = nonce }
script_after_line (line.At seat does) s =
    record s { standing = standing.Since (output_taken (world_after_line seat does s) seat) }

-- the line that a text is, if it may stand there
abbrev pub line_at : ScriptStage → List ℕ → Option ScriptLine
line_at s text = option_and_then (λ l. if fits l s then Some l else None) (line_of text)

-- What lines write, one after the other, up to one that is none or may not stand where it does.
abbrev pub lines_write : List (List ℕ) → Script → List ℕ
lines_write [] s = []
lines_write (text ∷ texts) s =
    option_map_or (λ l. line_writes l s ++ lines_write texts (script_after_line l s))
    (line_at s.standing text) []

-- the number of that one, if there is one, counted from 1
abbrev pub wrong_among : List (List ℕ) → Script → Option ℕ
wrong_among [] s = None
wrong_among (text ∷ texts) s =
    option_map_or (λ l. option_map (λ n. n + 1) (wrong_among texts (script_after_line l s)))
    (line_at s.standing text) (Some 1)

-- What a script writes for all that it reads, and which of its lines is wrong, if one is.
abbrev pub script_writes : List ℕ → List ℕ
script_writes input = lines_write (cut_lines input) begins

abbrev pub wrong_line : List ℕ → Option ℕ
wrong_line input = wrong_among (cut_lines input) begins

-- ---- which events were refused memory in a run

-- of the events that turns ask at a seat, in their order
abbrev pub refused_first : Bool → World → Occasion → Option SeatSession → List Bool → List Bool
refused_first refused w o None more = more
refused_first refused w o (Some place) more =
    told_first refused (session_next w.users o.nonce o.clock place.talk).0 more

abbrev pub refused_by_turns : Occasion → List Bool → World → List Bool
refused_by_turns o [] w = []
refused_by_turns o (refused ∷ more) w =
    refused_first refused w o (open_at w o.seat) (refused_by_turns o more (did o refused world.Turn w))

-- while octets are heard, with a list of turns for each time that they are offered
abbrev pub refused_hearing : List (List Bool) → Occasion → List ℕ → World → List Bool
refused_hearing [] o piece w = []
refused_hearing (refused ∷ more) o piece w =
    let v = did o false (world.Piece piece) w in
    refused_by_turns o refused v
    ++ refused_hearing more o (left_by (open_at w o.seat) piece) (turns o refused v)

abbrev pub refused_acting : (does : SeatLine) (o : Occasion) (old new : World) → Acts does o old new
    → List Bool
refused_acting act.Open o old new acts = []
refused_acting (act.Enter user) o old new acts = []
refused_acting (act.Send text) o old new acts = refused_hearing acts.refused o (text ++ crlf) old
refused_acting (act.Raw octets) o old new acts = refused_hearing acts.refused o octets old
refused_acting (act.Piece octets) o old new acts = []
refused_acting act.Turn o old new acts = refused_by_turns o (acts.refused ∷ []) old
refused_acting act.Drain o old new acts = []
refused_acting act.Leave o old new acts = []

abbrev pub refused_doing : (l : ScriptLine) (old : Script) (out : List ℕ) (new : Script) → Does l old out new
    → List Bool
refused_doing (line.At seat does) old out new k =
    let o : Occasion = record { seat = seat; clock = old.clock; nonce = old.nonce } in
    refused_acting does o (world_of old.standing) k.after k.acts
refused_doing other old out new k = []

-- while lines are done
abbrev pub refused_in : (texts : List (List ℕ)) (old : Script) (out : List ℕ) (new : Script)
    → AreDone texts old out new → List Bool
refused_in [] old out new k = []
refused_in (text ∷ texts) old out new k =
    refused_doing k.done.line old k.first k.between k.done.does
    ++ refused_in texts k.between k.later new k.then_done

abbrev pub NoneRefused : (texts : List (List ℕ)) (old : Script) (out : List ℕ) (new : Script)
    → AreDone texts old out new → Type 0
NoneRefused texts old out new k = list_any (λ refused. refused) (refused_in texts old out new k) ≡ false

-- ---- the law

pub record ScriptLaw : Type 0 where
  -- nothing is next after the turns that are made
  pub settles : (o : Occasion) (w : World) → IsQuiet o (settled o w)
  -- lines that were done, of whose events none was refused, have written that, and none of them is wrong
  pub lines : (texts : List (List ℕ)) (written : List ℕ) (last : Script)
      (k : AreDone texts begins written last)
      → NoneRefused texts begins written last k
      → (written ≡ lines_write texts begins) × (wrong_among texts begins ≡ None)
  -- so a script that came to its end has written that for all that was to be read
  pub ended : (input : List ℕ) (left old new : Option (List ℕ)) (h : HasEnded (Some input) left old new)
      → NoneRefused (with_last h.lines h.rest) begins h.written h.last h.done
      → Appends old new (script_writes input) × (wrong_line input ≡ None)
  -- so has one that ended at a wrong line, and this is the wrong one
  pub failed : (input : List ℕ) (number : ℕ) (left old new : Option (List ℕ))
      (h : HasFailed number (Some input) left old new)
      → NoneRefused h.before begins h.written h.last h.done
      → Appends old new (script_writes input) × (wrong_line input ≡ Some number)
  -- one whose reader failed has written that for the lines that had ended
  pub stopped : (unread left old new : Option (List ℕ)) (h : HasStopped unread left old new)
      → NoneRefused h.lines begins h.written h.last h.done
      → Appends old new (script_writes (lines_of h.lines))
  -- one to which memory was refused for the lines that were done, and one whose writer failed a prefix of
  -- that
  pub refused : (unread left old new : Option (List ℕ)) (h : HasBegun unread left (Appends old new))
      → NoneRefused h.texts begins h.written h.last h.done → Appends old new (lines_write h.texts begins)
  pub unwritten : (unread left old new : Option (List ℕ)) (h : HasBegun unread left (SendsFront old new))
      → NoneRefused h.texts begins h.written h.last h.done → SendsFront old new (lines_write h.texts begins)
