-- What the text of a script's line says.
use Rattle.std.specs.Prelude.{◌≡◌, ℕ, ℤ, pos, ◌+◌, ◌-◌, ◌*◌, ◌==◌, Bool, true, ◌&&◌, nat_le, nat_lt}
use Rattle.std.specs.Prelude.{if◌then◌else◌, List, [], ◌∷◌, length, take, drop, codes, fold, position, Option}
use Rattle.std.specs.Prelude.{Some, None, option_map, option_and_then, Result, Ok, Err}
use Rattle.std.specs.List.{list_all}
use Rattle.hex.specs.Hex.{decode_of}
use Rattle.hex.specs.declared.error.FromHexError.{FromHexError}
use Rattle.acap_entries.specs.Names.{is_user_name}
use Rattle.acap_entries.specs.Orders.{octets_eq}
use Rattle.acap_script.specs.declared.line_fault.LineFault.{LineFault}
use Rattle.acap_script.specs.declared.line_fault.LineFault.TheVariants as faults
use Rattle.acap_script.specs.declared.script_line.ScriptLine.{ScriptLine}
use Rattle.acap_script.specs.declared.script_line.ScriptLine.TheVariants as line
use Rattle.acap_script.specs.declared.seat_line.SeatLine.TheVariants as act
use Rattle.acap_script.specs.declared.script_word.ScriptWord.{ScriptWord}
use Rattle.acap_script.specs.declared.script_word.ScriptWord.TheVariants as word

-- ---- parts

abbrev pub is_space : ℕ → Bool
is_space octet = octet == 32

-- what stands before the first SP of a text, and what after it
abbrev pub parts_of : List ℕ → Option (List ℕ × List ℕ)
parts_of text = option_map (λ place. (take place text, drop (place + 1) text)) (position is_space text)

-- a user's name
abbrev pub name_in : List ℕ → Option (List ℕ)
name_in text = if is_user_name text then Some text else None

-- a number in decimal digits, one or more, with zeros before it or without, up to a greatest
abbrev pub is_digit : ℕ → Bool
is_digit octet = nat_le 48 octet && nat_le octet 57

abbrev pub number_of : List ℕ → ℕ
number_of digits = fold (λ number digit. 10 * number + (digit - 48)) 0 digits

abbrev pub are_digits : List ℕ → Bool
are_digits text = nat_lt 0 (length text) && list_all is_digit text

abbrev pub at_most : ℕ → ℕ → Option ℕ
at_most most number = if nat_le number most then Some number else None

abbrev pub number_in : ℕ → List ℕ → Option ℕ
number_in most text = if are_digits text then at_most most (number_of text) else None

-- a seat, 0 to 63; the nonce of a challenge; a count of microseconds up to the end of the year 9999
abbrev pub seat_in : List ℕ → Option ℕ
seat_in text = number_in 63 text

abbrev pub nonce_in : List ℕ → Option ℕ
nonce_in text = number_in 18446744073709551615 text

abbrev pub moment_in : List ℕ → Option ℤ
moment_in text = option_map (λ n. pos n) (number_in 253402300799999999 text)

-- octets in two hex digits each, in either case
abbrev pub octets_by : Result (List ℕ) FromHexError → Option (List ℕ)
octets_by (Ok octets) = Some octets
octets_by (Err fault) = None

abbrev pub octets_in : List ℕ → Option (List ℕ)
octets_in text = octets_by (decode_of text)

-- ---- lines

-- the words with which lines begin: those that set something, and those about a seat
abbrev pub seat_word_of : List ℕ → Option ScriptWord
seat_word_of text =
    if octets_eq text (codes "open") then Some word.Open
    else if octets_eq text (codes "enter") then Some word.Enter
    else if octets_eq text (codes "send") then Some word.Send
    else if octets_eq text (codes "raw") then Some word.Raw
    else if octets_eq text (codes "piece") then Some word.Piece
    else if octets_eq text (codes "turn") then Some word.Turn
    else if octets_eq text (codes "drain") then Some word.Drain
    else if octets_eq text (codes "leave") then Some word.Leave
    else None

abbrev pub word_of : List ℕ → Option ScriptWord
word_of text =
    if octets_eq text (codes "user") then Some word.User
    else if octets_eq text (codes "admin") then Some word.Admin
    else if octets_eq text (codes "group") then Some word.Group
    else if octets_eq text (codes "host") then Some word.Host
    else if octets_eq text (codes "clock") then Some word.Clock
    else if octets_eq text (codes "nonce") then Some word.Nonce
    else seat_word_of text

-- a line of two parts, where both are there
abbrev pub both : {A B : Type 0} → (A → B → ScriptLine) → Option A → Option B → Option ScriptLine
both made (Some a) (Some b) = Some (made a b)
both made (Some a) None = None
both made None b = None

-- a part and the rest of a line
abbrev pub by_parts : (List ℕ → List ℕ → Option ScriptLine) → List ℕ → Option ScriptLine
by_parts made text = option_and_then (λ parts. made parts.0 parts.1) (parts_of text)

-- `user NAME SECRET`, `group NAME USER`, `enter K NAME`, `send K TEXT`, `raw K HEX`, `piece K HEX`, after
-- the word and its SP; what is the rest of a line may be empty
abbrev pub user_line : List ℕ → Option ScriptLine
user_line text = by_parts (λ name secret. both line.User (name_in name) (Some secret)) text

abbrev pub group_line : List ℕ → Option ScriptLine
group_line text = by_parts (λ name member. both line.Group (name_in name) (name_in member)) text

abbrev pub enter_line : List ℕ → Option ScriptLine
enter_line text =
    by_parts (λ seat name. both (λ k user. line.At k (act.Enter user)) (seat_in seat) (name_in name)) text

abbrev pub send_line : List ℕ → Option ScriptLine
send_line text =
    by_parts (λ seat sent. both (λ k sent. line.At k (act.Send sent)) (seat_in seat) (Some sent)) text

abbrev pub raw_line : List ℕ → Option ScriptLine
raw_line text =
    by_parts (λ seat digits. both (λ k octets. line.At k (act.Raw octets)) (seat_in seat) (octets_in digits))
    text

abbrev pub piece_line : List ℕ → Option ScriptLine
piece_line text =
    by_parts
    (λ seat digits. both (λ k octets. line.At k (act.Piece octets)) (seat_in seat) (octets_in digits)) text

-- by the word
abbrev pub line_by : ScriptWord → List ℕ → Option ScriptLine
line_by word.User rest = user_line rest
line_by word.Admin rest = option_map line.Admin (name_in rest)
line_by word.Group rest = group_line rest
line_by word.Host rest = Some (line.Host rest)
line_by word.Clock rest = option_map line.Clock (moment_in rest)
line_by word.Nonce rest = option_map line.Nonce (nonce_in rest)
line_by word.Open rest = option_map (λ k. line.At k act.Open) (seat_in rest)
line_by word.Enter rest = enter_line rest
line_by word.Send rest = send_line rest
line_by word.Raw rest = raw_line rest
line_by word.Piece rest = piece_line rest
line_by word.Turn rest = option_map (λ k. line.At k act.Turn) (seat_in rest)
line_by word.Drain rest = option_map (λ k. line.At k act.Drain) (seat_in rest)
line_by word.Leave rest = option_map (λ k. line.At k act.Leave) (seat_in rest)

-- an empty line says nothing, and so does a remark, which begins with `#`
abbrev pub is_passed : List ℕ → Bool
is_passed [] = true
is_passed (c ∷ text) = c == 35

-- all others are a word, SP, and what the word wants
unfoldable pub line_of : List ℕ → Option ScriptLine
line_of text =
    if is_passed text then Some line.Pass
    else option_and_then (λ parts. option_and_then (λ w. line_by w parts.1) (word_of parts.0)) (parts_of text)

-- ---- words of the contracts

-- a text is read as what it says, or it says nothing
abbrev pub Reads : {A : Type 0} → Option A → Result A LineFault → Type 0
Reads said (Ok a) = said ≡ Some a
Reads said (Err faults.Wrong) = said ≡ None
Reads said (Err faults.Memory) = Unit {0}
