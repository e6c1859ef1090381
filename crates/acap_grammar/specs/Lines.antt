-- What a line from the server says, as a client reads it from the line's data
-- [RFC 2244 sections 2.2, 3.6 and 6.1 to 6.7].
use Rattle.std.specs.Prelude.{ℕ, ◌+◌, ◌-◌, ◌*◌, List, [], ◌∷◌, length, codes, fold, bytes_eq}
use Rattle.std.specs.Prelude.{◌&&◌, nat_le, if◌then◌else◌, Option, Some, None, option_map, option_and_then}
use Rattle.std.specs.List.{list_all}
use Rattle.acap_lexer.specs.Octets.{is_digit}

-- A datum of a line: a word, as `OK`, `NIL` or a number; a string; or a list in a parenthesis. A list is
-- empty, or it has a first datum and a list of the others.
pub data Datum : Type 0 where
  Word : List ℕ → Datum
  Text : List ℕ → Datum
  Empty : Datum
  Pair : Datum → Datum → Datum

-- these data in a parenthesis
abbrev pub group : List Datum → Datum
group [] = Empty
group (x ∷ xs) = Pair x (group xs)

-- how a command ended
pub data Ending : Type 0 where
  Done : Ending
  Failed : Ending
  Wrong : Ending

-- What a line says. Some stand under a tag: None where a `*` stands in its place.
pub data Line : Type 0 where
  -- what the server is and offers: `* ACAP` data
  Greeting : List Datum → Line
  -- the client may go on: `+` text, which is a challenge or `Ready`
  GoOn : List ℕ → Line
  -- an entry that a search finds: tag `ENTRY` name data
  Entry : Option (List ℕ) → List ℕ → List Datum → Line
  -- the moment of a search: tag `MODTIME` stamp
  Moment : Option (List ℕ) → List ℕ → Line
  -- a change of a context: `* ADDTO` context entry position data, `* REMOVEFROM` context entry position,
  -- `* CHANGE` context entry old new data
  AddTo : List ℕ → List ℕ → ℕ → List Datum → Line
  RemoveFrom : List ℕ → List ℕ → ℕ → Line
  Change : List ℕ → List ℕ → ℕ → ℕ → List Datum → Line
  -- all changes of a context up to a stamp were sent: `* MODTIME` context stamp
  UpTo : List ℕ → List ℕ → Line
  -- a text for people: `* ALERT` text
  Alert : List ℕ → Line
  -- tag `DELETED` name, tag `MYRIGHTS` rights, tag `LISTRIGHTS` rights*
  Deleted : Option (List ℕ) → List ℕ → Line
  Rights : Option (List ℕ) → List ℕ → Line
  RightsList : Option (List ℕ) → List (List ℕ) → Line
  -- the end of a command: tag `OK`, `NO` or `BAD`, a code in a parenthesis in some, and a text
  Completion : Option (List ℕ) → Ending → Option Datum → List ℕ → Line
  -- the end of the session: `* BYE`, with a code or without one, and a text
  Bye : Option Datum → List ℕ → Line

-- ---- the arguments of a line

-- the number that decimal digits stand for, one at least
abbrev pub value_of : List ℕ → ℕ
value_of digits = fold (λ n d. 10 * n + (d - 48)) 0 digits

unfoldable pub number_of : List ℕ → Option ℕ
number_of digits =
    if nat_le 1 (length digits) && list_all is_digit digits then Some (value_of digits) else None

-- the number that begins the data, and the data after it
abbrev pub numbered : (ℕ → List Datum → Option Line) → List Datum → Option Line
numbered line (Word digits ∷ others) = option_and_then (λ n. line n others) (number_of digits)
numbered line _ = None

-- nothing more
abbrev pub alone : Line → List Datum → Option Line
alone line [] = Some line
alone line _ = None

-- the string that begins the data, and the data after it
abbrev pub texted : (List ℕ → List Datum → Option Line) → List Datum → Option Line
texted line (Text text ∷ others) = line text others
texted line _ = None

-- strings alone
abbrev pub more_text : Datum → List (List ℕ) → Option (List (List ℕ))
more_text (Text text) texts = Some (text ∷ texts)
more_text _ texts = None

abbrev pub texts_of : List Datum → Option (List (List ℕ))
texts_of [] = Some []
texts_of (datum ∷ others) = option_and_then (more_text datum) (texts_of others)

-- a code, if a parenthesis begins the data, and a text
abbrev pub coded : (Option Datum → List ℕ → Line) → List Datum → Option Line
coded line (Pair first others ∷ left) = texted (λ text. alone (line (Some (Pair first others)) text)) left
coded line left = texted (λ text. alone (line None text)) left

-- the arguments of a line under a tag or `*`, by the word before them
abbrev pub tagged : Option (List ℕ) → List ℕ → List Datum → Option Line
tagged tag word args =
    if bytes_eq word (codes "OK") then coded (Completion tag Done) args
    else (if bytes_eq word (codes "NO") then coded (Completion tag Failed) args
    else (if bytes_eq word (codes "BAD") then coded (Completion tag Wrong) args
    else (if bytes_eq word (codes "ENTRY") then texted (λ name items. Some (Entry tag name items)) args
    else (if bytes_eq word (codes "MODTIME") then texted (λ stamp. alone (Moment tag stamp)) args
    else (if bytes_eq word (codes "DELETED") then texted (λ name. alone (Deleted tag name)) args
    else (if bytes_eq word (codes "MYRIGHTS") then texted (λ rights. alone (Rights tag rights)) args
    else (if bytes_eq word (codes "LISTRIGHTS") then option_map (RightsList tag) (texts_of args)
    else None)))))))

-- what is said of an entry of a context
abbrev pub of_entry : (List ℕ → List ℕ → List Datum → Option Line) → List Datum → Option Line
of_entry line args = texted (λ context. texted (line context)) args

abbrev pub added_to : List ℕ → List ℕ → List Datum → Option Line
added_to context entry args = numbered (λ position items. Some (AddTo context entry position items)) args

abbrev pub removed_from : List ℕ → List ℕ → List Datum → Option Line
removed_from context entry args = numbered (λ position. alone (RemoveFrom context entry position)) args

abbrev pub changed : List ℕ → List ℕ → List Datum → Option Line
changed context entry args =
    numbered (λ old. numbered (λ new items. Some (Change context entry old new items))) args

-- a MODTIME under no tag is of a context, if two strings follow
abbrev pub modtime : List ℕ → List Datum → Option Line
modtime first [] = Some (Moment None first)
modtime first left = texted (λ stamp. alone (UpTo first stamp)) left

-- the arguments of a line that begins with `*`, by the word before them
abbrev pub untagged : List ℕ → List Datum → Option Line
untagged word args =
    if bytes_eq word (codes "ADDTO") then of_entry added_to args
    else (if bytes_eq word (codes "REMOVEFROM") then of_entry removed_from args
    else (if bytes_eq word (codes "CHANGE") then of_entry changed args
    else (if bytes_eq word (codes "MODTIME") then texted modtime args
    else (if bytes_eq word (codes "ALERT") then texted (λ text. alone (Alert text)) args
    else (if bytes_eq word (codes "BYE") then coded Bye args
    else (if bytes_eq word (codes "ACAP") then Some (Greeting args)
    else tagged None word args))))))

-- a line that begins with this word
abbrev pub worded : List ℕ → List Datum → Option Line
worded first (Word word ∷ args) =
    if bytes_eq first (codes "*") then untagged word args else tagged (Some first) word args
worded first left = if bytes_eq first (codes "+") then texted (λ text. alone (GoOn text)) left else None

-- What the data of a line say: None if they are no line of the protocol.
abbrev pub line_of : List Datum → Option Line
line_of (Word first ∷ left) = worded first left
line_of _ = None
