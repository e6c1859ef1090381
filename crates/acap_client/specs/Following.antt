-- What a client holds of its contexts, line by line [RFC 2244 sections 3.3, 6.4.1 and 6.5].
use Rattle.std.specs.Prelude.{ℕ, Bool, true, false, List, [], ◌∷◌, ◌++◌, take, drop, length, codes, bytes_eq}
use Rattle.std.specs.Prelude.{Option, Some, None, option_map, if◌then◌else◌}
use Rattle.acap_grammar.specs.Lines.{Datum, Line, Ending, Done, Entry, AddTo, RemoveFrom, Change, UpTo}
use Rattle.acap_grammar.specs.Lines.{Alert, Completion}
use Rattle.acap_grammar.specs.Printed.{PrintedRow, PrintedNotice, PrintedMap, printed_by_name}
use Rattle.acap_grammar.specs.Printed.{printed_list_after, printed_map_after}
use Rattle.acap_grammar.specs.Printed as printed
use Rattle.acap_commands.specs.declared.command.Command.{Command}
use Rattle.acap_commands.specs.declared.command.Command.TheVariants as command
use Rattle.acap_commands.specs.declared.search_modifiers.MakeContext.{MakeContext}

-- ---- what is held of one context

-- printed rows: of an enumerated context in their order, of another by name
pub data Held : Type 0 where
  Listed : List PrintedRow → Held
  Mapped : PrintedMap → Held

abbrev pub held_as : Bool → List PrintedRow → Held
held_as true rows = Listed rows
held_as false rows = Mapped (printed_by_name rows)

abbrev pub held_after : Held → PrintedNotice → Option Held
held_after (Listed rows) notice = option_map Listed (printed_list_after rows notice)
held_after (Mapped rows) notice = option_map Mapped (printed_map_after rows notice)

-- complete where its `* MODTIME` came and nothing since, freed where nothing more will come
pub record Kept : Type 0 where
  pub held : Held
  pub complete : Bool
  pub freed : Bool

-- ---- under names: of contexts, and of commands by their tags

abbrev pub look_up : {A : Type 0} → List ℕ → List (List ℕ × A) → Option A
look_up name [] = None
look_up name (first ∷ others) = if bytes_eq name first.0 then Some first.1 else look_up name others

abbrev pub without : {A : Type 0} → List ℕ → List (List ℕ × A) → List (List ℕ × A)
without name [] = []
without name (first ∷ others) =
    if bytes_eq name first.0 then without name others else first ∷ without name others

-- in the place of what has the name, or as the last where nothing has it
abbrev pub put : {A : Type 0} → List ℕ → A → List (List ℕ × A) → List (List ℕ × A)
put name x [] = (name, x) ∷ []
put name x (first ∷ others) = if bytes_eq name first.0 then (name, x) ∷ others else first ∷ put name x others

-- ---- a follower

-- a command that waits for its end: a SEARCH that makes a
-- context, with the rows that have come, or a FREECONTEXT
pub data Asked : Type 0 where
  Making : MakeContext → List PrintedRow → Asked
  Freeing : List ℕ → Asked

pub record Follower : Type 0 where
  pub contexts : List (List ℕ × Kept)
  pub asked : List (List ℕ × Asked)

abbrev pub new : Follower
new = record { contexts = []; asked = [] }

-- what comes of a line: the follower goes on, or it is a misfit of a context, and what is held stays
pub data Followed : Type 0 where
  Goes : Follower → Followed
  Misfit : List ℕ → Followed

-- ---- a command is sent under a tag

abbrev pub making : List ℕ → Option MakeContext → Follower → Follower
making tag None f = f
making tag (Some make) f = record f { asked = put tag (Making make []) f.asked }

-- only those commands are kept that make a context or free one
abbrev pub ask : List ℕ → Command → Follower → Follower
ask tag (command.Search s) f = making tag s.modifiers.make_context f
ask tag (command.FreeContext context) f = record f { asked = put tag (Freeing context) f.asked }
ask tag other f = f

-- ---- lines under the tag of a command

abbrev pub with_row : List ℕ → PrintedRow → Option Asked → Follower → Follower
with_row tag row (Some (Making make rows)) f =
    record f { asked = put tag (Making make (rows ++ row ∷ [])) f.asked }
with_row tag row (Some (Freeing context)) f = f
with_row tag row None f = f

-- the context is held no more
abbrev pub freed_by : List ℕ → Option Kept → Follower → Follower
freed_by context (Some kept) f = record f { contexts = put context (record kept { freed = true }) f.contexts }
freed_by context None f = f

abbrev pub free : List ℕ → Follower → Follower
free context f = freed_by context (look_up context f.contexts) f

-- the end of a command: a context that was made takes the place of one of its name
abbrev pub made : MakeContext → List PrintedRow → Follower → Follower
made make rows f =
    let kept : Kept = record { held = held_as make.enumerate rows; complete = false; freed = false } in
    record f { contexts = put make.name kept f.contexts }

abbrev pub done : Option Asked → Follower → Follower
done (Some (Making make rows)) f = made make rows f
done (Some (Freeing context)) f = free context f
done None f = f

abbrev pub ended : Ending → List ℕ → Follower → Follower
ended Done tag f = done (look_up tag f.asked) (record f { asked = without tag f.asked })
ended other tag f = record f { asked = without tag f.asked }

-- ---- lines of a context

abbrev pub changed : List ℕ → Option Held → Follower → Followed
changed context (Some held) f =
    let kept : Kept = record { held = held; complete = false; freed = false } in
    Goes (record f { contexts = put context kept f.contexts })
changed context None f = Misfit context

-- a notice of a context that isn't held, or that was freed, is a misfit too
abbrev pub noticed_of : List ℕ → PrintedNotice → Option Kept → Follower → Followed
noticed_of context notice None f = Misfit context
noticed_of context notice (Some kept) f =
    if kept.freed then Misfit context else changed context (held_after kept.held notice) f

abbrev pub noticed : List ℕ → PrintedNotice → Follower → Followed
noticed context notice f = noticed_of context notice (look_up context f.contexts) f

abbrev pub completed_of : List ℕ → Option Kept → Follower → Followed
completed_of context None f = Misfit context
completed_of context (Some kept) f =
    if kept.freed then Misfit context
    else Goes (record f { contexts = put context (record kept { complete = true }) f.contexts })

abbrev pub completed : List ℕ → Follower → Followed
completed context f = completed_of context (look_up context f.contexts) f

-- the words before a context's name which say that the server has freed it
abbrev pub freeing : List ℕ
freeing = codes "Context freed: "

abbrev pub alerted : List ℕ → Follower → Follower
alerted text f =
    if bytes_eq (take (length freeing) text) freeing then free (drop (length freeing) text) f else f

-- ---- a line, and lines

abbrev pub row_of : List ℕ → List Datum → PrintedRow
row_of name items = record { name = name; items = items }

-- What comes of a line.
abbrev pub follow : Follower → Line → Followed
follow f (Entry (Some tag) name items) = Goes (with_row tag (row_of name items) (look_up tag f.asked) f)
follow f (Completion (Some tag) ending code text) = Goes (ended ending tag f)
follow f (AddTo context entry position items) =
    noticed context (printed.AddTo position (row_of entry items)) f
follow f (RemoveFrom context entry position) = noticed context (printed.RemoveFrom entry position) f
follow f (Change context entry old new items) =
    noticed context (printed.Change old new (row_of entry items)) f
follow f (UpTo context stamp) = completed context f
follow f (Alert text) = Goes (alerted text f)
follow f other = Goes f

-- lines one after the other: what is held then, and the contexts of the misfits
abbrev pub followed_with : (Follower → Follower × List (List ℕ)) → Follower → Followed
    → Follower × List (List ℕ)
followed_with others old (Goes f) = others f
followed_with others old (Misfit context) = ((others old).0, context ∷ (others old).1)

abbrev pub follow_all : List Line → Follower → Follower × List (List ℕ)
follow_all [] f = (f, [])
follow_all (line ∷ lines) f = followed_with (follow_all lines) f (follow f line)
