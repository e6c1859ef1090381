-- What a session says, as lines: the printed data of rows, codes, notices and completions.
use Rattle.std.specs.Prelude.{ℕ, ℤ, List, [], ◌∷◌, ◌++◌, map, codes, decimal, Option, Some, None}
use Rattle.acap_entries.specs.Stamp.{stamp_of}
use Rattle.acap_entries.specs.declared.record.Cell.{Cell}
use Rattle.acap_entries.specs.declared.record.Cell.TheVariants as cell
use Rattle.acap_entries.specs.declared.row.Item.{Item}
use Rattle.acap_entries.specs.declared.row.Item.TheVariants as item
use Rattle.acap_entries.specs.declared.row.Row.{Row}
use Rattle.acap_notices.specs.declared.notice.Notice.{Notice}
use Rattle.acap_notices.specs.declared.notice.Notice.TheVariants as notice
use Rattle.acap_notices.specs.declared.told.Told.{Told}
use Rattle.acap_notices.specs.declared.told.Told.TheVariants as told
use Rattle.acap_commands.specs.Statuses.{status_of}
use Rattle.acap_commands.specs.declared.object_name.ObjectName.{ObjectName}
use Rattle.acap_commands.specs.declared.object_name.ObjectName.TheVariants as object_name
use Rattle.acap_commands.specs.declared.refusal.Refusal.{Refusal}
use Rattle.acap_commands.specs.declared.refusal.Refusal.TheVariants as refusal
use Rattle.acap_commands.specs.declared.reply.Reply.{Reply}
use Rattle.acap_commands.specs.declared.said.Said.{Said}
use Rattle.acap_commands.specs.declared.said.Said.TheVariants as said
use Rattle.acap_commands.specs.declared.said.SearchReply.{SearchReply}
use Rattle.acap_commands.specs.declared.refusal.Status.{Status}
use Rattle.acap_commands.specs.declared.refusal.Status.TheVariants as status
use Rattle.acap_commands.specs.declared.command.Verb.{Verb}
use Rattle.acap_commands.specs.declared.command.Verb.TheVariants as verb
use Rattle.acap_grammar.specs.Lines.{Datum, Word, Text, group, Done, Failed, Wrong}
use Rattle.acap_grammar.specs.Lines.{Line, Greeting, GoOn, Entry, Moment, AddTo, RemoveFrom, Change, UpTo}
use Rattle.acap_grammar.specs.Lines.{Alert}
use Rattle.acap_grammar.specs.Lines.{Deleted, Rights, RightsList, Completion, Bye}
use Rattle.acap_grammar.specs.Refusals.{text_of}
use Rattle.acap_grammar.specs.Replies.{done_of}

-- ---- printed data

-- A cell, an item and a row as they are printed: an empty list is as a name with `*` that finds nothing.
abbrev pub cell_datum : Cell → Datum
cell_datum cell.Nil = Word (codes "NIL")
cell_datum (cell.Single value) = Text value
cell_datum (cell.Multi values) = group (map Text values)

abbrev pub cells_datum : List Cell → Datum
cells_datum cells = group (map cell_datum cells)

abbrev pub item_datum : Item → Datum
item_datum (item.One one) = cell_datum one
item_datum (item.Several cells) = cells_datum cells
item_datum (item.PerAttribute lists) = group (map cells_datum lists)

abbrev pub row_data : Row → List Datum
row_data row = map item_datum row.items

-- ---- completions

abbrev pub object_data : ObjectName → List Datum
object_data (object_name.Dataset dataset) = Text dataset ∷ []
object_data (object_name.Attribute dataset attribute) = Text dataset ∷ Text attribute ∷ []
object_data (object_name.Entry dataset attribute name) = Text dataset ∷ Text attribute ∷ Text name ∷ []

-- a code: a word, and what it is about
abbrev pub coded_by : List ℕ → List Datum → Option Datum
coded_by word about = Some (group (Word word ∷ about))

abbrev pub code_datum : Refusal → Option Datum
code_datum (refusal.Permission object) = coded_by (codes "PERMISSION") (group (object_data object) ∷ [])
code_datum (refusal.NoExist dataset) = coded_by (codes "NOEXIST") (Text dataset ∷ [])
code_datum (refusal.Modified path) = coded_by (codes "MODIFIED") (Text (path.dataset ++ path.name) ∷ [])
code_datum (refusal.Invalid path attribute) =
    coded_by (codes "INVALID") (group (Text (path.dataset ++ path.name) ∷ Text attribute ∷ []) ∷ [])
code_datum refusal.TooOld = coded_by (codes "TOOOLD") []
code_datum refusal.WayTooMany = coded_by (codes "WAYTOOMANY") []
code_datum refusal.TryFreeContext = coded_by (codes "TRYFREECONTEXT") []
code_datum refusal.Memory = coded_by (codes "TRYLATER") []
code_datum refusal.HistoryFull = coded_by (codes "TRYLATER") []
code_datum _ = None

-- a refusal: NO or BAD under the tag, BYE under none
abbrev pub refused_by : Status → Option (List ℕ) → Option Datum → List ℕ → Line
refused_by status.No tag code text = Completion tag Failed code text
refused_by status.Bad tag code text = Completion tag Wrong code text
refused_by status.Bye tag code text = Bye code text

abbrev pub refused_line : Option (List ℕ) → Refusal → Line
refused_line tag refusal = refused_by (status_of refusal) tag (code_datum refusal) (text_of refusal)

abbrev pub done_line : Option (List ℕ) → Verb → Line
done_line tag verb = Completion tag Done None (done_of verb)

-- how many entries matched, where not all of them are printed
abbrev pub total_datum : Option ℕ → Option Datum
total_datum None = None
total_datum (Some total) = coded_by (codes "TOOMANY") (Word (decimal total) ∷ [])

-- ---- what is found, and what is sent of contexts

abbrev pub moment_lines : Option (List ℕ) → Option ℤ → List Line
moment_lines tag None = []
moment_lines tag (Some moment) = Moment tag (stamp_of moment) ∷ []

abbrev pub entry_line : Option (List ℕ) → Row → Line
entry_line tag row = Entry tag row.name (row_data row)

abbrev pub searched_line : Option (List ℕ) → Option ℕ → Line
searched_line tag total = Completion tag Done (total_datum total) (done_of verb.Search)

abbrev pub found_lines : Option (List ℕ) → SearchReply → List Line
found_lines tag found =
    map (entry_line tag) found.rows ++ moment_lines tag found.last ++ searched_line tag found.total ∷ []

abbrev pub notice_line : List ℕ → Notice → Line
notice_line context (notice.AddTo position row) = AddTo context row.name position (row_data row)
notice_line context (notice.RemoveFrom entry position) = RemoveFrom context entry position
notice_line context (notice.Change old new row) = Change context row.name old new (row_data row)

abbrev pub told_line : Told → Line
told_line (told.Note context notice) = notice_line context notice
told_line (told.Upto context moment) = UpTo context (stamp_of moment)
told_line (told.Freed context) = Alert (codes "Context freed: " ++ context)

-- ---- what is said

abbrev pub greeting_line : Line
greeting_line = Greeting (
    group (Word (codes "IMPLEMENTATION") ∷ Text (codes "acapd") ∷ [])
    ∷ group (Word (codes "SASL") ∷ Text (codes "CRAM-MD5") ∷ [])
    ∷ group (Word (codes "CONTEXTLIMIT") ∷ Text (codes "200") ∷ []) ∷ [])

abbrev pub said_lines : Option (List ℕ) → Said → List Line
said_lines tag said.Greeting = greeting_line ∷ []
said_lines tag said.Left = []
said_lines tag (said.Drained tolds) = map told_line tolds
said_lines tag (said.Updated tolds) = map told_line tolds ++ done_line tag verb.UpdateContext ∷ []
said_lines tag (said.Done verb) = done_line tag verb ∷ []
said_lines tag (said.Searched found) = found_lines tag found
said_lines tag (said.Deleted names) = map (Deleted tag) names ++ done_line tag verb.DeletedSince ∷ []
said_lines tag (said.Rights rights) = Rights tag rights ∷ done_line tag verb.MyRights ∷ []
said_lines tag (said.RightsList rights) = RightsList tag rights ∷ done_line tag verb.ListRights ∷ []
said_lines tag (said.Challenge challenge) = GoOn challenge ∷ []
said_lines tag said.GoodBye = Bye None (codes "Good bye") ∷ done_line tag verb.Logout ∷ []
said_lines tag (said.Refused refusal) = refused_line tag refusal ∷ []

-- the lines of a reply
abbrev pub lines_of : Reply → List Line
lines_of reply = said_lines reply.tag reply.said
