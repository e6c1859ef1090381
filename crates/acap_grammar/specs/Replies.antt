-- The printed form of a reply [RFC 2244 sections 2.2, 3.6, 6.1 to 6.4, 6.6.2, 6.7 and 8; RFC 2195 section 2].
use Rattle.std.specs.Prelude.{ℕ, ℤ, List, [], ◌∷◌, ◌++◌, codes, decimal, flat_map, Option, Some, None}
use Rattle.acap_lexer.specs.Printing.{printed_form}
use Rattle.acap_entries.specs.Stamp.{stamp_of}
use Rattle.acap_entries.specs.declared.record.Cell.{Cell}
use Rattle.acap_entries.specs.declared.record.Cell.TheVariants as cell
use Rattle.acap_entries.specs.declared.row.Item.{Item}
use Rattle.acap_entries.specs.declared.row.Item.TheVariants as item
use Rattle.acap_entries.specs.declared.row.Row.{Row}
use Rattle.acap_notices.specs.declared.notice.Notice.{Notice}
use Rattle.acap_notices.specs.declared.notice.Notice.TheVariants as notice
use Rattle.acap_notices.specs.declared.told.Told.{Told}
use Rattle.acap_notices.specs.declared.told.Told.TheVariants as told
use Rattle.acap_commands.specs.declared.said.SearchReply.{SearchReply}
use Rattle.acap_commands.specs.declared.refusal.Refusal.{Refusal}
use Rattle.acap_commands.specs.declared.reply.Reply.{Reply}
use Rattle.acap_commands.specs.declared.said.Said.{Said}
use Rattle.acap_commands.specs.declared.said.Said.TheVariants as said
use Rattle.acap_commands.specs.declared.refusal.Status.{Status}
use Rattle.acap_commands.specs.declared.refusal.Status.TheVariants as status
use Rattle.acap_commands.specs.declared.command.Verb.{Verb}
use Rattle.acap_commands.specs.declared.command.Verb.TheVariants as verb
use Rattle.acap_commands.specs.Statuses.{status_of}
use Rattle.acap_grammar.specs.Refusals.{code_of, text_of}

-- where a line ends: CR LF
abbrev pub crlf : List ℕ
crlf = codes "\r\n"

-- each of a list after a space
abbrev pub behind_spaces : {A : Type 0} → (A → List ℕ) → List A → List ℕ
behind_spaces form xs = flat_map (λ x. codes " " ++ form x) xs

-- a list in a parenthesis, with one space between two
abbrev pub between_spaces : {A : Type 0} → (A → List ℕ) → List A → List ℕ
between_spaces form [] = []
between_spaces form (x ∷ xs) = form x ++ behind_spaces form xs

unfoldable pub list_form : {A : Type 0} → (A → List ℕ) → List A → List ℕ
list_form form xs = codes "(" ++ between_spaces form xs ++ codes ")"

-- a datum: NIL, a string, or a list of strings
unfoldable pub cell_form : Cell → List ℕ
cell_form cell.Nil = codes "NIL"
cell_form (cell.Single value) = printed_form value
cell_form (cell.Multi values) = list_form printed_form values

-- one datum bare, several in one parenthesis, and for a name with `*` a parenthesis of parentheses
unfoldable pub item_form : Item → List ℕ
item_form (item.One one) = cell_form one
item_form (item.Several cells) = list_form cell_form cells
item_form (item.PerAttribute lists) = list_form (list_form cell_form) lists

-- a row of a search: tag `ENTRY` name data*
unfoldable pub row_form : List ℕ → Row → List ℕ
row_form tag row = tag ++ codes " ENTRY " ++ printed_form row.name ++ behind_spaces item_form row.items
    ++ crlf

abbrev pub rows_form : List ℕ → List Row → List ℕ
rows_form tag rows = flat_map (row_form tag) rows

-- the moment that a search sends: tag `MODTIME` stamp
unfoldable pub last_form : List ℕ → Option ℤ → List ℕ
last_form tag None = []
last_form tag (Some moment) = tag ++ codes " MODTIME " ++ printed_form (stamp_of moment) ++ crlf

-- the text of an OK: the verb in capitals and ` done`
abbrev pub done_of : Verb → List ℕ
done_of verb.Noop = codes "NOOP done"
done_of verb.Logout = codes "LOGOUT done"
done_of verb.Authenticate = codes "AUTHENTICATE done"
done_of verb.Search = codes "SEARCH done"
done_of verb.FreeContext = codes "FREECONTEXT done"
done_of verb.UpdateContext = codes "UPDATECONTEXT done"
done_of verb.Store = codes "STORE done"
done_of verb.DeletedSince = codes "DELETEDSINCE done"
done_of verb.SetAcl = codes "SETACL done"
done_of verb.DeleteAcl = codes "DELETEACL done"
done_of verb.MyRights = codes "MYRIGHTS done"
done_of verb.ListRights = codes "LISTRIGHTS done"

-- the completion of a command: tag `OK` text
unfoldable pub done_form : List ℕ → Verb → List ℕ
done_form tag verb = tag ++ codes " OK " ++ printed_form (done_of verb) ++ crlf

-- a refusal: NO or BAD under the tag, BYE under none
abbrev pub status_form : Status → List ℕ → List ℕ
status_form status.No tag = tag ++ codes " NO "
status_form status.Bad tag = tag ++ codes " BAD "
status_form status.Bye tag = codes "* BYE "

unfoldable pub refused_form : List ℕ → Refusal → List ℕ
refused_form tag refusal = status_form (status_of refusal) tag ++ code_of refusal
    ++ printed_form (text_of refusal) ++ crlf

abbrev pub greeting : List ℕ
greeting = codes "* ACAP (IMPLEMENTATION \"acapd\") (SASL \"CRAM-MD5\") (CONTEXTLIMIT \"200\")" ++ crlf

-- how many matched, as a code in its parenthesis and the space after it
unfoldable pub total_form : ℕ → List ℕ
total_form total = codes "(TOOMANY " ++ decimal total ++ codes ") "

-- the completion of a search: with how many matched where LIMIT kept some of them from being printed
unfoldable pub searched_form : List ℕ → Option ℕ → List ℕ
searched_form tag None = done_form tag verb.Search
searched_form tag (Some total) =
    tag ++ codes " OK " ++ total_form total ++ printed_form (done_of verb.Search) ++ crlf

-- the end of a search: its rows, the moment that it sends, and its completion
unfoldable pub found_form : List ℕ → SearchReply → List ℕ
found_form tag found = rows_form tag found.rows ++ last_form tag found.last ++ searched_form tag found.total

-- the name of a deleted entry: tag `DELETED` name
unfoldable pub deleted_name_form : List ℕ → List ℕ → List ℕ
deleted_name_form tag name = tag ++ codes " DELETED " ++ printed_form name ++ crlf

abbrev pub deleted_names_form : List ℕ → List (List ℕ) → List ℕ
deleted_names_form tag names = flat_map (deleted_name_form tag) names

-- the end of a DELETEDSINCE: a line for each name, and its completion
unfoldable pub deleted_form : List ℕ → List (List ℕ) → List ℕ
deleted_form tag names = deleted_names_form tag names ++ done_form tag verb.DeletedSince

-- the end of a MYRIGHTS: tag `MYRIGHTS` rights, and its completion
unfoldable pub rights_form : List ℕ → List ℕ → List ℕ
rights_form tag rights = tag ++ codes " MYRIGHTS " ++ printed_form rights ++ crlf
    ++ done_form tag verb.MyRights

-- the end of a LISTRIGHTS: tag `LISTRIGHTS` rights*, and its completion
unfoldable pub rights_list_form : List ℕ → List (List ℕ) → List ℕ
rights_list_form tag rights =
    tag ++ codes " LISTRIGHTS" ++ behind_spaces printed_form rights ++ crlf ++ done_form tag verb.ListRights

-- a login that goes on: `+` challenge, under no tag
unfoldable pub challenge_form : List ℕ → List ℕ
challenge_form challenge = codes "+ " ++ printed_form challenge ++ crlf

-- the end of a session: BYE under no tag, and then the completion
unfoldable pub good_bye_form : List ℕ → List ℕ
good_bye_form tag = codes "* BYE " ++ printed_form (codes "Good bye") ++ crlf ++ done_form tag verb.Logout

-- ---- what is sent of contexts [RFC 2244 section 6.5]: no line has a tag

-- what stands first: `*` and a word, the context and the entry, or what the word says of the context
unfoldable pub about_form : List ℕ → List ℕ → List ℕ → List ℕ
about_form word context thing = word ++ printed_form context ++ codes " " ++ printed_form thing

-- a position after a space
unfoldable pub position_form : ℕ → List ℕ
position_form position = codes " " ++ decimal position

-- an entry that came in: `ADDTO` context entry position data*
unfoldable pub added_form : List ℕ → ℕ → Row → List ℕ
added_form context position row =
    about_form (codes "* ADDTO ") context row.name ++ position_form position
    ++ behind_spaces item_form row.items ++ crlf

-- one that went: `REMOVEFROM` context entry position
unfoldable pub removed_form : List ℕ → List ℕ → ℕ → List ℕ
removed_form context entry position =
    about_form (codes "* REMOVEFROM ") context entry ++ position_form position ++ crlf

-- one that changed: `CHANGE` context entry old new data*
unfoldable pub changed_form : List ℕ → ℕ → ℕ → Row → List ℕ
changed_form context old new row =
    about_form (codes "* CHANGE ") context row.name ++ position_form old ++ position_form new
    ++ behind_spaces item_form row.items ++ crlf

abbrev pub notice_form : List ℕ → Notice → List ℕ
notice_form context (notice.AddTo position row) = added_form context position row
notice_form context (notice.RemoveFrom entry position) = removed_form context entry position
notice_form context (notice.Change old new row) = changed_form context old new row

-- all up to a moment was sent: `MODTIME` context stamp
unfoldable pub upto_form : List ℕ → ℤ → List ℕ
upto_form context moment = about_form (codes "* MODTIME ") context (stamp_of moment) ++ crlf

-- the server gave a context up: `ALERT` text, in which its name stands
unfoldable pub freed_form : List ℕ → List ℕ
freed_form context = codes "* ALERT " ++ printed_form (codes "Context freed: " ++ context) ++ crlf

abbrev pub told_form : Told → List ℕ
told_form (told.Note context notice) = notice_form context notice
told_form (told.Upto context moment) = upto_form context moment
told_form (told.Freed context) = freed_form context

abbrev pub tolds_form : List Told → List ℕ
tolds_form tolds = flat_map told_form tolds

-- the end of an UPDATECONTEXT: what is sent, and its completion
unfoldable pub updated_form : List ℕ → List Told → List ℕ
updated_form tag tolds = tolds_form tolds ++ done_form tag verb.UpdateContext

-- what is said, under a tag
unfoldable pub said_form : List ℕ → Said → List ℕ
said_form tag said.Greeting = greeting
said_form tag said.Left = []
said_form tag (said.Drained tolds) = tolds_form tolds
said_form tag (said.Updated tolds) = updated_form tag tolds
said_form tag (said.Done verb) = done_form tag verb
said_form tag (said.Searched found) = found_form tag found
said_form tag (said.Deleted names) = deleted_form tag names
said_form tag (said.Rights rights) = rights_form tag rights
said_form tag (said.RightsList rights) = rights_list_form tag rights
said_form tag (said.Challenge challenge) = challenge_form challenge
said_form tag said.GoodBye = good_bye_form tag
said_form tag (said.Refused refusal) = refused_form tag refusal

-- without a tag a `*` stands in its place
abbrev pub tag_of : Option (List ℕ) → List ℕ
tag_of None = codes "*"
tag_of (Some tag) = tag

-- The octets of a reply.
unfoldable pub octets_of : Reply → List ℕ
octets_of reply = said_form (tag_of reply.tag) reply.said
