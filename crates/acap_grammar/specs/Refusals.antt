-- How a refusal is sent: NO, BAD or BYE, a code in some, and a text [RFC 2244 sections 3.6 and 6.2].
use Rattle.std.specs.Prelude.{ℕ, List, [], ◌++◌, codes}
use Rattle.acap_lexer.specs.declared.fault.LexFault.{LexFault}
use Rattle.acap_lexer.specs.declared.fault.LexFault.TheVariants as lexical
use Rattle.acap_lexer.specs.Printing.{printed_form}
use Rattle.acap_entries.specs.declared.path.Path.{Path}
use Rattle.acap_grammar.specs.declared.command_fault.CommandFault.{CommandFault}
use Rattle.acap_grammar.specs.declared.command_fault.CommandFault.TheVariants as fault
use Rattle.acap_commands.specs.declared.object_name.ObjectName.{ObjectName}
use Rattle.acap_commands.specs.declared.object_name.ObjectName.TheVariants as object_name
use Rattle.acap_commands.specs.declared.refusal.Refusal.{Refusal}
use Rattle.acap_commands.specs.declared.refusal.Refusal.TheVariants as refusal

-- the refusal of a line with this lexical fault
abbrev pub of_lexical : LexFault → Refusal
of_lexical lexical.BadTag = refusal.BadTag
of_lexical lexical.BadToken = refusal.BadToken
of_lexical lexical.BadLiteral = refusal.BadLiteral
of_lexical lexical.CommandTooLong = refusal.CommandTooLong
of_lexical lexical.LineTooLong = refusal.LineTooLong

-- the refusal of a command with this fault
abbrev pub of_grammar : CommandFault → Refusal
of_grammar fault.UnknownCommand = refusal.UnknownCommand
of_grammar fault.Arguments = refusal.Arguments
of_grammar fault.NotPermittedTwice = refusal.NotPermittedTwice
of_grammar fault.BadName = refusal.BadName
of_grammar fault.BadTime = refusal.BadTime
of_grammar fault.BadComparator = refusal.BadComparator
of_grammar fault.TooDeep = refusal.TooDeep
of_grammar fault.TooMany = refusal.TooMany

abbrev pub text_of : Refusal → List ℕ
text_of refusal.BadTag = codes "Bad tag"
text_of refusal.BadToken = codes "Bad token"
text_of refusal.BadLiteral = codes "Bad literal"
text_of refusal.CommandTooLong = codes "Command too long"
text_of refusal.LineTooLong = codes "Line too long"
text_of refusal.UnknownCommand = codes "Unknown command"
text_of refusal.Arguments = codes "Bad arguments"
text_of refusal.NotPermittedTwice = codes "Not permitted twice"
text_of refusal.BadName = codes "Bad name"
text_of refusal.BadTime = codes "Bad time"
text_of refusal.BadComparator = codes "Bad comparator"
text_of refusal.TooDeep = codes "Too deep"
text_of refusal.TooMany = codes "Too many"
text_of refusal.NotLoggedIn = codes "Log in first"
text_of refusal.LoggedIn = codes "Already logged in"
text_of refusal.Cancelled = codes "Login cancelled"
text_of refusal.NoMechanism = codes "Mechanism not offered"
text_of refusal.LoginFailed = codes "Login failed"
text_of (refusal.Permission object) = codes "Permission denied"
text_of (refusal.NoExist dataset) = codes "No such dataset"
text_of (refusal.Modified path) = codes "Entry was changed"
text_of (refusal.Invalid path attribute) = codes "Invalid value"
text_of refusal.Limit = codes "Limit reached"
text_of refusal.ClockEnd = codes "Clock at its end"
text_of refusal.RangeHere = codes "RANGE needs an enumerated context"
text_of refusal.TooOld = codes "Time too old"
text_of refusal.WayTooMany = codes "Too many matches"
text_of refusal.TryFreeContext = codes "Too many contexts"
text_of refusal.NoContext = codes "No such context"
text_of refusal.FreedContext = codes "Context was freed"
text_of refusal.NotNotify = codes "Context has no NOTIFY"
text_of refusal.Memory = codes "No memory"
text_of refusal.HistoryFull = codes "History is full"
text_of refusal.TooManySessions = codes "Too many sessions"

-- a path is printed as one string: its dataset and then its name
unfoldable pub path_form : Path → List ℕ
path_form path = printed_form (path.dataset ++ path.name)

-- an object: `(` dataset [attribute [entry name]] `)`
unfoldable pub object_form : ObjectName → List ℕ
object_form (object_name.Dataset dataset) = codes "(" ++ printed_form dataset ++ codes ")"
object_form (object_name.Attribute dataset attribute) =
    codes "(" ++ printed_form dataset ++ codes " " ++ printed_form attribute ++ codes ")"
object_form (object_name.Entry dataset attribute name) =
    codes "(" ++ printed_form dataset ++ codes " " ++ printed_form attribute ++ codes " " ++ printed_form name
    ++ codes ")"

abbrev pub permission_code : ObjectName → List ℕ
permission_code object = codes "(PERMISSION " ++ object_form object ++ codes ") "

-- the code in its parenthesis and the space after it, where there is one
unfoldable pub code_of : Refusal → List ℕ
code_of (refusal.Permission object) = permission_code object
code_of (refusal.NoExist dataset) = codes "(NOEXIST " ++ printed_form dataset ++ codes ") "
code_of (refusal.Modified path) = codes "(MODIFIED " ++ path_form path ++ codes ") "
code_of (refusal.Invalid path attribute) =
    codes "(INVALID (" ++ path_form path ++ codes " " ++ printed_form attribute ++ codes ")) "
code_of refusal.TooOld = codes "(TOOOLD) "
code_of refusal.WayTooMany = codes "(WAYTOOMANY) "
code_of refusal.TryFreeContext = codes "(TRYFREECONTEXT) "
code_of refusal.Memory = codes "(TRYLATER) "
code_of refusal.HistoryFull = codes "(TRYLATER) "
code_of _ = []
