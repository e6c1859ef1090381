-- Which refusals are sent as NO, BAD or BYE [RFC 2244 section 6.2].
use Rattle.acap_commands.specs.declared.refusal.Refusal.{Refusal}
use Rattle.acap_commands.specs.declared.refusal.Refusal.TheVariants as refusal
use Rattle.acap_commands.specs.declared.refusal.Status.{Status}
use Rattle.acap_commands.specs.declared.refusal.Status.TheVariants as status

-- NO where the command failed, BAD where it can't be one, BYE where the session is closed
abbrev pub status_of : Refusal → Status
status_of refusal.BadTag = status.Bad
status_of refusal.BadToken = status.Bad
status_of refusal.BadLiteral = status.Bad
status_of refusal.CommandTooLong = status.Bye
status_of refusal.LineTooLong = status.Bye
status_of refusal.UnknownCommand = status.Bad
status_of refusal.Arguments = status.Bad
status_of refusal.NotPermittedTwice = status.Bad
status_of refusal.BadName = status.Bad
status_of refusal.BadTime = status.Bad
status_of refusal.BadComparator = status.Bad
status_of refusal.TooDeep = status.Bad
status_of refusal.TooMany = status.Bad
status_of refusal.NotLoggedIn = status.Bad
status_of refusal.LoggedIn = status.Bad
status_of refusal.Cancelled = status.Bad
status_of refusal.RangeHere = status.Bad
status_of refusal.TooManySessions = status.Bye
status_of _ = status.No
