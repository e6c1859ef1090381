-- Equality of replies, and of all that they are made of, is exact.
use Rattle.std.proofs.Common.{◌≡◌, true, true≢false, List, refl, sym, ap}
use Rattle.std.specs.Bool.{Decides}
use Rattle.std.specs.Cmp.{unsigned_Decides, signed_Decides}
use Rattle.std.specs.Cmp.Lexicographic.{bytes_decides, pointwise, pointwise_decides}
use Rattle.acap_entries.specs.declared.path.Path.{Path}
use Rattle.acap_entries.specs.contracts.path.PathPartialEq.TheImpl as path_eq
use Rattle.acap_entries.specs.contracts.path.PathEq.TheImpl.Laws as path_laws
use Rattle.acap_entries.proofs.Equalities.{pair_exact, values_exact, rows_exact}
use Rattle.acap_notices.specs.declared.told.Told.{Told}
use Rattle.acap_notices.specs.contracts.told.ToldPartialEq.TheImpl as told_eq
use Rattle.acap_notices.proofs.NoticeEquality.{told_exact}
use Rattle.acap_commands.specs.declared.said.SearchReply.{SearchReply}
use Rattle.acap_commands.specs.declared.object_name.ObjectName.{ObjectName}
use Rattle.acap_commands.specs.declared.object_name.ObjectName.TheVariants as object_name
use Rattle.acap_commands.specs.declared.refusal.Refusal.{Refusal}
use Rattle.acap_commands.specs.declared.refusal.Refusal.TheVariants as refusal
use Rattle.acap_commands.specs.declared.reply.Reply.{Reply}
use Rattle.acap_commands.specs.declared.said.Said.{Said}
use Rattle.acap_commands.specs.declared.said.Said.TheVariants as said
use Rattle.acap_commands.specs.declared.command.Verb.{Verb}
use Rattle.acap_commands.specs.declared.command.Verb.TheVariants as verb
use Rattle.acap_commands.specs.contracts.said.SearchReplyPartialEq.TheImpl as found_eq
use Rattle.acap_commands.specs.contracts.said.SearchReplyEq.TheImpl.Laws as found_laws
use Rattle.acap_commands.specs.contracts.object_name.ObjectNamePartialEq.TheImpl as object_name_eq
use Rattle.acap_commands.specs.contracts.object_name.ObjectNameEq.TheImpl.Laws as object_name_laws
use Rattle.acap_commands.specs.contracts.refusal.RefusalPartialEq.TheImpl as refusal_eq
use Rattle.acap_commands.specs.contracts.refusal.RefusalEq.TheImpl.Laws as refusal_laws
use Rattle.acap_commands.specs.contracts.reply.ReplyPartialEq.TheImpl as reply_eq
use Rattle.acap_commands.specs.contracts.reply.ReplyEq.TheImpl.Laws as reply_laws
use Rattle.acap_commands.specs.contracts.said.SaidPartialEq.TheImpl as said_eq
use Rattle.acap_commands.specs.contracts.said.SaidEq.TheImpl.Laws as said_laws
use Rattle.acap_commands.specs.contracts.command.VerbPartialEq.TheImpl as verb_eq
use Rattle.acap_commands.specs.contracts.command.VerbEq.TheImpl.Laws as verb_laws
use Rattle.acap_commands.proofs.Exact.{exact_of, option_exact}

path_same : (a b : Path) → path_eq.ghosts.eq a b ≡ true → a ≡ b
path_same a b e =
    let h = (pair_exact bytes_decides bytes_decides (a.dataset, a.name) (b.dataset, b.name)).0 e in
    λ i. record { dataset = (h i).0; name = (h i).1 }

pub path_exact : (a b : Path) → Decides (path_eq.ghosts.eq a b) (a ≡ b)
path_exact = exact_of path_laws.laws-law path_same

object_name_same : (a b : ObjectName) → object_name_eq.ghosts.eq a b ≡ true → a ≡ b
object_name_same (object_name.Dataset p) (object_name.Dataset u) e = ap object_name.Dataset ((bytes_decides p u).0 e)
object_name_same (object_name.Attribute p q) (object_name.Attribute u v) e =
    let h = (pair_exact bytes_decides bytes_decides (p, q) (u, v)).0 e in
    λ i. object_name.Attribute (h i).0 (h i).1
object_name_same (object_name.Entry p q r) (object_name.Entry u v w) e =
    let h = (pair_exact bytes_decides (pair_exact bytes_decides bytes_decides) (p, (q, r)) (u, (v, w))).0 e in
    λ i. object_name.Entry (h i).0 (h i).1.0 (h i).1.1
object_name_same a b e = absurd (true≢false (sym e))

pub object_name_exact : (a b : ObjectName) → Decides (object_name_eq.ghosts.eq a b) (a ≡ b)
object_name_exact = exact_of object_name_laws.laws-law object_name_same

found_same : (a b : SearchReply) → found_eq.ghosts.eq a b ≡ true → a ≡ b
found_same a b e =
    let h = (pair_exact rows_exact (pair_exact (option_exact signed_Decides) (option_exact unsigned_Decides)) (a.rows, (a.last, a.total)) (b.rows, (b.last, b.total))).0 e in
    λ i. record { rows = (h i).0; last = (h i).1.0; total = (h i).1.1 }

pub found_exact : (a b : SearchReply) → Decides (found_eq.ghosts.eq a b) (a ≡ b)
found_exact = exact_of found_laws.laws-law found_same

verb_same : (a b : Verb) → verb_eq.ghosts.eq a b ≡ true → a ≡ b
verb_same verb.Noop verb.Noop e = refl
verb_same verb.Logout verb.Logout e = refl
verb_same verb.Authenticate verb.Authenticate e = refl
verb_same verb.Search verb.Search e = refl
verb_same verb.FreeContext verb.FreeContext e = refl
verb_same verb.UpdateContext verb.UpdateContext e = refl
verb_same verb.Store verb.Store e = refl
verb_same verb.DeletedSince verb.DeletedSince e = refl
verb_same verb.SetAcl verb.SetAcl e = refl
verb_same verb.DeleteAcl verb.DeleteAcl e = refl
verb_same verb.MyRights verb.MyRights e = refl
verb_same verb.ListRights verb.ListRights e = refl
verb_same a b e = absurd (true≢false (sym e))

pub verb_exact : (a b : Verb) → Decides (verb_eq.ghosts.eq a b) (a ≡ b)
verb_exact = exact_of verb_laws.laws-law verb_same

refusal_same : (a b : Refusal) → refusal_eq.ghosts.eq a b ≡ true → a ≡ b
refusal_same refusal.BadTag refusal.BadTag e = refl
refusal_same refusal.BadToken refusal.BadToken e = refl
refusal_same refusal.BadLiteral refusal.BadLiteral e = refl
refusal_same refusal.CommandTooLong refusal.CommandTooLong e = refl
refusal_same refusal.LineTooLong refusal.LineTooLong e = refl
refusal_same refusal.UnknownCommand refusal.UnknownCommand e = refl
refusal_same refusal.Arguments refusal.Arguments e = refl
refusal_same refusal.NotPermittedTwice refusal.NotPermittedTwice e = refl
refusal_same refusal.BadName refusal.BadName e = refl
refusal_same refusal.BadTime refusal.BadTime e = refl
refusal_same refusal.BadComparator refusal.BadComparator e = refl
refusal_same refusal.TooDeep refusal.TooDeep e = refl
refusal_same refusal.TooMany refusal.TooMany e = refl
refusal_same refusal.NotLoggedIn refusal.NotLoggedIn e = refl
refusal_same refusal.LoggedIn refusal.LoggedIn e = refl
refusal_same refusal.Cancelled refusal.Cancelled e = refl
refusal_same refusal.NoMechanism refusal.NoMechanism e = refl
refusal_same refusal.LoginFailed refusal.LoginFailed e = refl
refusal_same (refusal.Permission x) (refusal.Permission y) e = ap refusal.Permission ((object_name_exact x y).0 e)
refusal_same (refusal.NoExist x) (refusal.NoExist y) e = ap refusal.NoExist ((bytes_decides x y).0 e)
refusal_same (refusal.Modified x) (refusal.Modified y) e = ap refusal.Modified ((path_exact x y).0 e)
refusal_same (refusal.Invalid p x) (refusal.Invalid q y) e =
    let h = (pair_exact path_exact bytes_decides (p, x) (q, y)).0 e in
    λ i. refusal.Invalid (h i).0 (h i).1
refusal_same refusal.Limit refusal.Limit e = refl
refusal_same refusal.ClockEnd refusal.ClockEnd e = refl
refusal_same refusal.RangeHere refusal.RangeHere e = refl
refusal_same refusal.TooOld refusal.TooOld e = refl
refusal_same refusal.WayTooMany refusal.WayTooMany e = refl
refusal_same refusal.TryFreeContext refusal.TryFreeContext e = refl
refusal_same refusal.NoContext refusal.NoContext e = refl
refusal_same refusal.FreedContext refusal.FreedContext e = refl
refusal_same refusal.NotNotify refusal.NotNotify e = refl
refusal_same refusal.Memory refusal.Memory e = refl
refusal_same refusal.HistoryFull refusal.HistoryFull e = refl
refusal_same refusal.TooManySessions refusal.TooManySessions e = refl
refusal_same a b e = absurd (true≢false (sym e))

pub refusal_exact : (a b : Refusal) → Decides (refusal_eq.ghosts.eq a b) (a ≡ b)
refusal_exact = exact_of refusal_laws.laws-law refusal_same

tolds_exact : (a b : List Told) → Decides (pointwise told_eq.ghosts.eq a b) (a ≡ b)
tolds_exact = pointwise_decides told_exact

said_same : (a b : Said) → said_eq.ghosts.eq a b ≡ true → a ≡ b
said_same said.Greeting said.Greeting e = refl
said_same said.Left said.Left e = refl
said_same (said.Drained x) (said.Drained y) e = ap said.Drained ((tolds_exact x y).0 e)
said_same (said.Updated x) (said.Updated y) e = ap said.Updated ((tolds_exact x y).0 e)
said_same (said.Done x) (said.Done y) e = ap said.Done ((verb_exact x y).0 e)
said_same (said.Searched x) (said.Searched y) e = ap said.Searched ((found_exact x y).0 e)
said_same (said.Deleted x) (said.Deleted y) e = ap said.Deleted ((values_exact x y).0 e)
said_same (said.Rights x) (said.Rights y) e = ap said.Rights ((bytes_decides x y).0 e)
said_same (said.RightsList x) (said.RightsList y) e = ap said.RightsList ((values_exact x y).0 e)
said_same (said.Challenge x) (said.Challenge y) e = ap said.Challenge ((bytes_decides x y).0 e)
said_same said.GoodBye said.GoodBye e = refl
said_same (said.Refused x) (said.Refused y) e = ap said.Refused ((refusal_exact x y).0 e)
said_same a b e = absurd (true≢false (sym e))

pub said_exact : (a b : Said) → Decides (said_eq.ghosts.eq a b) (a ≡ b)
said_exact = exact_of said_laws.laws-law said_same

reply_same : (a b : Reply) → reply_eq.ghosts.eq a b ≡ true → a ≡ b
reply_same a b e =
    let h = (pair_exact (option_exact bytes_decides) said_exact (a.tag, a.said) (b.tag, b.said)).0 e in
    λ i. record { tag = (h i).0; said = (h i).1 }

pub reply_exact : (a b : Reply) → Decides (reply_eq.ghosts.eq a b) (a ≡ b)
reply_exact = exact_of reply_laws.laws-law reply_same
