use Rattle.std.proofs.Common.{sym, ◌∙◌}
use Rattle.acap_commands.proofs.ReplyEquality.{reply_exact}
use Rattle.acap_commands.proofs.reply.Reply.equals.Goals as goal

pub returns : goal.returns
returns c = let h = reply_exact c.args.self.now c.args.other.now in (λ e. h.0 (sym c.eq.ensures ∙ e), λ e. c.eq.ensures ∙ h.1 e)
