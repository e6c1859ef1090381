use Rattle.std.proofs.Common.{sym, ◌∙◌}
use Rattle.acap_commands.proofs.CommandEquality.{target_exact}
use Rattle.acap_commands.proofs.target.Target.equals.Goals as goal

pub returns : goal.returns
returns c = let h = target_exact c.args.self.now c.args.other.now in (λ e. h.0 (sym c.eq.ensures ∙ e), λ e. c.eq.ensures ∙ h.1 e)
