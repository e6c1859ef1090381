use Rattle.std.proofs.Common.{sym, ◌∙◌}
use Rattle.acap_commands.proofs.CommandEquality.{test_exact}
use Rattle.acap_commands.proofs.test.Test.equals.Goals as goal

pub returns : goal.returns
returns c = let h = test_exact c.args.self.now c.args.other.now in (λ e. h.0 (sym c.eq.ensures ∙ e), λ e. c.eq.ensures ∙ h.1 e)
