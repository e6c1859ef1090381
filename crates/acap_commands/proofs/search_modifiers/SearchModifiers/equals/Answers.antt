use Rattle.std.proofs.Common.{sym, ◌∙◌}
use Rattle.acap_commands.proofs.CommandEquality.{search_modifiers_exact}
use Rattle.acap_commands.proofs.search_modifiers.SearchModifiers.equals.Goals as goal

pub returns : goal.returns
returns c = let h = search_modifiers_exact c.args.self.now c.args.other.now in (λ e. h.0 (sym c.eq.ensures ∙ e), λ e. c.eq.ensures ∙ h.1 e)
