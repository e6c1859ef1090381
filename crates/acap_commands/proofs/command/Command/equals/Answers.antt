use Rattle.std.proofs.Common.{◌≡◌, sym, ◌∙◌}
use Rattle.acap_entries.proofs.Equalities.{values_exact}
use Rattle.acap_commands.proofs.CommandEquality.{store_entries_exact}
use Rattle.acap_commands.proofs.command.Command.equals.Goals as goal

pub returns-in-Store-Store : goal.returns-in-Store-Store
returns-in-Store-Store c =
    let one = c.in-Store-Store.one in
    let two = c.in-Store-Store.two in
    let h = store_entries_exact one two in (
      λ e. let same : one ≡ two = h.0 (sym c.eq-in-Store-Store.ensures ∙ e) in cc,
      λ e. let same : one ≡ two = cc in c.eq-in-Store-Store.ensures ∙ h.1 same,
    )

pub returns-in-UpdateContext-UpdateContext : goal.returns-in-UpdateContext-UpdateContext
returns-in-UpdateContext-UpdateContext c =
    let one = c.in-UpdateContext-UpdateContext.one in
    let two = c.in-UpdateContext-UpdateContext.two in
    let h = values_exact one two in (
      λ e. let same : one ≡ two = h.0 (sym c.eq-in-UpdateContext-UpdateContext.ensures ∙ e) in cc,
      λ e. let same : one ≡ two = cc in c.eq-in-UpdateContext-UpdateContext.ensures ∙ h.1 same,
    )
