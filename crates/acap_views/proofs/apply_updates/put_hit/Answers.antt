use Rattle.std.proofs.Common.{sym, ◌∙◌}
use Rattle.acap_views.proofs.UpdateLemmas.{with_tied_if, some_copied}
use Rattle.acap_views.proofs.apply_updates.put_hit.Goals as goal

pub returns-then-is_some-clause-list : goal.returns-then-is_some-clause-list
returns-then-is_some-clause-list c =
    sym (with_tied_if c.args.hit c.args.now.now.0 c.ascends.ensures (some_copied _ _ c.find.ensures ∙ (sym c.is_some.ensures ∙ c.if-is_some.true)))
