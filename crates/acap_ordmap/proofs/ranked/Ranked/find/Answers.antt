use Rattle.std.proofs.Common.{Some, None, ap, ◌∙◌}
use Rattle.acap_ordmap.proofs.RankLemmas.{items, item_of}
use Rattle.acap_ordmap.proofs.ranked.Ranked.find.Goals as goal

pub returns-in_err-entry_among : goal.returns-in_err-entry_among
returns-in_err-entry_among g c = rw c.from_residual.ensures (item_of g.T.Ord.cmp (g.Q.Probe.key c.args.probe.now) _ None _ c.in_err-entry_among.ensures (ap items c.as_slice.ensures.items ∙ ap (λ v. v.0) c.self.view_is))

pub returns : goal.returns
returns g c = item_of g.T.Ord.cmp (g.Q.Probe.key c.args.probe.now) _ (Some c.in_ok-entry_among.field-0.now) _ c.in_ok-entry_among.ensures (ap items c.as_slice.ensures.items ∙ ap (λ v. v.0) c.self.view_is)
