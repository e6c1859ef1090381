use Rattle.std.proofs.Common.{Some, None, ap, ◌∙◌}
use Rattle.acap_ordmap.specs.Ranks.{without_item}
use Rattle.acap_ordmap.proofs.MapLemmas.{without_in_order}
use Rattle.acap_ordmap.proofs.RankLemmas.{items, item_of, without_items}
use Rattle.acap_ordmap.proofs.ranked.Ranked.take.Goals as goal

pub invariant_of-self : goal.invariant_of-self
invariant_of-self g c = rw c.take_out.ensures.entries (without_in_order g.T.Ord.cmp g.met.T.Ord.total _ _ c.self.invariant)

pub returns-in_err-item-clause-taken : goal.returns-in_err-item-clause-taken
returns-in_err-item-clause-taken g c = c.from_residual.ensures ∙ item_of g.T.Ord.cmp (g.Q.Probe.key c.args.probe.now) c.self.inside.entries.0 None _ c.in_err-item.ensures.taken (ap (λ v. v.0) c.self.view_is)

pub returns-in_err-item-clause-items : goal.returns-in_err-item-clause-items
returns-in_err-item-clause-items g c = ap items c.take_out.ensures.entries ∙ without_items g.T.Ord.cmp (g.Q.Probe.key c.args.probe.now) c.self.inside.entries.0 ∙ ap (λ v. without_item g.T.Ord.cmp (g.Q.Probe.key c.args.probe.now) v.0) c.self.view_is

pub invariant_of-self-2 : goal.invariant_of-self-2
invariant_of-self-2 g c = rw c.take_out.ensures.entries (without_in_order g.T.Ord.cmp g.met.T.Ord.total _ _ c.self.invariant)

pub returns-clause-taken : goal.returns-clause-taken
returns-clause-taken g c = item_of g.T.Ord.cmp (g.Q.Probe.key c.args.probe.now) c.self.inside.entries.0 (Some (c.in_ok-item.item, tt)) _ c.in_ok-item.ensures.taken (ap (λ v. v.0) c.self.view_is)

pub returns-clause-items : goal.returns-clause-items
returns-clause-items g c = ap items c.take_out.ensures.entries ∙ without_items g.T.Ord.cmp (g.Q.Probe.key c.args.probe.now) c.self.inside.entries.0 ∙ ap (λ v. without_item g.T.Ord.cmp (g.Q.Probe.key c.args.probe.now) v.0) c.self.view_is
