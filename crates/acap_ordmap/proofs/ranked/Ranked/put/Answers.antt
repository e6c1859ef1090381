use Rattle.std.proofs.Common.{ap, ◌∙◌}
use Rattle.acap_ordmap.specs.Ranks.{with_item}
use Rattle.acap_ordmap.proofs.MapLemmas.{put_in_order}
use Rattle.acap_ordmap.proofs.RankLemmas.{items, put_items}
use Rattle.acap_ordmap.proofs.ranked.Ranked.put.Goals as goal

pub invariant_of-self : goal.invariant_of-self
invariant_of-self g c = rw c.put.ensures.entries (put_in_order g.T.Ord.cmp g.met.T.Ord.total _ _ _ c.self.invariant)

pub returns-clause-items : goal.returns-clause-items
returns-clause-items g c = ap items c.put.ensures.entries ∙ put_items g.T.Ord.cmp c.args.item tt c.self.inside.entries.0 ∙ ap (λ v. with_item g.T.Ord.cmp c.args.item v.0) c.self.view_is
