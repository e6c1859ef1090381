use Rattle.std.proofs.Common.{ap, ◌∙◌, arith}
use Rattle.acap_ordmap.specs.Ranks.{rank_of, with_item, without_item}
use Rattle.acap_ordmap.proofs.MapLemmas.{put_in_order, without_in_order}
use Rattle.acap_ordmap.proofs.RankLemmas.{items, items_length, item_of, put_items, without_items, place_rank}
use Rattle.acap_ordmap.proofs.ranked.Ranked.replace.Goals as goal

pub invariant_of-self : goal.invariant_of-self
invariant_of-self g c = rw c.replace-rank.ensures.entries (put_in_order g.T.Ord.cmp g.met.T.Ord.total _ _ _ (without_in_order g.T.Ord.cmp g.met.T.Ord.total _ _ c.self.invariant))

pub returns-clause-place : goal.returns-clause-place
returns-clause-place g c =
    c.replace-rank.ensures.place ∙ place_rank g.T.Ord.cmp g.met.T.Ord.total c.args.item c.self.inside.entries.0 c.self.invariant ∙ ap (λ v. rank_of g.T.Ord.cmp c.args.item v.0) c.self.view_is

pub returns-clause-within : goal.returns-clause-within
returns-clause-within g c = omega (arith, c.replace-rank.ensures.within, items_length c.replace-rank.new.self.0)

pub returns-clause-taken : goal.returns-clause-taken
returns-clause-taken g c =
    c.alone.ensures ∙ item_of g.T.Ord.cmp c.args.item c.self.inside.entries.0 c.replace-rank.result.1 _ c.replace-rank.ensures.taken (ap (λ v. v.0) c.self.view_is)

pub returns-clause-items : goal.returns-clause-items
returns-clause-items g c =
    ap items c.replace-rank.ensures.entries
    ∙ put_items g.T.Ord.cmp c.args.item tt _
    ∙ ap (with_item g.T.Ord.cmp c.args.item) (without_items g.T.Ord.cmp c.args.item c.self.inside.entries.0 ∙ ap (λ v. without_item g.T.Ord.cmp c.args.item v.0) c.self.view_is)
