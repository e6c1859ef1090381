use Rattle.std.proofs.Common.{length, sym, ap, subst, ◌∙◌, arith}
use borrow.Author.Tests.{eqb-true}
use Rattle.acap_ordmap.specs.Leaves.{contents}
use Rattle.acap_ordmap.specs.Ranks.{rank_of}
use Rattle.acap_ordmap.specs.Sorted.{InOrder}
use Rattle.acap_ordmap.proofs.SortedLemmas.{place_le}
use Rattle.acap_ordmap.proofs.RankLemmas.{items, items_length, place_rank, rank_empty}
use Rattle.acap_ordmap.proofs.ranked.Ranked.rank.Goals as goal

pub returns-then-is_empty-clause-value : goal.returns-then-is_empty-clause-value
returns-then-is_empty-clause-value g c =
    let same = ap items c.as_slice-leaves.ensures.items ∙ ap (λ v. v.0) c.self.view_is in
    rank_empty g.T.Ord.cmp (g.Q.Probe.key c.args.probe.now) c.as_slice-leaves.result.now c.args.self.now.0 (eqb-true _ _ (sym c.if-is_empty.ensures)) same

pub returns-clause-value : goal.returns-clause-value
returns-clause-value g c =
    let key = g.Q.Probe.key c.args.probe.now in
    let same = ap items c.as_slice-leaves.ensures.items ∙ ap (λ v. v.0) c.self.view_is in
    let order = subst (λ es. InOrder g.T.Ord.cmp es) (sym c.as_slice-leaves.ensures.items) c.self.invariant in
    c.count_before.ensures ∙ place_rank g.T.Ord.cmp g.met.T.Ord.total key (contents c.as_slice-leaves.result.now) order ∙ ap (λ xs. rank_of g.T.Ord.cmp key xs) same

pub returns-clause-within : goal.returns-clause-within
returns-clause-within g c =
    let same = ap items c.as_slice-leaves.ensures.items ∙ ap (λ v. v.0) c.self.view_is in
    let long = items_length (contents c.as_slice-leaves.result.now) in
    omega (arith, c.count_before.ensures, place_le g.T.Ord.cmp (g.Q.Probe.key c.args.probe.now) (contents c.as_slice-leaves.result.now), long, ap length same)
