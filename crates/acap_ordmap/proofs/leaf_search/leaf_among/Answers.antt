use Rattle.std.proofs.Common.{◌<◌, ◌+◌, ◌-◌, ◌/◌, length, sym, inl, inr, ◌∙◌, arith}
use Rattle.acap_ordmap.proofs.LeafLemmas.{is_first, leaf_less, leaf_from}
use Rattle.acap_ordmap.proofs.leaf_search.leaf_among.Goals as goal

pub loop-high-preserved-in-Less : goal.loop-high-preserved-in-Less
loop-high-preserved-in-Less g c =
    let mid = c.loop-high.low + (c.loop-high.high - c.loop-high.low) / 2 in
    let among = c.loop-high.invariant.among in
    let within : mid < length c.args.leaves.now = omega (arith, among.within) in
    let at = is_first c.args.leaves.now mid c.index-leaves-mid.result c.first.result.now c.requires.filled within c.index-leaves-mid.is c.first.ensures in
    let less = leaf_less g.K.Ord.cmp g.met.K.Ord.total (g.Q.Probe.key c.args.probe.now) c.args.leaves.now mid c.first.result.now c.requires.sorted at (sym c.compare.ensures ∙ c.in-Less.is) in
    record {
      among = record { rise = omega arith; within = omega (arith, within); from = among.from; until = less.0; tied = less.1 };
      from = c.loop-high.invariant.from;
      until = omega (arith, among.rise, c.loop-high.invariant.until);
    }

pub loop-high-preserved : goal.loop-high-preserved
loop-high-preserved g c =
    let mid = c.loop-high.low + (c.loop-high.high - c.loop-high.low) / 2 in
    let among = c.loop-high.invariant.among in
    let within : mid < length c.args.leaves.now = omega (arith, among.within) in
    let at = is_first c.args.leaves.now mid c.index-leaves-mid.result c.first.result.now c.requires.filled within c.index-leaves-mid.is c.first.ensures in
    let from = leaf_from g.K.Ord.cmp g.met.K.Ord.total (g.Q.Probe.key c.args.probe.now) c.args.leaves.now mid c.first.result.now c.requires.sorted at (elim c.in-Equal.is [ inl e ↦ inl (sym c.compare.ensures ∙ e) | inr e ↦ inr (sym c.compare.ensures ∙ e) ]) in
    record {
      among = record { rise = omega arith; within = among.within; from = from; until = among.until; tied = among.tied };
      from = omega (arith, c.loop-high.invariant.from);
      until = c.loop-high.invariant.until;
    }
