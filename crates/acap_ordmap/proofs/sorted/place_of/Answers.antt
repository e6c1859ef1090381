use Rattle.std.proofs.Common.{◌≡◌, ◌<◌, ◌+◌, ◌-◌, ◌/◌, length, get_or, sym, arith}
use Rattle.std.specs.declared.cmp.Ordering.TheVariants.{Less, Equal, Greater}
use Rattle.acap_ordmap.proofs.SortedLemmas.{place_le, tied_lt}
use Rattle.acap_ordmap.proofs.Halves.{less_at, equal_at, greater_at}
use Rattle.acap_ordmap.proofs.sorted.place_of.Goals as goal

pub loop-low-init : goal.loop-low-init
loop-low-init g c = record { lower = omega arith; upper = place_le g.K.Ord.cmp _ _; within = omega arith; tied = tied_lt g.K.Ord.cmp _ _ }

pub loop-low-preserved-in-Less : goal.loop-low-preserved-in-Less
loop-low-preserved-in-Less g c =
    let key = g.Q.Probe.key c.args.probe.now in
    let mid = c.loop-low.low + (c.loop-low.high - c.loop-low.low) / 2 in
    let within : mid < length c.args.entries.now = omega (arith, c.loop-low.invariant.within) in
    let at : g.K.Ord.cmp key (get_or c.args.entries.now mid c.index-entries-mid.result).0 ≡ Less = cc (c.compare.ensures, c.in-Less.is, c.index-entries-mid.is) in
    let f = less_at g.K.Ord.cmp g.met.K.Ord.total key c.args.entries.now mid c.index-entries-mid.result c.requires within at in
    record { lower = c.loop-low.invariant.lower; upper = f.0; within = omega (arith, within); tied = f.1 }

pub returns-in-Equal-clause-place : goal.returns-in-Equal-clause-place
returns-in-Equal-clause-place g c =
    let key = g.Q.Probe.key c.args.probe.now in
    let mid = c.loop-low.low + (c.loop-low.high - c.loop-low.low) / 2 in
    let within : mid < length c.args.entries.now = omega (arith, c.loop-low.invariant.within) in
    let at : g.K.Ord.cmp key (get_or c.args.entries.now mid c.index-entries-mid.result).0 ≡ Equal = cc (c.compare.ensures, c.in-Equal.is, c.index-entries-mid.is) in
    sym (equal_at g.K.Ord.cmp g.met.K.Ord.total key c.args.entries.now mid c.index-entries-mid.result c.requires within at).0

pub returns-in-Equal-clause-tied : goal.returns-in-Equal-clause-tied
returns-in-Equal-clause-tied g c =
    let key = g.Q.Probe.key c.args.probe.now in
    let mid = c.loop-low.low + (c.loop-low.high - c.loop-low.low) / 2 in
    let within : mid < length c.args.entries.now = omega (arith, c.loop-low.invariant.within) in
    let at : g.K.Ord.cmp key (get_or c.args.entries.now mid c.index-entries-mid.result).0 ≡ Equal = cc (c.compare.ensures, c.in-Equal.is, c.index-entries-mid.is) in
    sym (equal_at g.K.Ord.cmp g.met.K.Ord.total key c.args.entries.now mid c.index-entries-mid.result c.requires within at).1

pub loop-low-preserved : goal.loop-low-preserved
loop-low-preserved g c =
    let key = g.Q.Probe.key c.args.probe.now in
    let mid = c.loop-low.low + (c.loop-low.high - c.loop-low.low) / 2 in
    let within : mid < length c.args.entries.now = omega (arith, c.loop-low.invariant.within) in
    let at : g.K.Ord.cmp key (get_or c.args.entries.now mid c.index-entries-mid.result).0 ≡ Greater = cc (c.compare.ensures, c.in-Greater.is, c.index-entries-mid.is) in
    let above = greater_at g.K.Ord.cmp g.met.K.Ord.total key c.args.entries.now mid c.index-entries-mid.result c.requires within at in
    record { lower = omega (arith, above); upper = c.loop-low.invariant.upper; within = c.loop-low.invariant.within; tied = c.loop-low.invariant.tied }
