use Rattle.std.proofs.Common.{◌<◌, ◌-◌, length, get_or, [], arith, ap, sym, ◌∙◌}
use Rattle.acap_ordmap.proofs.LeafLemmas.{leaf_read}
use Rattle.acap_ordmap.proofs.ReplaceLemmas.{ties_there, belongs_there}
use Rattle.acap_ordmap.proofs.replacing.look_at.Goals as goal

pub returns-in-Equal-clause-lies : goal.returns-in-Equal-clause-lies
returns-in-Equal-clause-lies g c =
    let at : c.args.finger.leaf < length c.args.leaves.now = omega (arith, c.if-finger-leaves.false) in
    let same = c.as_slice-entries.ensures ∙ sym (leaf_read _ _ _ at c.index-leaves-finger.is) in
    let within : c.args.finger.at < length (get_or c.args.leaves.now c.args.finger.leaf []) = omega (arith, ap length same, c.if-finger-entries.false) in
    let read = c.index-entries-finger.is ∙ ap (λ es. get_or es c.args.finger.at c.index-entries-finger.result) same in
    let key = g.Q.Probe.key c.args.probe.now in
    let tie = ap (λ e. g.K.Ord.cmp key e.0) c.index-entries-finger.is ∙ sym c.compare.ensures ∙ c.in-Equal.is in
    (ties_there g.K.Ord.cmp g.met.K.Ord.total key c.args.leaves.now c.args.finger.leaf c.args.finger.at c.index-entries-finger.result c.requires at within read tie).0

pub returns-in-Equal-clause-tied : goal.returns-in-Equal-clause-tied
returns-in-Equal-clause-tied g c =
    let at : c.args.finger.leaf < length c.args.leaves.now = omega (arith, c.if-finger-leaves.false) in
    let same = c.as_slice-entries.ensures ∙ sym (leaf_read _ _ _ at c.index-leaves-finger.is) in
    let within : c.args.finger.at < length (get_or c.args.leaves.now c.args.finger.leaf []) = omega (arith, ap length same, c.if-finger-entries.false) in
    let read = c.index-entries-finger.is ∙ ap (λ es. get_or es c.args.finger.at c.index-entries-finger.result) same in
    let key = g.Q.Probe.key c.args.probe.now in
    let tie = ap (λ e. g.K.Ord.cmp key e.0) c.index-entries-finger.is ∙ sym c.compare.ensures ∙ c.in-Equal.is in
    sym (ties_there g.K.Ord.cmp g.met.K.Ord.total key c.args.leaves.now c.args.finger.leaf c.args.finger.at c.index-entries-finger.result c.requires at within read tie).1

pub returns-in-Greater-compare-clause-lies : goal.returns-in-Greater-compare-clause-lies
returns-in-Greater-compare-clause-lies g c =
    let at : c.args.finger.leaf < length c.args.leaves.now = omega (arith, c.if-finger-leaves.false) in
    let same = c.as_slice-entries.ensures ∙ sym (leaf_read _ _ _ at c.index-leaves-finger.is) in
    let within : c.args.finger.at < length (get_or c.args.leaves.now c.args.finger.leaf []) = omega (arith, ap length same, c.if-finger-entries.false) in
    let read = c.index-entries-finger.is ∙ ap (λ es. get_or es c.args.finger.at c.index-entries-finger.result) same in
    let key = g.Q.Probe.key c.args.probe.now in
    let some : 0 < c.args.finger.at = omega (arith, c.if-finger-eq0.false) in
    let front = c.index-entries-finger-2.is ∙ ap (λ es. get_or es (c.args.finger.at - 1) c.index-entries-finger-2.result) same in
    let less = ap (λ e. g.K.Ord.cmp key e.0) c.index-entries-finger.is ∙ sym c.compare.ensures ∙ c.in-Less.is in
    let more = ap (λ e. g.K.Ord.cmp key e.0) c.index-entries-finger-2.is ∙ sym c.compare-2.ensures ∙ c.in-Greater-compare.is in
    (belongs_there g.K.Ord.cmp g.met.K.Ord.total key c.args.leaves.now c.args.finger.leaf c.args.finger.at c.index-entries-finger.result c.requires at within read c.index-entries-finger-2.result some front less more).0

pub returns-in-Greater-compare-clause-tied : goal.returns-in-Greater-compare-clause-tied
returns-in-Greater-compare-clause-tied g c =
    let at : c.args.finger.leaf < length c.args.leaves.now = omega (arith, c.if-finger-leaves.false) in
    let same = c.as_slice-entries.ensures ∙ sym (leaf_read _ _ _ at c.index-leaves-finger.is) in
    let within : c.args.finger.at < length (get_or c.args.leaves.now c.args.finger.leaf []) = omega (arith, ap length same, c.if-finger-entries.false) in
    let read = c.index-entries-finger.is ∙ ap (λ es. get_or es c.args.finger.at c.index-entries-finger.result) same in
    let key = g.Q.Probe.key c.args.probe.now in
    let some : 0 < c.args.finger.at = omega (arith, c.if-finger-eq0.false) in
    let front = c.index-entries-finger-2.is ∙ ap (λ es. get_or es (c.args.finger.at - 1) c.index-entries-finger-2.result) same in
    let less = ap (λ e. g.K.Ord.cmp key e.0) c.index-entries-finger.is ∙ sym c.compare.ensures ∙ c.in-Less.is in
    let more = ap (λ e. g.K.Ord.cmp key e.0) c.index-entries-finger-2.is ∙ sym c.compare-2.ensures ∙ c.in-Greater-compare.is in
    sym (belongs_there g.K.Ord.cmp g.met.K.Ord.total key c.args.leaves.now c.args.finger.leaf c.args.finger.at c.index-entries-finger.result c.requires at within read c.index-entries-finger-2.result some front less more).1
