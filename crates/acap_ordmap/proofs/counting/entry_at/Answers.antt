use Rattle.std.proofs.Common.{◌<◌, ◌≤◌, ◌-◌, ◌+◌, Some, length, drop, sym, ap, ◌∙◌, arith}
use Rattle.std.specs.List.{slice_get}
use Rattle.std.proofs.lemmas.Option.{slice_get-get_or}
use Rattle.acap_ordmap.specs.Leaves.{contents}
use Rattle.acap_ordmap.proofs.LeafLemmas.{next_leaf}
use Rattle.acap_ordmap.proofs.RankLemmas.{slice_past, slice_within, none_left}
use Rattle.acap_ordmap.proofs.counting.entry_at.Goals as goal

pub loop-leaf-preserved : goal.loop-leaf-preserved
loop-leaf-preserved g c =
    let left = c.loop-leaf.left in
    let leaf = c.leaf-item.result in
    let rest = contents (drop (c.loop-leaf.leaf-index + 1) c.args.leaves.now) in
    let next = next_leaf c.args.leaves.now c.loop-leaf.leaf-index leaf c.loop-leaf-test.true c.leaf-item.is in
    let past : length leaf ≤ left = omega (arith, c.if-left-len.false, c.len.ensures.value) in
    ap (λ n. slice_get rest (left - n)) c.len-left.ensures.value ∙ slice_past leaf rest left past ∙ ap (λ es. slice_get es left) (sym next) ∙ c.loop-leaf.invariant

pub returns-then-left-len : goal.returns-then-left-len
returns-then-left-len g c =
    let left = c.loop-leaf.left in
    let leaf = c.leaf-item.result in
    let rest = contents (drop (c.loop-leaf.leaf-index + 1) c.args.leaves.now) in
    let next = next_leaf c.args.leaves.now c.loop-leaf.leaf-index leaf c.loop-leaf-test.true c.leaf-item.is in
    let within : left < length leaf = omega (arith, c.if-left-len.true, c.len.ensures.value) in
    let inside : left < length c.as_slice.result.now = omega (arith, within, ap length c.as_slice.ensures) in
    ap Some c.index-as_slice-left.is
    ∙ sym (slice_get-get_or c.as_slice.result.now left c.index-as_slice-left.result inside)
    ∙ ap (λ es. slice_get es left) c.as_slice.ensures
    ∙ slice_within leaf rest left within
    ∙ ap (λ es. slice_get es left) (sym next)
    ∙ c.loop-leaf.invariant

pub returns : goal.returns
returns g c = sym (ap (λ es. slice_get es c.loop-leaf.left) (none_left c.args.leaves.now c.loop-leaf.leaf-index c.loop-leaf-test.false)) ∙ c.loop-leaf.invariant
