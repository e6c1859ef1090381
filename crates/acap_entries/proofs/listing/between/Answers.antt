use Rattle.std.proofs.Common.{ℕ, ◌≡◌, ◌≤◌, List, arith, ap, sym, ◌∙◌, ◌-◌, drop, take}
use Rattle.acap_ordmap.specs.Sorted.{place}
use Rattle.acap_ordmap.specs.Leaves.{contents, before}
use Rattle.acap_entries.specs.Store.{path_cmp}
use Rattle.acap_entries.specs.declared.path.Path.{Path}
use Rattle.acap_entries.specs.declared.record.Record.{Record}
use Rattle.acap_entries.proofs.StoreLemmas.{path_cmp_total}
use Rattle.acap_ordmap.proofs.RangeLemmas.{place_rises}
use Rattle.acap_ordmap.proofs.SortedLemmas.{place_le}
use Rattle.acap_ordmap.proofs.LeafLemmas.{filled_drop, rest_in_order, place_behind, drop_behind}
use Rattle.acap_entries.proofs.listing.between.Goals as goal

pub count_before-until-requires-clause-filled : goal.count_before-until-requires-clause-filled
count_before-until-requires-clause-filled g c = rw c.split_at.ensures.back (filled_drop _ _ c.requires.filled)

pub count_before-until-requires-clause-sorted : goal.count_before-until-requires-clause-sorted
count_before-until-requires-clause-sorted g c = rw c.split_at.ensures.back (rest_in_order path_cmp c.args.leaves.now c.place_among-first.result.0 c.requires.sorted)

pub overflow_sub-until : goal.overflow_sub-until
overflow_sub-until g c =
    let from = c.place_among-first.ensures.place in
    let low : before c.args.leaves.now c.place_among-first.result.0 ≤ place path_cmp (g.Q.Probe.key c.args.low.now) (contents c.args.leaves.now) = omega (arith, from) in
    let rises = place_rises path_cmp path_cmp_total (g.Q.Probe.key c.args.low.now) (g.Q.Probe.key c.args.high.now) c.requires.rises (contents c.args.leaves.now) in
    let behind = place_behind path_cmp (g.Q.Probe.key c.args.high.now) c.args.leaves.now c.place_among-first.result.0 (omega (arith, low, rises)) in
    let until = c.count_before-until.ensures ∙ ap (λ ls. place path_cmp (g.Q.Probe.key c.args.high.now) (contents ls)) c.split_at.ensures.back in
    omega (arith, from, rises, behind, until)

pub list_from-requires-clause-left : goal.list_from-requires-clause-left
list_from-requires-clause-left g c =
    let from = c.place_among-first.ensures.place in
    let low : before c.args.leaves.now c.place_among-first.result.0 ≤ place path_cmp (g.Q.Probe.key c.args.low.now) (contents c.args.leaves.now) = omega (arith, from) in
    let rises = place_rises path_cmp path_cmp_total (g.Q.Probe.key c.args.low.now) (g.Q.Probe.key c.args.high.now) c.requires.rises (contents c.args.leaves.now) in
    let behind = place_behind path_cmp (g.Q.Probe.key c.args.high.now) c.args.leaves.now c.place_among-first.result.0 (omega (arith, low, rises)) in
    let until = c.count_before-until.ensures ∙ ap (λ ls. place path_cmp (g.Q.Probe.key c.args.high.now) (contents ls)) c.split_at.ensures.back in
    let most = place_le path_cmp (g.Q.Probe.key c.args.high.now) (contents (drop c.place_among-first.result.0 c.args.leaves.now)) in
    rw c.split_at.ensures.back (omega (arith, from, rises, behind, until, most))

pub returns : goal.returns
returns g c =
    let from = c.place_among-first.ensures.place in
    let low : before c.args.leaves.now c.place_among-first.result.0 ≤ place path_cmp (g.Q.Probe.key c.args.low.now) (contents c.args.leaves.now) = omega (arith, from) in
    let rises = place_rises path_cmp path_cmp_total (g.Q.Probe.key c.args.low.now) (g.Q.Probe.key c.args.high.now) c.requires.rises (contents c.args.leaves.now) in
    let behind = place_behind path_cmp (g.Q.Probe.key c.args.high.now) c.args.leaves.now c.place_among-first.result.0 (omega (arith, low, rises)) in
    let until = c.count_before-until.ensures ∙ ap (λ ls. place path_cmp (g.Q.Probe.key c.args.high.now) (contents ls)) c.split_at.ensures.back in
    let many : c.count_before-until.result - c.place_among-first.result.1 ≡ place path_cmp (g.Q.Probe.key c.args.high.now) (contents c.args.leaves.now) - place path_cmp (g.Q.Probe.key c.args.low.now) (contents c.args.leaves.now) = omega (arith, from, behind, until) in
    let rest = sym (drop_behind c.args.leaves.now c.place_among-first.result.0 c.place_among-first.result.1) ∙ ap (λ n. drop n (contents c.args.leaves.now)) from in
    c.list_from.ensures
    ∙ ap (λ (n : ℕ). take n (drop c.place_among-first.result.1 (contents c.split_at.result.1.now))) many
    ∙ ap (λ ls. take (place path_cmp (g.Q.Probe.key c.args.high.now) (contents c.args.leaves.now) - place path_cmp (g.Q.Probe.key c.args.low.now) (contents c.args.leaves.now)) (drop c.place_among-first.result.1 (contents ls))) c.split_at.ensures.back
    ∙ ap (λ (es : List (Path × Record)). take (place path_cmp (g.Q.Probe.key c.args.high.now) (contents c.args.leaves.now) - place path_cmp (g.Q.Probe.key c.args.low.now) (contents c.args.leaves.now)) es) rest
