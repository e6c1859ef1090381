use Rattle.std.proofs.Common.{◌<◌, ◌+◌, ◌++◌, ◌∷◌, [], take, length, sym, ◌∙◌, ap, subst, arith}
use Rattle.std.specs.Prelude.{slice_get}
use Rattle.std.proofs.lemmas.List.{take_more}
use Rattle.std.specs.Option.{option_copied}
use Rattle.acap_inherit.specs.Merging.{IsLeast, lesser}
use Rattle.acap_inherit.proofs.MergeLemmas.{least_more}
use Rattle.acap_inherit.proofs.merging.least_of.Goals as goal

pub loop-range-preserved : goal.loop-range-preserved
loop-range-preserved c =
    let before = take c.loop-range.range-index c.args.ranges.now in
    let names = c.range-item.result in
    let least = lesser (option_copied c.loop-range.least) in
    let within : c.loop-range.range-index < length c.args.ranges.now = omega arith in
    subst (λ o. IsLeast o (take (c.loop-range.range-index + 1) c.args.ranges.now)) (sym (c.lesser-least.ensures ∙ ap least c.first.ensures))
    (subst (λ lists. IsLeast (least (slice_get names 0)) lists) (ap (λ name. before ++ name ∷ []) c.range-item.is ∙ sym (take_more c.args.ranges.now c.loop-range.range-index c.range-item.result within))
    (least_more (option_copied c.loop-range.least) before names c.loop-range.invariant))
