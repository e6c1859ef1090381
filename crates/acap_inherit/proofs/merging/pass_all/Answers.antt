use Rattle.std.proofs.Common.{set, sym, ◌∙◌, ap, arith}
use Rattle.std.proofs.lemmas.List.Edits.{map_over_more}
use Rattle.acap_inherit.specs.Merging.{past_name}
use Rattle.acap_inherit.proofs.merging.pass_all.Goals as goal

pub loop-range-preserved : goal.loop-range-preserved
loop-range-preserved c =
    ap (λ names. set c.loop-range.ranges c.loop-range.range-index names) (c.pass.ensures ∙ ap (past_name c.args.name.now) (sym c.range-item.is))
    ∙ map_over_more (past_name c.args.name.now) c.args.ranges.now c.loop-range.ranges c.loop-range.range-index c.range-item.result (omega arith) c.loop-range.invariant c.range-item.is
