use Rattle.std.proofs.Common.{ap, ◌∙◌}
use Rattle.std.proofs.Math.Seq.{map-set_same}
use Rattle.acap_views.specs.Listing.{bare}
use Rattle.acap_views.proofs.contexts.gather_each.Goals as goal

pub returns-in_err-gather : goal.returns-in_err-gather
returns-in_err-gather c =
    let e = c.index_mut.result.now in
    map-set_same bare c.loop-at.contexts.items c.loop-at.at (e.0, c.gather.new.self) e ((λ j. (e.0, c.gather.ensures j)) ∙ ap bare c.index_mut.ensures.value) ∙ c.loop-at.invariant

pub loop-at-preserved : goal.loop-at-preserved
loop-at-preserved c =
    let e = c.index_mut.result.now in
    map-set_same bare c.loop-at.contexts.items c.loop-at.at (e.0, c.gather.new.self) e ((λ j. (e.0, c.gather.ensures j)) ∙ ap bare c.index_mut.ensures.value) ∙ c.loop-at.invariant
