use Rattle.std.proofs.Common.{◌<◌, length, get_or, arith, sym, ap}
use Rattle.acap_views.specs.Listing.{bare, told_entry}
use Rattle.acap_views.proofs.LoopLemmas.{one_changed}
use Rattle.acap_views.proofs.contexts.tell_all.Goals as goal

pub loop-entry-preserved : goal.loop-entry-preserved
loop-entry-preserved c =
    let old = c.args.contexts.now.items in
    let items = c.loop-entry.entry-items in
    let i = c.loop-entry.entry-index in
    let e = get_or items i c.entry-item.result in
    let within : i < length old = omega (arith, c.loop-entry-test.true) in
    one_changed bare told_entry old items i e (e.0, c.tell.new.self) within (sym (ap (λ d. get_or items i d) (sym c.entry-item.is))) (λ j. (e.0, c.tell.ensures j)) c.loop-entry.invariant
