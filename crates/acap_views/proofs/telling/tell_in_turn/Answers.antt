use Rattle.std.proofs.Common.{arith, ◌∙◌, ◌++◌, ap, List}
use Rattle.acap_notices.specs.Batches.{all_told}
use Rattle.acap_notices.specs.declared.told.Told.{Told}
use Rattle.acap_views.specs.Listing.{as_contexts}
use Rattle.acap_views.proofs.TellingLemmas.{batch_more, one_told}
use Rattle.acap_views.proofs.telling.tell_in_turn.Goals as goal

pub loop-at-preserved : goal.loop-at-preserved
loop-at-preserved c =
    let front = c.loop-at.batches.items in
    one_told (as_contexts c.args.contexts.now) c.args.names.now c.loop-at.at c.index-names-at.result c.args.last (all_told front) (all_told c.push.new.self.items) (omega arith) c.index-names-at.is
    (ap all_told c.in_ok-push.ensures.items ∙ (batch_more front c.in_ok-batch_after.field-0 ∙ ap (λ (ts : List Told). all_told front ++ ts) (rw c.split_at.ensures.front at c.in_ok-batch_after.ensures))) c.loop-at.invariant
