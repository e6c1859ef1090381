use Rattle.std.proofs.Common.{ap, ◌∙◌}
use Rattle.std.specs.FinMap as map
use Rattle.std.specs.List.{filter}
use Rattle.acap_search.specs.RecordCaches.{lies_in}
use Rattle.acap_search.proofs.CacheLemmas.{all_kept}
use Rattle.acap_search.proofs.record_cursor.RecordCursor.of.Goals as goal

pub invariant_of-result : goal.invariant_of-result
invariant_of-result c = all_kept _ c.args.dataset.now _ (c.entries_of.ensures ∙ ap (λ dataset. filter (lies_in dataset) (map.entries c.args.tree.now.store.records)) c.as_slice.ensures.value)
