use Rattle.std.proofs.Common.{◌++◌, List, flat_map, arith, sym, ap, ◌∙◌}
use Rattle.std.proofs.lemmas.List.{drop_all, append-nil}
use Rattle.acap_notices.specs.Batches.{all_told}
use Rattle.acap_notices.specs.declared.told.Told.{Told}
use Rattle.acap_views.proofs.TellingLemmas.{drained_entry, drained_listed}
use Rattle.acap_views.proofs.telling.drain.Goals as goal

pub returns : goal.returns
returns c =
    let es = c.args.contexts.now in
    let front = all_told c.loop-entry.batches.items in
    ap all_told c.from_vec.ensures ∙ (sym (append-nil front)
    ∙ (ap (λ (ts : List Told). front ++ ts) (sym (ap (flat_map drained_entry) (drop_all c.loop-entry.entry-index es (omega arith))))
    ∙ (c.loop-entry.invariant ∙ sym (drained_listed es c.requires))))
