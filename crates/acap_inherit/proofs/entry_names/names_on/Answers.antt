use Rattle.std.proofs.Common.{◌≡◌, true, map, length, arith, ap, sym, subst, ◌∙◌}
use Rattle.std.specs.List.{list_all}
use Rattle.acap_inherit.specs.EntryNames.{union_of, names_in}
use Rattle.acap_inherit.specs.Merging.{is_rising}
use Rattle.acap_inherit.proofs.NameLemmas.{all_names_rise, all_taken}
use Rattle.acap_inherit.proofs.entry_names.names_on.Goals as goal

pub invariant_of-result : goal.invariant_of-result
invariant_of-result c =
    subst (λ lists. list_all is_rising lists ≡ true) (sym c.loop-dataset.invariant.names) (all_names_rise (λ d. d.now) c.args.tree.now.store.records _)

pub returns : goal.returns
returns c =
    let records = c.args.tree.now.store.records in
    let members = c.names-dataset-items.result.now in
    let all : c.loop-dataset.dataset-index ≡ length members = omega arith in
    ap union_of (c.loop-dataset.invariant.names
    ∙ (all_taken (λ d. d.now) records members c.loop-dataset.dataset-index all ∙ ap (map (names_in records)) c.names-dataset-items.ensures.names))
