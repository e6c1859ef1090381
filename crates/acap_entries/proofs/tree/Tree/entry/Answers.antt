use Rattle.std.proofs.Common.{List, Some, sym, ap, ◌∙◌}
use Rattle.std.specs.FinMap as map
use Rattle.std.specs.Option.{option_map}
use Rattle.acap_entries.specs.Store.{Roomy, path_cmp}
use Rattle.acap_entries.specs.FullPaths.{path_of}
use Rattle.acap_ordmap.specs.Sorted.{found}
use Rattle.acap_entries.specs.declared.path.Path.{Path}
use Rattle.acap_entries.specs.declared.record.Record.{Record}
use Rattle.acap_ordmap.proofs.EntryLemmas.{entry_found, entry_key}
use Rattle.acap_ordmap.proofs.MapLemmas.{get_kept}
use Rattle.acap_entries.proofs.StoreLemmas.{path_cmp_total, path_same}
use Rattle.acap_entries.proofs.tree.Tree.entry.Goals as goal

pub returns-in-Some-clause-path : goal.returns-in-Some-clause-path
returns-in-Some-clause-path c = entry_key path_cmp path_same _ _ _ (sym c.in-Some.ensures)

pub returns-in-Some-clause-record : goal.returns-in-Some-clause-record
returns-in-Some-clause-record c =
    let key = path_of c.args.dataset.now c.args.name.now in
    ap Some c.get.ensures
    ∙ (ap (option_map (λ (e : Path × Record). e.1)) c.in-Some.ensures
    ∙ (entry_found path_cmp key _
    ∙ (ap (λ (es : List (Path × Record)). found path_cmp key es) c.as_slice.ensures.items
    ∙ (sym (get_kept path_cmp path_cmp_total c.self.inside.entries.0 key c.self.invariant.sorted)
    ∙ ap (λ (t : Roomy). map.get t.store.records key) c.self.view_is))))

pub returns-in-None-clause-record : goal.returns-in-None-clause-record
returns-in-None-clause-record c =
    let key = path_of c.args.dataset.now c.args.name.now in
    ap (option_map (λ (e : Path × Record). e.1)) c.in-None.ensures
    ∙ (entry_found path_cmp key _
    ∙ (ap (λ (es : List (Path × Record)). found path_cmp key es) c.as_slice.ensures.items
    ∙ (sym (get_kept path_cmp path_cmp_total c.self.inside.entries.0 key c.self.invariant.sorted)
    ∙ ap (λ (t : Roomy). map.get t.store.records key) c.self.view_is)))
