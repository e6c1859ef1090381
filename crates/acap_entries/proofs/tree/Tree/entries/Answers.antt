use Rattle.acap_ordmap.proofs.MapLemmas.{entries_kept}
use Rattle.std.proofs.Common.{◌≡◌, List, length, sym, ap, ◌∙◌}
use Rattle.std.specs.FinMap as map
use Rattle.acap_ordmap.specs.Leaves.{contents}
use Rattle.acap_entries.specs.Store.{Roomy, path_cmp}
use Rattle.acap_entries.specs.declared.path.Path.{Path}
use Rattle.acap_entries.specs.declared.record.Record.{Record}
use Rattle.acap_ordmap.proofs.LeafLemmas.{taken_whole}
use Rattle.acap_entries.proofs.tree.Tree.entries.Goals as goal

pub returns : goal.returns
returns c =
    let stored : c.self.inside.entries.0 ≡ map.entries c.args.self.now.store.records = sym (entries_kept path_cmp c.self.inside.entries.0 c.self.invariant.sorted) ∙ ap (λ (t : Roomy). map.entries t.store.records) c.self.view_is in
    taken_whole c.len.result (contents c.as_slice.result.now) (c.len.ensures ∙ ap (λ (es : List (Path × Record)). length es) (sym c.as_slice.ensures.items)) ∙ c.as_slice.ensures.items ∙ stored
