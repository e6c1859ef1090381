use Rattle.acap_ordmap.proofs.MapLemmas.{entries_kept}
use Rattle.std.proofs.Common.{◌≡◌, ◌++◌, ◌∷◌, ◌-◌, [], List, take, drop, sym, ap, ◌∙◌}
use Rattle.std.specs.FinMap as map
use Rattle.std.specs.List.{filter}
use Rattle.acap_entries.specs.Orders.{octets_eq}
use Rattle.acap_ordmap.specs.Sorted.{place}
use Rattle.acap_entries.specs.Store.{path_cmp, Roomy}
use Rattle.acap_entries.specs.declared.path.Path.{Path}
use Rattle.acap_entries.specs.declared.record.Record.{Record}
use Rattle.acap_entries.proofs.DatasetRanges.{edge, own_rises, own_entries}
use Rattle.acap_entries.proofs.tree.Tree.entries_of.Goals as goal

pub between-requires-clause-rises : goal.between-requires-clause-rises
between-requires-clause-rises c = own_rises c.args.dataset.now

pub returns : goal.returns
returns c =
    let stored : c.self.inside.entries.0 ≡ map.entries c.args.self.now.store.records = sym (entries_kept path_cmp c.self.inside.entries.0 c.self.invariant.sorted) ∙ ap (λ (t : Roomy). map.entries t.store.records) c.self.view_is in
    let d = c.args.dataset.now in
    c.between.ensures
    ∙ ap (λ (es : List (Path × Record)). take (place path_cmp (edge (d ++ 0 ∷ [])) es - place path_cmp (edge (d ++ [])) es) (drop (place path_cmp (edge (d ++ [])) es) es)) c.as_slice.ensures.items
    ∙ sym (own_entries d c.self.inside.entries.0 c.self.invariant.sorted)
    ∙ ap (λ (es : List (Path × Record)). filter (λ e. octets_eq d e.0.dataset) es) stored
