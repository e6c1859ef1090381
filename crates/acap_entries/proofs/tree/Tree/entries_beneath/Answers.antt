use Rattle.acap_ordmap.proofs.MapLemmas.{entries_kept}
use Rattle.std.proofs.Common.{◌≡◌, ◌++◌, ◌∷◌, ◌-◌, [], ℕ, List, take, drop, sym, ap, ◌∙◌, nat_eq}
use Rattle.std.specs.FinMap as map
use Rattle.std.specs.List.{starts_with, filter}
use Rattle.acap_ordmap.specs.Sorted.{place}
use Rattle.acap_entries.specs.Store.{path_cmp, Roomy}
use Rattle.acap_entries.specs.declared.path.Path.{Path}
use Rattle.acap_entries.specs.declared.record.Record.{Record}
use Rattle.acap_entries.proofs.DatasetRanges.{edge, beneath_rises, beneath_entries}
use Rattle.acap_entries.proofs.tree.Tree.entries_beneath.Goals as goal

pub between-requires-clause-rises : goal.between-requires-clause-rises
between-requires-clause-rises c = beneath_rises c.open_ended-front.result.now

pub returns : goal.returns
returns c =
    let stored : c.self.inside.entries.0 ≡ map.entries c.args.self.now.store.records = sym (entries_kept path_cmp c.self.inside.entries.0 c.self.invariant.sorted) ∙ ap (λ (t : Roomy). map.entries t.store.records) c.self.view_is in
    let f = c.open_ended-front.result.now in
    c.between.ensures
    ∙ ap (λ (es : List (Path × Record)). take (place path_cmp (edge (f ++ 48 ∷ [])) es - place path_cmp (edge (f ++ 47 ∷ [])) es) (drop (place path_cmp (edge (f ++ 47 ∷ [])) es) es)) c.as_slice.ensures.items
    ∙ sym (beneath_entries f c.self.inside.entries.0 c.self.invariant.sorted)
    ∙ ap (λ (es : List (Path × Record)). filter (λ e. starts_with nat_eq e.0.dataset (f ++ 47 ∷ [])) es) stored
    ∙ ap (λ (d : List ℕ). filter (λ e. starts_with nat_eq e.0.dataset d) (map.entries c.args.self.now.store.records)) c.open_ended-front.ensures
