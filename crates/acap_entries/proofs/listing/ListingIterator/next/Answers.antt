use Rattle.std.proofs.Common.{◌++◌, ◌∷◌, ◌-◌, List, take, sym, ap, ◌∙◌}
use Rattle.acap_ordmap.specs.Leaves.{contents}
use Rattle.acap_entries.specs.declared.path.Path.{Path}
use Rattle.acap_entries.specs.declared.record.Record.{Record}
use Rattle.acap_ordmap.proofs.LeafLemmas.{first_taken}
use Rattle.acap_entries.proofs.listing.ListingIterator.next.Goals as goal

pub returns-clause-steps : goal.returns-clause-steps
returns-clause-steps c =
    let rest : List (Path × Record) = c.in_ok-entry.front.now ++ contents c.fill_front.result.1.now in
    let left = c.self.inside.left in
    sym c.self.view_is
    ∙ ap (λ (es : List (Path × Record)). take left es) (sym c.fill_front.ensures.same ∙ ap (λ (f : List (Path × Record)). f ++ contents c.fill_front.result.1.now) c.in_ok-entry.ensures.cases.0)
    ∙ first_taken left c.in_ok-entry.entry.now rest c.if-self-eq0.false
    ∙ ap (λ (r : Record). (c.in_ok-entry.entry.now.0, r) ∷ take (left - 1) rest) (sym c.get.ensures)
