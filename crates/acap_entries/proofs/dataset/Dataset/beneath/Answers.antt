use Rattle.std.proofs.Common.{ap, ◌∙◌, ◌++◌, ◌∷◌, []}
use Rattle.std.proofs.lemmas.List.{append-nil}
use Rattle.acap_entries.specs.Names.{slash, is_closed_dataset}
use Rattle.acap_entries.proofs.FormLemmas.{beneath_closed, entry_component}
use Rattle.acap_entries.proofs.dataset.Dataset.beneath.Goals as goal

pub invariant_of-result : goal.invariant_of-result
invariant_of-result c =
    let name = entry_component c.args.entry.now c.requires c.form_law.ensures in
    rw (c.in_ok-octets.ensures, c.as_slice.ensures.value, c.as_slice-2.ensures) (ap is_closed_dataset (append-nil (c.args.self.now ++ c.args.entry.now ++ slash ∷ [])) ∙ beneath_closed c.args.self.now c.args.entry.now c.as_slice.ensures.formed name)
