use Rattle.std.proofs.Common.{sym, ap, ◌∙◌}
use Rattle.acap_entries.proofs.FormLemmas.{path_dataset, path_name}
use Rattle.acap_entries.specs.Names.{slash, ends_with, is_closed_dataset, is_entry_name}
use Rattle.acap_entries.proofs.NameLemmas.{path_has_dataset}
use Rattle.acap_entries.proofs.path.Path.read.Goals as goal

pub of_closed-requires-clause-dataset : goal.of_closed-requires-clause-dataset
of_closed-requires-clause-dataset c =
    let good = sym c.if-not-is_path.ensures in
    let whole = c.split_path.ensures.dataset in
    ap is_closed_dataset whole ∙ path_dataset c.args.octets.now good (ap (ends_with slash) (sym whole) ∙ c.split_path.ensures.closed (rw whole (path_has_dataset c.args.octets.now good)))

pub of_closed-requires-clause-name : goal.of_closed-requires-clause-name
of_closed-requires-clause-name c = ap is_entry_name c.split_path.ensures.name ∙ path_name c.args.octets.now (sym c.if-not-is_path.ensures)
