use Rattle.std.proofs.Common.{ap, sym, ◌∙◌}
use Rattle.std.specs.FinMap.{is_sorted}
use Rattle.std.specs.List.{list_all}
use Rattle.acap_entries.specs.FullPaths.{is_well_formed}
use Rattle.acap_entries.specs.Store.{path_cmp}
use Rattle.acap_entries.proofs.Formed.{in_form}
use Rattle.acap_entries.proofs.writes.Writes.from_ascending.Goals as goal

pub invariant_of-result : goal.invariant_of-result
invariant_of-result c =
    in_form c.args.entries.items (record { rises = ap (is_sorted path_cmp) (sym c.as_slice.ensures.value) ∙ sym c.if-ascends.ensures })
    (ap (list_all (λ e. is_well_formed e.0)) (sym c.as_slice-then-ascends.ensures.value) ∙ c.form_all.ensures)
