use Rattle.std.proofs.Common.{sym, ◌∙◌, ap}
use Rattle.std.specs.Ordering.{is_eq}
use Rattle.acap_entries.proofs.EdgeLemmas.{fronts_alike}
use Rattle.acap_entries.proofs.keys.cmp_pairs.Goals as goal

pub returns-then-is_eq : goal.returns-then-is_eq
returns-then-is_eq c =
    rw c.compare-then-is_eq.ensures
    (sym (fronts_alike c.args.front.now c.args.rest.now c.args.other_front.now c.args.other_rest.now
    (ap is_eq (sym c.compare.ensures) ∙ sym c.is_eq.ensures ∙ c.if-is_eq.true)))
