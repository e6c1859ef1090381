use Rattle.std.proofs.Common.{sym, ap, ◌∙◌}
use Rattle.std.specs.Cmp.{nat_cmp_total}
use Rattle.std.specs.FinMap as table
use Rattle.std.specs.Ordering.{nat_cmp}
use Rattle.acap_ordmap.specs.Sorted.{found}
use Rattle.acap_ordmap.proofs.MapLemmas.{get_kept}
use Rattle.acap_views.proofs.views.Views.sitting.Goals as goal

pub returns : goal.returns
returns c =
    c.lookup.ensures
    ∙ (ap (found nat_cmp c.args.seat) c.as_slice.ensures.value
    ∙ (sym (get_kept nat_cmp nat_cmp_total c.self.inside.seats.items c.args.seat c.self.invariant)
    ∙ ap (λ v. table.get v.seats c.args.seat) c.self.view_is))
