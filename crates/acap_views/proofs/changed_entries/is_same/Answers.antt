use Rattle.std.proofs.Common.{Some, ap}
use Rattle.std.specs.Cmp.{both_ways}
use Rattle.acap_views.proofs.SameLemmas.{same_exact, same_itself}
use Rattle.acap_views.proofs.changed_entries.is_same.Goals as goal

pub returns : goal.returns
returns c =
    let a = c.args.hit.now in
    let b = c.args.other.now in
    both_ways _ _
    (λ yes. same_itself (Some a) (Some b) (ap Some (c.equals.ensures.0 yes)))
    (λ e. c.equals.ensures.1 (cc (same_exact (Some a) (Some b) e)))
