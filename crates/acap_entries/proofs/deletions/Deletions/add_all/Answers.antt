use Rattle.std.proofs.Common.{◌++◌, ◌∷◌, [], length, length-append, arith, ap, ◌∙◌, refl}
use Rattle.acap_entries.specs.Deletions.{deletions_at}
use Rattle.acap_entries.proofs.DeletionLaws.{added_next, none_added, newest_short, deletions_more, deletions_length}
use Rattle.acap_entries.proofs.deletions.Deletions.add_all.Goals as goal

pub loop-path-init : goal.loop-path-init
loop-path-init c =
    record {
      added = none_added c.args.self.now (rw (← c.self.view_is) c.self.invariant);
      slots = refl;
      left = omega (arith, ap length c.into_iter-path-iterator.ensures.into_iter_gives.0, ap length c.into_vec-path-items.ensures);
    }

pub add-requires : goal.add-requires
add-requires c =
    let kept = ap length c.loop-path.invariant.added.kept in
    let most = newest_short (c.args.self.now.kept ++ deletions_at c.loop-path.yielded c.args.moment) in
    let long = length-append c.args.self.now.kept (deletions_at c.loop-path.yielded c.args.moment) in
    let many = deletions_length c.loop-path.yielded c.args.moment in
    let one = ap length c.in-Some.ensures.steps.0 in
    record { slots = omega (arith, kept, most, long, many, one, c.loop-path.invariant.left, c.loop-path.invariant.slots, c.requires.slots) }

pub loop-path-preserved : goal.loop-path-preserved
loop-path-preserved c =
    record {
      added = rw deletions_more (added_next c.args.self.now c.loop-path.self c.add.new.self _ _ c.loop-path.invariant.added c.add.ensures.added);
      slots = c.add.ensures.slots ∙ c.loop-path.invariant.slots;
      left = omega (arith, length-append c.loop-path.yielded (c.in-Some.path ∷ []), ap length c.in-Some.ensures.steps.0, c.loop-path.invariant.left);
    }
