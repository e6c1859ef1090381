use Rattle.std.proofs.Common.{◌≡◌, ◌<◌, ap, arith, length, get_or}
use Rattle.std.proofs.lemmas.List.Edits.{map_over_more}
use Rattle.acap_store.specs.Meaning as rule
use Rattle.acap_store.proofs.meaning.entries_for.Goals as goal

pub loop-entry-preserved : goal.loop-entry-preserved
loop-entry-preserved c =
    let old = get_or c.loop-entry.entry-items c.loop-entry.entry-index c.entry-item.result in
    let within : c.loop-entry.entry-index < length c.args.entries = omega (arith, c.loop-entry-test.true, ap length c.into_vec-made.ensures) in
    let path : c.set_user.new.self ≡ rule.path_for c.args.user.now old.path = c.in_ok-set_user.ensures.ok in
    let step = map_over_more (rule.entry_for c.args.user.now) c.args.entries c.loop-entry.entry-items c.loop-entry.entry-index old within c.loop-entry.invariant cc in
    rw path step
