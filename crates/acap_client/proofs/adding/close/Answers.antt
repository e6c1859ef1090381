use Rattle.std.proofs.Common.{◌-◌, refl, arith, ◌<◌}
use Rattle.acap_client.specs.declared.draft.Draft.{Draft}
use Rattle.acap_client.specs.declared.place.Place.TheVariants as place
use Rattle.acap_client.proofs.Nests.{closes, lost_here}
use Rattle.acap_client.proofs.adding.close.Goals as goal

pub returns-then-draft-eq0 : goal.returns-then-draft-eq0
returns-then-draft-eq0 c = lost_here c.args.draft.now c.requires c.if-draft-eq0.true

pub returns : goal.returns
returns c =
    let some : 0 < c.args.draft.now.depth = omega (arith, c.if-draft-eq0.false) in
    let new : Draft = record { tokens = c.push.new.self; word = c.args.draft.now.word; depth = c.args.draft.now.depth - 1; place = place.Ended } in
    closes c.args.draft.now new c.in_ok-push.ensures.items refl refl c.requires some
