use Rattle.std.proofs.Common.{◌+◌, refl}
use Rattle.acap_client.specs.declared.draft.Draft.{Draft}
use Rattle.acap_client.specs.declared.place.Place.TheVariants as place
use Rattle.acap_client.proofs.Nests.{open_client, open_draft}
use Rattle.acap_client.proofs.adding.open.Goals as goal

pub returns-clause-client : goal.returns-clause-client
returns-clause-client c =
    let new : Draft = record { tokens = c.push.new.self; word = c.args.draft.now.word; depth = c.args.draft.now.depth + 1; place = place.Opened } in
    open_client c.args.draft.now new c.in_ok-push.ensures.items refl

pub returns-clause-draft : goal.returns-clause-draft
returns-clause-draft c =
    let new : Draft = record { tokens = c.push.new.self; word = c.args.draft.now.word; depth = c.args.draft.now.depth + 1; place = place.Opened } in
    open_draft c.args.draft.now new c.in_ok-push.ensures.items refl refl c.requires
