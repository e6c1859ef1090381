use Rattle.std.proofs.Common.{refl, ap, ◌∙◌}
use Rattle.acap_client.specs.declared.draft.Draft.{Draft}
use Rattle.acap_client.specs.declared.place.Place.TheVariants as place
use Rattle.acap_client.proofs.Nests.{text_client, text_draft}
use Rattle.acap_client.proofs.adding.add_text.Goals as goal

pub returns-clause-client : goal.returns-clause-client
returns-clause-client c =
    let new : Draft = record { tokens = c.push.new.self; word = c.replace-text.new.dest; depth = c.args.draft.now.depth; place = place.Ended } in
    text_client c.args.draft.now new _ _ c.in_ok-push.ensures.items (c.from_vec.ensures ∙ ap (λ v. v.items) c.replace-text.ensures.value) refl

pub returns-clause-draft : goal.returns-clause-draft
returns-clause-draft c =
    let new : Draft = record { tokens = c.push.new.self; word = c.replace-text.new.dest; depth = c.args.draft.now.depth; place = place.Ended } in
    text_draft c.args.draft.now new _ c.in_ok-push.ensures.items refl refl c.requires
