use Rattle.acap_search.specs.Walks.{quest_of}
use Rattle.acap_search.proofs.FoundLemmas.{excerpt_so}
use Rattle.acap_search.proofs.KeyLemmas.{made_within}
use Rattle.acap_search.proofs.answer.tell_within.Goals as goal

pub returns-in-Ok-excerpt_of-clause-told : goal.returns-in-Ok-excerpt_of-clause-told
returns-in-Ok-excerpt_of-clause-told g c =
    let records = c.args.tree.now.store.records in
    let realm = c.args.realm.now in
    let user = c.args.user.now in
    let sought = c.args.query.now.sought in (
      c.in-Ok.ensures.answer.0,
      excerpt_so (quest_of records realm user sought) c.args.limit c.wished.result _ _ _ c.wished.ensures (made_within records realm user sought c.args.context.hits.now)
          c.in-Ok.ensures.answer.1 c.excerpt_of.ensures.count c.in-Ok-excerpt_of.ensures.told,
    )
