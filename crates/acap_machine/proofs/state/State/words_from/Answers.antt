use Rattle.std.proofs.Common.{ap, ◌∙◌, map as each}
use Rattle.acap_machine.proofs.FromLemmas.{paths_are, found_from, refused_from, words_for}
use Rattle.acap_machine.proofs.state.State.words_from.Goals as goal
use Rattle.acap_machine.specs.Searching.{query_within, searched_from}
use Rattle.acap_views.specs.Started.{as_ranged}

pub returns-in_ok-found-in-Ok-clause-words : goal.returns-in_ok-found-in-Ok-clause-words
returns-in_ok-found-in-Ok-clause-words g c =
    let wanted = query_within c.args.from.sought.now c.args.modifiers c.args.key in
    found_from c.self.inside.tree.store c.self.inside.realm c.args.user.now (as_ranged c.args.from) c.in_ok-query.query wanted c.args.modifiers.limit
    (each (λ hit. hit.now.path) c.as_slice.result.now) c.in-Ok.excerpt c.in_ok-found-in-Ok.found
    c.in_ok-query.ensures (paths_are c.as_slice.result.now c.args.from.shown (ap (λ xs. each (λ hit. hit.now) xs) c.as_slice.ensures.value ∙ c.in_ok-shown.ensures))
    c.in-Ok.ensures.told
    (rw c.last-last.ensures at c.in_ok-found-in-Ok.ensures)
    ∙ ap (λ t. searched_from t.machine.store t.machine.realm c.args.user.now (as_ranged c.args.from) wanted c.args.modifiers.limit) c.self.view_is

pub returns-in-Err-clause-words : goal.returns-in-Err-clause-words
returns-in-Err-clause-words g c =
    let wanted = query_within c.args.from.sought.now c.args.modifiers c.args.key in
    words_for c.refuse_query.result _ _ _ c.refuse_query.ensures.words c.refuse_query.ensures.other
    (λ other. refused_from c.self.inside.tree.store c.self.inside.realm c.args.user.now (as_ranged c.args.from) c.in_ok-query.query wanted c.args.modifiers.limit
    (each (λ hit. hit.now.path) c.as_slice.result.now) c.in-Err.refusal
    c.in_ok-query.ensures (paths_are c.as_slice.result.now c.args.from.shown (ap (λ xs. each (λ hit. hit.now) xs) c.as_slice.ensures.value ∙ c.in_ok-shown.ensures))
    c.in-Err.ensures.told other
    ∙ ap (λ t. searched_from t.machine.store t.machine.realm c.args.user.now (as_ranged c.args.from) wanted c.args.modifiers.limit) c.self.view_is)
