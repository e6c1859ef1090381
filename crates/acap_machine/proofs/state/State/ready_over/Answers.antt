use Rattle.std.proofs.Common.{◌≡◌, Err, List, ap, ◌∙◌, sym, subst, rules, tests}
use Rattle.acap_machine.proofs.OverLemmas.{alone_ready, refused_ready, in_order, openable}
use Rattle.acap_machine.proofs.state.State.ready_over.Goals as goal
use Rattle.acap_search.specs.Fresh.{IsAnswer, matches_of, refusal_of}
use Rattle.acap_search.specs.Matches.{Match}

pub returns-in_default-clause-answer : goal.returns-in_default-clause-answer
returns-in_default-clause-answer g c =
    alone_ready c.args.self.now c.args.seat c.in_ok-user.user.now c.args.asked c.in_ok-words.words c.saying.result c.in_ok-user.ensures.ok (search (rules, tests))
    c.in_ok-words.ensures.words c.saying.ensures c.kept_law.ensures.kept

pub ready_context-requires-clause-order : goal.ready_context-requires-clause-order
ready_context-requires-clause-order g c =
    let s = c.args.self.now in
    let user = c.in_ok-user.user.now in
    in_order c.hit_law.ensures s.machine user c.args.asked.query c.in-Ok.hits c.kept_law.ensures.kept.sound
    (sym (ap (λ t. refusal_of t.machine.store.records t.machine.realm user c.args.asked.query) c.state.view_is) ∙ c.in-Ok.ensures.found.0)
    (c.in-Ok.ensures.found.1 ∙ ap (λ t. matches_of t.machine.store.records t.machine.realm user c.args.asked.query.sought) c.state.view_is)

pub ready_context-requires-clause-current : goal.ready_context-requires-clause-current
ready_context-requires-clause-current g c =
    let s = c.args.self.now in
    let user = c.in_ok-user.user.now in
    openable c.kept_law.ensures.contexts s.machine c.args.seat user c.in-Some.make c.args.asked.query c.in-Ok.hits c.kept_law.ensures.kept.sound c.in_ok-user.ensures.ok
    (sym (ap (λ t. refusal_of t.machine.store.records t.machine.realm user c.args.asked.query) c.state.view_is) ∙ c.in-Ok.ensures.found.0)
    (c.in-Ok.ensures.found.1 ∙ ap (λ t. matches_of t.machine.store.records t.machine.realm user c.args.asked.query.sought) c.state.view_is)

pub returns-in_ok-words-in-Err-clause-answer : goal.returns-in_ok-words-in-Err-clause-answer
returns-in_ok-words-in-Err-clause-answer g c =
    let s = c.args.self.now in
    let user = c.in_ok-user.user.now in
    let holds : List Match → List Match → Type 0 = λ h all. h ≡ all in
    refused_ready s c.args.seat user c.args.asked holds c.in-Err.refusal c.in_ok-words-in-Err.words c.saying-in-Err.result c.in_ok-user.ensures.ok
    (subst (λ t. IsAnswer t.machine.store.records t.machine.realm user c.args.asked.query holds (Err c.in-Err.refusal)) c.state.view_is c.in-Err.ensures.found)
    c.in_ok-words-in-Err.ensures.other c.in_ok-words-in-Err.ensures.words c.saying-in-Err.ensures c.kept_law.ensures.kept
