use Rattle.std.proofs.Common.{◌≤◌, length}
use Rattle.acap_lexer.proofs.Places.{tokens_push, within_push}
use Rattle.acap_lexer.proofs.draft.Draft.push_copied.Goals as goal

pub invariant_of-self-2 : goal.invariant_of-self-2
invariant_of-self-2 c =
    let inside : c.args.value.end ≤ length c.self.inside.text.items = rw (← c.self.view_is) at c.requires.within in
    rw c.in_ok-push.ensures.items (within_push _ _ _ c.self.invariant (record { start = c.requires.ordered; end = inside }))

pub returns-clause-ok : goal.returns-clause-ok
returns-clause-ok c = rw (c.in_ok-push.ensures.items, ← c.self.view_is) (tokens_push _ _ _)
