use Rattle.std.proofs.Common.{◌<◌, length, rules, tests}
use Rattle.std.proofs.lemmas.Result.{err_from_is_err_and}
use Rattle.acap_lexer.proofs.PartLoop.{ends_here, ends_past, goes_on, ends_marked, fails}
use Rattle.acap_lexer.proofs.part.read_part.Goals as goal

pub returns-then-is_empty-clause-gives : goal.returns-then-is_empty-clause-gives
returns-then-is_empty-clause-gives c = ends_here _ _ _ _ _ _ c.tokens.invariant.so_far (search (rules, tests))

pub returns-in_err-start-clause-gives : goal.returns-in_err-start-clause-gives
returns-in_err-start-clause-gives c =
    let p = err_from_is_err_and c.from_residual.result c.from_residual.ensures.1 in
    let some : 0 < length c.tokens.left.now = search (rules, tests) in
    rw (p.1, p.2) (fails _ _ _ _ _ c.next_token.new.draft.tokens _ _ c.tokens.invariant.so_far some c.tokens-test.true c.in_err-start.ensures.takes)

pub returns-in-Mark-clause-gives : goal.returns-in-Mark-clause-gives
returns-in-Mark-clause-gives c =
    let some : 0 < length c.tokens.left.now = search (rules, tests) in
    ends_marked _ _ _ _ _ _ _ _ _ c.tokens.invariant.so_far some c.tokens-test.true (rw c.in-Mark.is at c.in_ok-start.ensures.takes)

pub tokens-preserved : goal.tokens-preserved
tokens-preserved c =
    let some : 0 < length c.tokens.left.now = search (rules, tests) in
    record {
      so_far = goes_on _ _ _ _ _ _ c.in-Rest.rest _ c.tokens.invariant.so_far some c.tokens-test.true (rw c.in-Rest.is at c.in_ok-start.ensures.takes) c.in_ok-start.ensures.grows;
      copied = rw c.in-Rest.is at c.in_ok-start.ensures.copied;
    }

pub returns-then-is_empty-2-clause-gives : goal.returns-then-is_empty-2-clause-gives
returns-then-is_empty-2-clause-gives c = ends_here _ _ _ _ _ _ c.tokens.invariant.so_far (search (rules, tests))

pub returns-else-is_empty-2-clause-gives : goal.returns-else-is_empty-2-clause-gives
returns-else-is_empty-2-clause-gives c =
    let some : 0 < length c.tokens.left.now = search (rules, tests) in
    ends_past _ _ _ _ _ _ c.tokens.invariant.so_far some c.tokens-test.false
