use Rattle.std.proofs.Common.{arith}
use Rattle.std.proofs.lemmas.Result.{err_from_is_err_and}
use Rattle.acap_grammar.proofs.SeveralSteps.{fails}
use Rattle.acap_grammar.proofs.several.several.Goals as goal

pub returns-in_err-all : goal.returns-in_err-all
returns-in_err-all g c =
    let p = err_from_is_err_and c.from_residual.result c.from_residual.ensures.1 in
    rw (p.1, p.2) (fails _ _ _ _ c.args.room c.loop.counter c.loop.all _ _ (omega arith) c.if-is_over.ensures c.in_err-all.ensures c.loop.invariant)
