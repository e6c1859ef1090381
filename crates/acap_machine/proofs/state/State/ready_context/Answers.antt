use Rattle.std.proofs.lemmas.Result.{err_from_is_err_and}
use Rattle.acap_machine.proofs.ReadyLemmas.{no_memory}
use Rattle.acap_machine.proofs.state.State.ready_context.Goals as goal

pub returns-in_err-refuse_view-in-Err-clause-answer : goal.returns-in_err-refuse_view-in-Err-clause-answer
returns-in_err-refuse_view-in-Err-clause-answer c =
    let p = err_from_is_err_and c.from_residual-in_err-refuse_view-in-Err.result c.from_residual-in_err-refuse_view-in-Err.ensures.1 in
    no_memory _ _ _ p.0 _ p.1 p.2
