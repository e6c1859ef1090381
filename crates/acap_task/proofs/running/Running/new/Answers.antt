use Rattle.acap_task.proofs.Keeping.{kept_first}
use Rattle.acap_task.proofs.running.Running.new.Goals as goal

pub invariant_of-result-clause-kept : goal.invariant_of-result-clause-kept
invariant_of-result-clause-kept g c = ∣ kept_first _ _ _ c.begin-session.ensures c.new-progress.ensures c.requires ∣₁
