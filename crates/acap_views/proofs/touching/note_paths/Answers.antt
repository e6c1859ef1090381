use Rattle.acap_views.proofs.TouchingLemmas.{in_one_dataset}
use Rattle.acap_views.proofs.touching.note_paths.Goals as goal

pub returns-then-is_empty-clause-paths : goal.returns-then-is_empty-clause-paths
returns-then-is_empty-clause-paths c = λ none.
    in_one_dataset c.args.ahead.now.change c.args.ahead.now.old c.args.sought.now c.in_ok-paths.paths c.in_ok-paths.ensures none

pub returns-clause-paths : goal.returns-clause-paths
returns-clause-paths c = λ none.
    in_one_dataset c.args.ahead.now.change c.args.ahead.now.old c.args.sought.now c.in_ok-paths.paths c.in_ok-paths.ensures none
