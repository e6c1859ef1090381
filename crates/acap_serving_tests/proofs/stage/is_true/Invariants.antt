use Rattle.acap_serving_tests.proofs.stage.is_true.Given as goal

abbrev pub ghosts-is_true_over-S-Ledger : goal.ghosts-is_true_over-S-Ledger
ghosts-is_true_over-S-Ledger g a = record { name = a.blank.name; parts = a.blank.parts }

abbrev pub ghosts-is_true_over-S-Site : goal.ghosts-is_true_over-S-Site
ghosts-is_true_over-S-Site g a = record { base = a.state.machine }

abbrev pub ghosts-is_true_over-L-Ledger : goal.ghosts-is_true_over-L-Ledger
ghosts-is_true_over-L-Ledger g a = record { name = a.counter.name; parts = a.counter.parts }
