use Rattle.acap_serving_tests.proofs.workers.run_all.Given as goal

abbrev pub ghosts-run_on-S-Ledger : goal.ghosts-run_on-S-Ledger
ghosts-run_on-S-Ledger g a = record { name = a.blank.name; parts = a.blank.parts }

abbrev pub ghosts-run_on-S-Site : goal.ghosts-run_on-S-Site
ghosts-run_on-S-Site g a = record { base = a.state.machine }

abbrev pub ghosts-run_on-L-Ledger : goal.ghosts-run_on-L-Ledger
ghosts-run_on-L-Ledger g a = record { name = a.counter.name; parts = a.counter.parts }
