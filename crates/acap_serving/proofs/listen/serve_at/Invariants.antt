use Rattle.acap_serving.proofs.listen.serve_at.Given as goal

abbrev pub ghosts-run_site-S-Ledger : goal.ghosts-run_site-S-Ledger
ghosts-run_site-S-Ledger g a = record { name = a.blank.name; parts = a.blank.parts }

abbrev pub ghosts-run_site-S-Site : goal.ghosts-run_site-S-Site
ghosts-run_site-S-Site g a = record { base = a.state.machine }

abbrev pub ghosts-run_site-L-Ledger : goal.ghosts-run_site-L-Ledger
ghosts-run_site-L-Ledger g a = record { name = a.counter.name; parts = a.counter.parts }
