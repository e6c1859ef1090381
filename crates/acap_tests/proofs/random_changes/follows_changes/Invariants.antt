use Rattle.acap_tests.proofs.random_changes.follows_changes.Given as goal

abbrev pub ghosts-trouble : goal.ghosts-trouble
ghosts-trouble g a = record { name = a.blank.name; parts = a.blank.parts }
