use Rattle.acap_tests.proofs.inherited.inherits_entries.Given as goal

abbrev pub ghosts-trouble : goal.ghosts-trouble
ghosts-trouble g a = record { name = a.blank.name; parts = a.blank.parts }
