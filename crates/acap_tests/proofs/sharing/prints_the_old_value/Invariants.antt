use Rattle.acap_tests.proofs.sharing.prints_the_old_value.Given as goal

abbrev pub ghosts-is_old : goal.ghosts-is_old
ghosts-is_old g a = record { name = a.blank.name; parts = a.blank.parts }
