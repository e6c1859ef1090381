use Rattle.acap_tests.proofs.work.looks_at_what_is_touched.Given as goal

abbrev pub ghosts-is_filled_and_right : goal.ghosts-is_filled_and_right
ghosts-is_filled_and_right g a = record { name = a.blank.name; parts = a.blank.parts }
