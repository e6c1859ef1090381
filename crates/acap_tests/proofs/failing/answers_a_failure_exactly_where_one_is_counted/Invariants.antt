use Rattle.acap_tests.proofs.failing.answers_a_failure_exactly_where_one_is_counted.Given as goal

abbrev pub ghosts-all_right : goal.ghosts-all_right
ghosts-all_right g a = record { name = a.blank.name; parts = a.blank.parts }
