use Rattle.acap_tests.proofs.pipe.ends_where_a_reader_or_writer_fails.Given as goal

abbrev pub ghosts-are_right : goal.ghosts-are_right
ghosts-are_right g a = record { name = a.blank.name; parts = a.blank.parts }
