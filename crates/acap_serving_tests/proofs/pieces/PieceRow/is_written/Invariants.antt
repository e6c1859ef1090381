use Rattle.acap_serving_tests.proofs.pieces.PieceRow.is_written.Given as goal

abbrev pub ghosts-run_as_script : goal.ghosts-run_as_script
ghosts-run_as_script a = record { name = a.blank.name; parts = a.blank.parts }

abbrev pub ghosts-run_as_pipe : goal.ghosts-run_as_pipe
ghosts-run_as_pipe a = record { name = a.blank.name; parts = a.blank.parts }
