use Rattle.acap_serving_tests.proofs.devices.devices_report_all.Given as goal

abbrev pub ghosts-is_written : goal.ghosts-is_written
ghosts-is_written g a = record { name = a.blank.name; parts = a.blank.parts }
