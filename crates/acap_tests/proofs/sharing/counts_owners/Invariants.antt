use Rattle.acap_tests.proofs.sharing.counts_owners.Given as goal

abbrev pub ghosts-are_right : goal.ghosts-are_right
ghosts-are_right g a = record { name = a.blank.name; parts = a.blank.parts }
