use Rattle.acap_tests.proofs.stories.clients_hold_what_stories_say.Given as goal

abbrev pub ghosts-holds : goal.ghosts-holds
ghosts-holds g a = record { name = a.blank.name; parts = a.blank.parts }
