use Rattle.runner_tests.proofs.short.open_once.Given as goal

abbrev pub ghosts-opened : goal.ghosts-opened
ghosts-opened g a = record { name = a.blank.name; parts = a.blank.parts }
