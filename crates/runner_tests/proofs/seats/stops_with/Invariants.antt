use Rattle.runner_tests.proofs.seats.stops_with.Given as goal

abbrev pub ghosts-stops : goal.ghosts-stops
ghosts-stops g a = record { name = a.blank.name; parts = a.blank.parts }
