use Rattle.runner_tests.proofs.handed.eight_harts.Given as goal

abbrev pub ghosts-hand_round : goal.ghosts-hand_round
ghosts-hand_round g a = record { name = a.blank.name; parts = a.blank.parts }
