use Rattle.runner_tests.proofs.work.eight_harts.Given as goal

abbrev pub ghosts-round : goal.ghosts-round
ghosts-round g a = record { name = a.blank.name; parts = a.blank.parts }
