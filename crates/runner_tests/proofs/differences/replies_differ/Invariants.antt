use Rattle.runner_tests.proofs.differences.replies_differ.Given as goal

abbrev pub ghosts-look_into : goal.ghosts-look_into
ghosts-look_into g a = record { name = a.blank.name; parts = a.blank.parts }
