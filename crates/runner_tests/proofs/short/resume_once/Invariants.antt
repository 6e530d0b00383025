use Rattle.runner_tests.proofs.short.resume_once.Given as goal

abbrev pub ghosts-resume_on : goal.ghosts-resume_on
ghosts-resume_on g a = record { name = a.blank.name; parts = a.blank.parts }
