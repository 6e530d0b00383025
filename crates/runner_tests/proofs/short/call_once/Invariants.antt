use Rattle.runner_tests.proofs.short.call_once.Given as goal

abbrev pub ghosts-call_on : goal.ghosts-call_on
ghosts-call_on g a = record { name = a.blank.name; parts = a.blank.parts }
