use Rattle.runner_tests.proofs.meeting.two_harts_meet.Given as goal

abbrev pub ghosts-meet : goal.ghosts-meet
ghosts-meet g a = record { name = a.blank.name; parts = a.blank.parts }
