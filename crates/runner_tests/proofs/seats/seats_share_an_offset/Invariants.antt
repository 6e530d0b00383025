use Rattle.runner_tests.proofs.seats.seats_share_an_offset.Given as goal

abbrev pub ghosts-two_reads : goal.ghosts-two_reads
ghosts-two_reads g a = record { name = a.blank.name; parts = a.blank.parts }
