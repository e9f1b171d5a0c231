use Rattle.call_tests.proofs.many.are_found.Given as goal

abbrev pub ghosts-have_one_each : goal.ghosts-have_one_each
ghosts-have_one_each a = record { name = a.blank.name; parts = a.blank.parts }
