use Rattle.call_tests.proofs.tables.is_case_found.Given as goal

abbrev pub ghosts-is_found : goal.ghosts-is_found
ghosts-is_found a = record { name = a.blank.name; parts = a.blank.parts }
