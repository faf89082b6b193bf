use Rattle.sets_tests.proofs.heap.moves_away_from_the_front.Given as goal

abbrev pub ghosts-grown : goal.ghosts-grown
ghosts-grown g a = record { name = a.blank.name; parts = a.blank.parts }
