use Rattle.sets_tests.proofs.heap.puts_one_cell.Given as goal

abbrev pub ghosts-put_one : goal.ghosts-put_one
ghosts-put_one g a = record { name = a.blank.name; parts = a.blank.parts }
