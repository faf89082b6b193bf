use Rattle.sets_tests.proofs.heap.lists_by_key_and_slot.Given as goal

abbrev pub ghosts-changed : goal.ghosts-changed
ghosts-changed g a = record { name = a.blank.name; parts = a.blank.parts }
