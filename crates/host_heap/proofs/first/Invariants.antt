use Rattle.host_heap.proofs.first.Given as goal

-- the heap's steps are counted in the ledger that the blank is for
abbrev pub ghosts-first_counted : goal.ghosts-first_counted
ghosts-first_counted a = record { name = a.blank.name; parts = a.blank.parts }
