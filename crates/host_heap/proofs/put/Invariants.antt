use Rattle.host_heap.proofs.put.Given as goal

-- the heap's steps are counted in the ledger that the blank is for
abbrev pub ghosts-put_counted : goal.ghosts-put_counted
ghosts-put_counted a = record { name = a.blank.name; parts = a.blank.parts }
