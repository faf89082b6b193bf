use Rattle.host_heap.proofs.first_k.Given as goal

-- the heap's steps are counted in the ledger that the blank is for
abbrev pub ghosts-first_k_counted : goal.ghosts-first_k_counted
ghosts-first_k_counted a = record { name = a.blank.name; parts = a.blank.parts }
