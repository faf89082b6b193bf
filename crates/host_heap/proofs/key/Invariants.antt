use Rattle.host_heap.proofs.key.Given as goal

-- the heap's steps are counted in the ledger that the blank is for
abbrev pub ghosts-key_counted : goal.ghosts-key_counted
ghosts-key_counted a = record { name = a.blank.name; parts = a.blank.parts }
