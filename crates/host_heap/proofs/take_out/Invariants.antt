use Rattle.host_heap.proofs.take_out.Given as goal

-- the heap's steps are counted in the ledger that the blank is for
abbrev pub ghosts-take_out_counted : goal.ghosts-take_out_counted
ghosts-take_out_counted a = record { name = a.blank.name; parts = a.blank.parts }
