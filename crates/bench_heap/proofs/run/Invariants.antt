use Rattle.bench_heap.proofs.run.Given as goal

-- the heap's steps are counted in the ledger that the blank is for
abbrev pub ghosts-by_heap : goal.ghosts-by_heap
ghosts-by_heap a = record { name = a.blank.name; parts = a.blank.parts }
