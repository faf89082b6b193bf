use Rattle.place_heap.proofs.heaps.PlaceHeaps.replace.Given as goal

-- the heap's steps are counted in the ledger that the blank is for
abbrev pub ghosts-replace : goal.ghosts-replace
ghosts-replace a = record { name = a.blank.name; parts = a.blank.parts }
