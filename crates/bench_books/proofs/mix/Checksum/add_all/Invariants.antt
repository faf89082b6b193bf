use Rattle.std.proofs.Common.{◌≡◌, take, fold}
use Rattle.bench_books.specs.Sums.{with_answer}
use Rattle.bench_books.proofs.mix.Checksum.add_all.Given as goal

abbrev pub invariant-loop-slot : goal.invariant-loop-slot
invariant-loop-slot l = l.self.sum ≡ fold with_answer l.initial.self.sum (take l.slot-index l.slots)
