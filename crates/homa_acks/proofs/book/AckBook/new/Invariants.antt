use Rattle.std.proofs.Common.{◌≡◌, [], replicate}
use Rattle.homa_acks.proofs.book.AckBook.new.Given as goal

abbrev pub invariant-loop : goal.invariant-loop
invariant-loop l = l.peers.items ≡ replicate l.counter []
