use Rattle.std.proofs.Common.{◌≡◌, ◌-◌, length}
use Rattle.homa_plain.specs.Bytes.{two_at, times}
use Rattle.homa_wire.proofs.Times.{behind}
use Rattle.homa_wire.proofs.bodies.read_calls.Given as goal

abbrev pub invariant-loop-i : goal.invariant-loop-i
invariant-loop-i l = (length l.more ≡ l._i) × (times two_at l.count l.bytes ≡ behind l.more (times two_at (l.count - l._i) l.rest))
