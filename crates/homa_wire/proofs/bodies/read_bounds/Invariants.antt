use Rattle.std.proofs.Common.{◌≡◌, ◌-◌, length, take}
use Rattle.std.specs.Int.{w32}
use Rattle.homa_plain.specs.Bytes.{number_at, times}
use Rattle.homa_wire.proofs.Times.{behind}
use Rattle.homa_wire.proofs.bodies.read_bounds.Given as goal

abbrev pub invariant-loop-bound : goal.invariant-loop-bound
invariant-loop-bound l =
    (length l.bound-items ≡ 8)
    × (times (number_at w32) 8 l.bytes ≡ behind (take l.bound-index l.bound-items) (times (number_at w32) (8 - l.bound-index) l.rest))
