use Rattle.std.proofs.Common.{◌≡◌, length}
use Rattle.world_packets.specs.All.{kept_all}
use Rattle.world_tests.proofs.packets.go_late.Given as goal

-- one packet was sent in each tick
abbrev pub invariant-loop-number : goal.invariant-loop-number
invariant-loop-number l = length (kept_all l.packets) ≡ l.number
