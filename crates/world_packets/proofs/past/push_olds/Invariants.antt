use Rattle.std.proofs.Common.{◌≤◌, ◌+◌, ◌-◌, take, length}
use Rattle.std.specs.Prelude.{vec_capacity}
use Rattle.world_packets.specs.Blocks.{frames_of}
use Rattle.world_packets.specs.Olds.{AddsOlds}
use Rattle.world_packets.proofs.past.push_olds.Given as goal

-- what is kept of those so far was added, and there is room for the others
abbrev pub invariant-loop-i : goal.invariant-loop-i
invariant-loop-i l = record {
  adds : AddsOlds l.reach l.now (take l.i (frames_of l.block)) l.fn.olds.items l.olds.items;
  room : length l.olds.items + (length (frames_of l.block) - l.i) ≤ vec_capacity l.olds;
}
