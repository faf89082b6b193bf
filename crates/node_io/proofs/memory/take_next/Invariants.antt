use Rattle.std.proofs.Common.{◌≡◌, ◌≤◌, ◌-◌, ◌++◌, length, map, take, drop, vec_capacity}
use Rattle.node_io.specs.Hosts.{set_has}
use Rattle.node_io.specs.Net.{next_arrival, left_queued, datagram_of}
use Rattle.node_io.proofs.memory.take_next.Given as goal

-- what stands before `at` is for other hosts and stays, and what was passed over is gone
abbrev pub invariant-loop-at : goal.invariant-loop-at
invariant-loop-at l = record {
  oldest : next_arrival (set_has l.known) l.host (map datagram_of l.fn.queued.items) ≡ next_arrival (set_has l.known) l.host
      (map datagram_of (drop l.at l.queued.items));
  left : left_queued (set_has l.known) l.host (map datagram_of l.fn.queued.items)
      ≡ map datagram_of (take l.at l.queued.items) ++ left_queued (set_has l.known) l.host (map datagram_of (drop l.at l.queued.items));
  len : length l.queued.items ≤ length l.fn.queued.items;
  capacity : vec_capacity l.queued ≡ vec_capacity l.fn.queued;
}

abbrev pub decreases-loop-at : goal.decreases-loop-at
decreases-loop-at l = length l.queued.items - l.at
