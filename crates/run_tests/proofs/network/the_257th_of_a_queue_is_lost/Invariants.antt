-- There are two hosts.
use Rattle.std.proofs.Common.{◌≡◌, ◌≤◌, ◌+◌, length}
use Rattle.run_tests.proofs.network.the_257th_of_a_queue_is_lost.Given as goal

abbrev pub invariant-loop-number : goal.invariant-loop-number
invariant-loop-number g l = length l.fabric.fabric.destinations ≡ 2

abbrev pub invariant-loop : goal.invariant-loop
invariant-loop g l = (length l.fabric.fabric.destinations ≡ 2) × (l.handed ≤ 1 + l.counter)
