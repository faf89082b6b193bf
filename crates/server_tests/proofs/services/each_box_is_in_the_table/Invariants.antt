-- As many boxes as were made, and host 1 has a seat.
use Rattle.std.proofs.Common.{◌≡◌, length, IsSome}
use Rattle.homa_service.specs.Table.{places, place_of}
use Rattle.server_tests.proofs.services.each_box_is_in_the_table.Given as goal

abbrev pub invariant-loop-made : goal.invariant-loop-made
invariant-loop-made g l = length l.boxes.items ≡ l._made

abbrev pub invariant-loop-left : goal.invariant-loop-left
invariant-loop-left g l = IsSome (place_of (places l.table) 1)
