use Rattle.std.proofs.Common.{◌≡◌, ◌+◌, ◌*◌, ◌++◌, length, take}
use Rattle.std.specs.Int.{w32, to_be_bytes}
use Rattle.std.specs.List.{flat_map}
use Rattle.homa_wire.proofs.writing.write_bounds.Given as goal

abbrev pub invariant-loop-bound : goal.invariant-loop-bound
invariant-loop-bound l =
    (l.frame ≡ l.initial.frame ++ flat_map (to_be_bytes w32) (take l.bound-index l.upto))
    × (length l.frame ≡ length l.initial.frame + 4 * l.bound-index)
