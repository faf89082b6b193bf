use Rattle.std.proofs.Common.{◌≡◌, ◌+◌, ◌*◌, ◌++◌, length, take}
use Rattle.std.specs.List.{flat_map}
use Rattle.homa_plain.specs.Bytes.{two}
use Rattle.homa_wire.proofs.writing.write_calls.Given as goal

abbrev pub invariant-loop-inc : goal.invariant-loop-inc
invariant-loop-inc l =
    (l.frame ≡ l.initial.frame ++ flat_map two (take l.inc-index l.calls))
    × (length l.frame ≡ length l.initial.frame + 8 * l.inc-index)
